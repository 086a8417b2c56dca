-- Document 01, "Records" and "Events": messages, and the table that they are sent into.
use Rattle.std.specs.Prelude.{Bool, List, [], ◌∷◌, ℕ, zero, suc, eqb}
use Rattle.std.specs.Prelude.{if◌then◌else◌}
use Rattle.sets.specs.declared.scans.Scans.{Scans}
use Rattle.model.specs.declared.Message.{Message}

-- ---- messages: fields that a kind does not use are 0

-- internal, of a set, to a proposer
abbrev pub Internal : Scans → ℕ → Message
Internal v to = record {
  kind = 1;
  addressee = to;
  proposer = record { 0 = 0 };
  acceptor = record { 0 = 0 };
  number = 0;
  set = v;
}

-- a proposal of proposer p, of number n and a set, to an acceptor
abbrev pub Proposal : ℕ → ℕ → Scans → ℕ → Message
Proposal p n v to = record {
  kind = 2;
  addressee = to;
  proposer = record { 0 = p };
  acceptor = record { 0 = 0 };
  number = n;
  set = v;
}

-- an acknowledgement of acceptor j, of number n and a set, to a proposer
abbrev pub Acknowledgement : ℕ → ℕ → Scans → ℕ → Message
Acknowledgement j n v to = record {
  kind = 3;
  addressee = to;
  proposer = record { 0 = 0 };
  acceptor = record { 0 = j };
  number = n;
  set = v;
}

-- a rejection of acceptor j, of number n and a set, to a proposer
abbrev pub Rejection : ℕ → ℕ → Scans → ℕ → Message
Rejection j n v to = record {
  kind = 4;
  addressee = to;
  proposer = record { 0 = 0 };
  acceptor = record { 0 = j };
  number = n;
  set = v;
}

-- an acknowledgement of acceptor j, of proposer p's number n and a set, to a learner
abbrev pub Announcement : ℕ → ℕ → ℕ → Scans → ℕ → Message
Announcement p j n v to = record {
  kind = 5;
  addressee = to;
  proposer = record { 0 = p };
  acceptor = record { 0 = j };
  number = n;
  set = v;
}

-- ---- the table

abbrev pub is_free : Message → Bool
is_free m = eqb m.kind 0

-- how many slots are free
unfoldable pub free_slots : List Message → ℕ
free_slots [] = 0
free_slots (x ∷ t) = if is_free x then suc (free_slots t) else free_slots t

-- a message into the lowest free slot
unfoldable pub place : Message → List Message → List Message
place m [] = []
place m (x ∷ t) = if is_free x then (m ∷ t) else (x ∷ place m t)

-- several, each into the lowest free slot at that moment
unfoldable pub post : List Message → List Message → List Message
post [] t = t
post (m ∷ ms) t = post ms (place m t)

-- ---- addressees in rising order

-- the n numbers from i on
unfoldable pub from : ℕ → ℕ → List ℕ
from i zero = []
from i (suc n) = i ∷ from (suc i) n

-- every one of n
abbrev pub every_one : ℕ → List ℕ
every_one n = from 0 n

unfoldable pub without : ℕ → List ℕ → List ℕ
without a [] = []
without a (x ∷ xs) = if eqb x a then without a xs else (x ∷ without a xs)

-- every other one of n
abbrev pub every_other : ℕ → ℕ → List ℕ
every_other a n = without a (every_one n)
