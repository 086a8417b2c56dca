-- The bytes of sets and records as the site server keeps them, fixed for good. A record has one written form: reading back what was written gives the record, and writing what was read gives the bytes (proofs/LayoutLaws). Past the end a byte reads 0.
use Rattle.std.specs.Prelude.{Bool, ◌&&◌, List, [], ◌∷◌, ◌++◌, ℕ, zero, suc, ◌+◌, ◌-◌, ◌*◌, ◌/◌, ◌%◌, min, eqb, ltb, leb, length, get_or, take, replicate}
use Rattle.std.specs.Prelude.{if◌then◌else◌}
use Rattle.sets.specs.Scans.{fits, first_word, of_first_word}
use Rattle.sets.specs.declared.scans.Scans.{Scans}
use Rattle.sets.specs.declared.acceptors.Acceptors.{Acceptors}
use Rattle.sizes.specs.Sizes.{between, sizes_in_range}
use Rattle.sizes.specs.declared.Sizes.{Sizes}
use Rattle.model.specs.Records.{unheard}
use Rattle.model.specs.Rules.{greatest_number}
use Rattle.model.specs.Ranges.{acceptor_in_range, proposer_in_range, learner_in_range}
use Rattle.model.specs.declared.Acceptor.{Acceptor}
use Rattle.model.specs.declared.Heard.{Heard}
use Rattle.model.specs.declared.Learner.{Learner}
use Rattle.model.specs.declared.Proposer.{Proposer}

-- the sizes of a run, as a call takes them: proposers, acceptors and scans; the others are the least
abbrev pub sizes_of : ℕ → ℕ → ℕ → Sizes
sizes_of p a s = record { proposers = p; acceptors = a; learners = 1; slots = 16; scans = s }

-- ---- a number in n bytes, low byte first

unfoldable pub word_at : ℕ → List ℕ → ℕ → ℕ
word_at zero bytes at = 0
word_at (suc n) bytes at = word_at n bytes (suc at) * 256 + get_or bytes at 0

unfoldable pub word_bytes : ℕ → ℕ → List ℕ
word_bytes zero word = []
word_bytes (suc n) word = word % 256 ∷ word_bytes n (word / 256)

-- ---- the fields of records

-- a set is its words, 8 bytes each, scan 0 the lowest bit of the first byte
abbrev pub set_words : ℕ
set_words = 1

abbrev pub set_size : ℕ
set_size = 8 * set_words

abbrev pub set_at : List ℕ → ℕ → Scans
set_at bytes at = of_first_word (word_at 8 bytes at)

abbrev pub set_bytes : Scans → List ℕ
set_bytes v = word_bytes 8 (first_word v)

-- a proposal's number is 2 bytes
abbrev pub number_at : List ℕ → ℕ → ℕ
number_at bytes at = word_at 2 bytes at

abbrev pub number_bytes : ℕ → List ℕ
number_bytes n = word_bytes 2 n

-- a set of acceptors is 1 byte, acceptor 0 the lowest bit
abbrev pub acceptors_at : List ℕ → ℕ → Acceptors
acceptors_at bytes at = record { bits = get_or bytes at 0 }

abbrev pub acceptors_bytes : Acceptors → List ℕ
acceptors_bytes q = q.bits ∷ []

-- a flag is 1 byte, 0 or 1
abbrev pub is_flag : List ℕ → ℕ → Bool
is_flag bytes at = leb (get_or bytes at 0) 1

abbrev pub flag_at : List ℕ → ℕ → Bool
flag_at bytes at = eqb (get_or bytes at 0) 1

abbrev pub flag_bytes : Bool → List ℕ
flag_bytes t = (if t then 1 else 0) ∷ []

-- ---- a set by itself: within S

unfoldable pub is_set : ℕ → List ℕ → Bool
is_set s bytes = eqb (length bytes) set_size && fits (set_at bytes 0) s

-- ---- an answer: from an acceptor of the run, to a proposal's number

abbrev pub is_answer : ℕ → ℕ → ℕ → Bool
is_answer a acceptor number = ltb acceptor a && between 1 greatest_number number

-- ---- an acceptor's record: alive, accepted

abbrev pub flagged_size : ℕ
flagged_size = 1 + set_size

abbrev pub flagged : Bool → Scans → List ℕ
flagged t v = flag_bytes t ++ set_bytes v

unfoldable pub acceptor_bytes : Acceptor → List ℕ
acceptor_bytes q = flagged q.alive q.accepted

unfoldable pub acceptor_at : List ℕ → Acceptor
acceptor_at bytes = record { alive = flag_at bytes 0; accepted = set_at bytes 1 }

-- the sizes, the length and every field are within their ranges
unfoldable pub is_acceptor : ℕ → List ℕ → Bool
is_acceptor s bytes =
    sizes_in_range (sizes_of 1 1 s)
    && eqb (length bytes) flagged_size
    && is_flag bytes 0
    && acceptor_in_range (sizes_of 1 1 s) (acceptor_at bytes)

-- ---- a proposer's record: alive, active, buffered, proposed, gathered, number, acknowledged, rejected, decided

-- where a field begins, and the length of all
abbrev pub buffered_place : ℕ
buffered_place = 2

abbrev pub proposed_place : ℕ
proposed_place = buffered_place + set_size

abbrev pub gathered_place : ℕ
gathered_place = proposed_place + set_size

abbrev pub number_place : ℕ
number_place = gathered_place + set_size

abbrev pub acknowledged_place : ℕ
acknowledged_place = number_place + 2

abbrev pub rejected_place : ℕ
rejected_place = acknowledged_place + 1

abbrev pub decided_place : ℕ
decided_place = rejected_place + 1

abbrev pub proposer_size : ℕ
proposer_size = decided_place + set_size

unfoldable pub proposer_bytes : Proposer → List ℕ
proposer_bytes p =
    flag_bytes p.alive
    ++ flag_bytes p.active
    ++ set_bytes p.buffered
    ++ set_bytes p.proposed
    ++ set_bytes p.gathered
    ++ number_bytes p.number
    ++ acceptors_bytes p.acknowledged
    ++ acceptors_bytes p.rejected
    ++ set_bytes p.decided

unfoldable pub proposer_at : List ℕ → Proposer
proposer_at bytes = record {
  alive = flag_at bytes 0;
  active = flag_at bytes 1;
  buffered = set_at bytes buffered_place;
  proposed = set_at bytes proposed_place;
  gathered = set_at bytes gathered_place;
  number = number_at bytes number_place;
  acknowledged = acceptors_at bytes acknowledged_place;
  rejected = acceptors_at bytes rejected_place;
  decided = set_at bytes decided_place;
}

unfoldable pub is_proposer : ℕ → ℕ → List ℕ → Bool
is_proposer a s bytes =
    sizes_in_range (sizes_of 1 a s)
    && eqb (length bytes) proposer_size
    && is_flag bytes 0
    && is_flag bytes 1
    && proposer_in_range (sizes_of 1 a s) (proposer_at bytes)

-- ---- a learner's record: alive, learnt, then for each proposer number, set, acceptors

abbrev pub heard_size : ℕ
heard_size = 2 + set_size + 1

abbrev pub heard_place : ℕ → ℕ
heard_place i = flagged_size + heard_size * i

unfoldable pub heard_bytes : Heard → List ℕ
heard_bytes h = number_bytes h.number ++ set_bytes h.set ++ acceptors_bytes h.acceptors

unfoldable pub heard_at : List ℕ → ℕ → Heard
heard_at bytes at =
    record { number = number_at bytes at; set = set_at bytes (at + 2); acceptors = acceptors_at bytes (at + (2 + set_size)) }

-- what was heard of one proposer after the other
unfoldable pub places_bytes : List Heard → List ℕ
places_bytes [] = []
places_bytes (h ∷ hs) = heard_bytes h ++ places_bytes hs

-- of the first n proposers
unfoldable pub places_at : ℕ → List ℕ → List Heard
places_at zero bytes = []
places_at (suc n) bytes = places_at n bytes ++ heard_at bytes (heard_place n) ∷ []

unfoldable pub learner_bytes : ℕ → Learner → List ℕ
learner_bytes p l = flagged l.alive l.learnt ++ places_bytes (take p l.heard)

-- eight places: of proposers past the run's own nothing is heard
unfoldable pub learner_at : ℕ → List ℕ → Learner
learner_at p bytes = record {
  alive = flag_at bytes 0;
  learnt = set_at bytes 1;
  heard = places_at (min p 8) bytes ++ replicate (8 - p) unheard;
}

unfoldable pub is_learner : ℕ → ℕ → ℕ → List ℕ → Bool
is_learner p a s bytes =
    sizes_in_range (sizes_of p a s)
    && eqb (length bytes) (heard_place p)
    && is_flag bytes 0
    && learner_in_range (sizes_of p a s) (learner_at p bytes)
