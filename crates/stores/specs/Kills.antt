-- Servers that may be killed: each party's record as it is now and as it is kept in store, and the condition under which demand 3 holds of what is kept: nothing is sent or shown that the kept record does not have.
use Rattle.std.specs.Prelude.{◌≡◌, ◌⊎◌, List, ℕ, suc}
use Rattle.sets.specs.declared.scans.Scans.{Scans}
use Rattle.model.specs.Network.{Net, SendsOnly, Same, Nothing}
use Rattle.layouts.specs.Layout.{set_at, decided_place}
use Rattle.stores.specs.Stores.{Stores, Call, Begun, History}
use Rattle.stores.specs.Safety.{Given, Safe}

-- a party's record now, and as kept: a kill leaves the one that is kept
pub record Held : Type 0 where
  pub now : List ℕ
  pub kept : List ℕ

abbrev pub Servers : Type 1
Servers = Net Held Held Held

-- the records now
abbrev pub now_of : Servers → Stores
now_of v = record {
  proposer = λ i. (v.proposer i).now;
  acceptor = λ j. (v.acceptor j).now;
  learner = λ l. (v.learner l).now;
  sent = v.sent;
}

-- the records as kept
abbrev pub kept_of : Servers → Stores
kept_of v = record {
  proposer = λ i. (v.proposer i).kept;
  acceptor = λ j. (v.acceptor j).kept;
  learner = λ l. (v.learner l).kept;
  sent = v.sent;
}

-- each party goes on with its record now, or with the one that is kept
abbrev pub GoesOn : (ℕ → Held) → (ℕ → Held) → Type 0
GoesOn f g = (i : ℕ) → ((g i).now ≡ (f i).now) ⊎ ((g i).now ≡ (g i).kept)

pub record GoOn (v v' : Servers) : Type 0 where
  pub proposers : GoesOn v.proposer v'.proposer
  pub acceptors : GoesOn v.acceptor v'.acceptor
  pub learners : GoesOn v.learner v'.learner

-- what is kept stays, and nothing is sent
pub record Unkept (v v' : Servers) : Type 0 where
  pub proposers : Same (kept_of v).proposer (kept_of v').proposer
  pub acceptors : Same (kept_of v).acceptor (kept_of v').acceptor
  pub learners : Same (kept_of v).learner (kept_of v').learner
  pub nothing : SendsOnly v v' Nothing

pub data Step (p a s : ℕ) (v v' : Servers) : Type 0 where
  -- what a call left is kept; from now on what its result says may be sent. Calls that one store keeps are kept one after the other
  kept : Call p a s (kept_of v) (kept_of v') → GoOn v v' → Step p a s v v'
  -- a call whose record is not kept, or not yet: nothing of it is sent
  unkept : Call p a s (now_of v) (now_of v') → Unkept v v' → Step p a s v v'
  -- kills: parties go on from what they kept; a party that never does makes no more steps
  killed : GoOn v v' → Unkept v v' → Step p a s v v'

pub record Lives (p a s : ℕ) : Type 1 where
  pub servers : ℕ → Servers
  pub begins : Begun p (kept_of (servers 0))
  pub steps : (i : ℕ) → Step p a s (servers i) (servers (suc i))

-- a set that a party shows: learnt or decided in its record now, and in the one that is kept
pub data Shows (v : Servers) (u : Scans) : Type 0 where
  learnt : (l : ℕ) → set_at (v.learner l).now 1 ≡ u → set_at (v.learner l).kept 1 ≡ u → Shows v u
  decided : (i : ℕ) → set_at (v.proposer i).now decided_place ≡ u → set_at (v.proposer i).kept decided_place ≡ u → Shows v u

-- what is kept is a history of calls, of which demand 3 holds, and what is shown stands in it
pub record Relies {p a s : ℕ} (h : Lives p a s) : Type 1 where
  pub history : History p a s
  pub kept : (i : ℕ) → history.stores i ≡ kept_of (h.servers i)
  pub safe : Safe history
  pub shown : (i : ℕ) (u : Scans) → Shows (h.servers i) u → Given (history.stores i) u
