-- Document 01, "Records": what a run is made of, and fresh.
use Rattle.std.specs.Prelude.{true, false, List, [], ◌∷◌, ℕ, get_or, set, replicate}
use Rattle.sets.specs.Scans.{empty}
use Rattle.sets.specs.Acceptors.{none}
use Rattle.sizes.specs.declared.Sizes.{Sizes}
use Rattle.model.specs.declared.Proposer.{Proposer}
use Rattle.model.specs.declared.Acceptor.{Acceptor}
use Rattle.model.specs.declared.Heard.{Heard}
use Rattle.model.specs.declared.Learner.{Learner}
use Rattle.model.specs.declared.Message.{Message}
pub use Rattle.model.specs.declared.Kind.{Kind}
pub use Rattle.model.specs.declared.Kind.TheVariants.{Free as free, Internal as internal, Proposal as proposal, Acknowledgement as acknowledgement, Rejection as rejection, Announcement as announcement, NoKind as no_kind}
pub use Rattle.model.specs.declared.Role.{Role}
pub use Rattle.model.specs.declared.Role.TheVariants.{NoRole as no_role, Proposer as a_proposer, Acceptor as an_acceptor, Learner as a_learner}

-- the records of a run's parties and the table of messages in flight
pub record State : Type 0 where
  pub proposers : List Proposer
  pub acceptors : List Acceptor
  pub learners : List Learner
  pub slots : List Message

-- ---- kinds of messages and roles of parties

-- 0 free, 1 internal, 2 proposal, 3 acknowledgement to a proposer, 4 rejection, 5 acknowledgement to a learner, here an announcement
abbrev pub kind_of : ℕ → Kind
kind_of n = get_or (free ∷ internal ∷ proposal ∷ acknowledgement ∷ rejection ∷ announcement ∷ []) n no_kind

-- of Crash: role 1 proposer, 2 acceptor, 3 learner
abbrev pub role_of : ℕ → Role
role_of n = get_or (no_role ∷ a_proposer ∷ an_acceptor ∷ a_learner ∷ []) n no_role

-- whom a message of a kind is addressed to
abbrev pub addressed : Kind → Role
addressed free = no_role
addressed internal = a_proposer
addressed proposal = an_acceptor
addressed acknowledgement = a_proposer
addressed rejection = a_proposer
addressed announcement = a_learner
addressed no_kind = no_role

-- ---- fresh: all alive, passive, sets empty, numbers 0, slots free

abbrev pub fresh_proposer : Proposer
fresh_proposer = record {
  alive = true;
  active = false;
  buffered = empty;
  proposed = empty;
  gathered = empty;
  number = 0;
  acknowledged = none;
  rejected = none;
  decided = empty;
}

abbrev pub fresh_acceptor : Acceptor
fresh_acceptor = record { alive = true; accepted = empty }

abbrev pub unheard : Heard
unheard = record { number = 0; set = empty; acceptors = none }

abbrev pub fresh_learner : Learner
fresh_learner = record { alive = true; learnt = empty; heard = replicate 8 unheard }

-- a free slot is all zero
abbrev pub free_slot : Message
free_slot = record {
  kind = 0;
  addressee = 0;
  proposer = record { 0 = 0 };
  acceptor = record { 0 = 0 };
  number = 0;
  set = empty;
}

unfoldable pub fresh : Sizes → State
fresh z = record {
  proposers = replicate z.proposers fresh_proposer;
  acceptors = replicate z.acceptors fresh_acceptor;
  learners = replicate z.learners fresh_learner;
  slots = replicate z.slots free_slot;
}

-- ---- one record of a state: read, and put in its place

abbrev pub proposer_of : State → ℕ → Proposer
proposer_of s i = get_or s.proposers i fresh_proposer

abbrev pub acceptor_of : State → ℕ → Acceptor
acceptor_of s i = get_or s.acceptors i fresh_acceptor

abbrev pub learner_of : State → ℕ → Learner
learner_of s i = get_or s.learners i fresh_learner

abbrev pub heard_of : Learner → ℕ → Heard
heard_of l i = get_or l.heard i unheard

abbrev pub slot_of : State → ℕ → Message
slot_of s i = get_or s.slots i free_slot

abbrev pub put_proposer : State → ℕ → Proposer → State
put_proposer s i p = record {
  proposers = set s.proposers i p;
  acceptors = s.acceptors;
  learners = s.learners;
  slots = s.slots;
}

abbrev pub put_acceptor : State → ℕ → Acceptor → State
put_acceptor s i q = record {
  proposers = s.proposers;
  acceptors = set s.acceptors i q;
  learners = s.learners;
  slots = s.slots;
}

abbrev pub put_learner : State → ℕ → Learner → State
put_learner s i l = record {
  proposers = s.proposers;
  acceptors = s.acceptors;
  learners = set s.learners i l;
  slots = s.slots;
}

abbrev pub put_slots : State → List Message → State
put_slots s t = record {
  proposers = s.proposers;
  acceptors = s.acceptors;
  learners = s.learners;
  slots = t;
}

abbrev pub freeing : State → ℕ → State
freeing s i = put_slots s (set s.slots i free_slot)
