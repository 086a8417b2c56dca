-- A run over the events of a schedule, on the records that a caller lends, as the code does it: event by event, each answer into a log. Contracts of private functions.
use Rattle.std.specs.Prelude.{◌≡◌, List, ℕ, zero, suc, ◌*◌, ◌≤◌, length}
use Rattle.sizes.specs.declared.Sizes.{Sizes}
use Rattle.model.specs.declared.Proposer.{Proposer}
use Rattle.model.specs.declared.Acceptor.{Acceptor}
use Rattle.model.specs.declared.Learner.{Learner}
use Rattle.model.specs.declared.Message.{Message}
use Rattle.model.specs.declared.Event.{Event}
use Rattle.machine.specs.Log.{per_answer, noted}
use Rattle.machine.specs.Calls.{event_of}
use Rattle.machine.specs.Stepping.{step_of, Fits}

-- ---- the run

pub record Ran : Type 0 where
  pub proposers : List Proposer
  pub acceptors : List Acceptor
  pub learners : List Learner
  pub slots : List Message
  pub log : List ℕ

abbrev pub onward : Sizes → Event → ℕ → Ran → Ran
onward z e k r = record {
  proposers = (step_of z e r.proposers r.acceptors r.learners r.slots).proposers;
  acceptors = (step_of z e r.proposers r.acceptors r.learners r.slots).acceptors;
  learners = (step_of z e r.proposers r.acceptors r.learners r.slots).learners;
  slots = (step_of z e r.proposers r.acceptors r.learners r.slots).slots;
  log = noted r.log k (step_of z e r.proposers r.acceptors r.learners r.slots).answer;
}

-- after the first k events
unfoldable pub ran_to : Sizes → List ℕ → Ran → ℕ → Ran
ran_to z ns r zero = r
ran_to z ns r (suc k) = onward z (event_of ns k) k (ran_to z ns r k)

abbrev pub driven : Sizes → List Proposer → List Acceptor → List Learner → List Message → List ℕ → List ℕ → ℕ → Ran
driven z ps acs ls t ns log n = ran_to z ns (record { proposers = ps; acceptors = acs; learners = ls; slots = t; log = log }) n

-- the records fit, and there are numbers and room for all the events
abbrev pub Drives : Sizes → List Proposer → List Acceptor → List Learner → List Message → List ℕ → List ℕ → ℕ → Type 0
Drives z ps acs ls t ns log n = Fits z ps acs ls t × ((3 * n ≤ length ns) × (per_answer * n ≤ length log))

-- what is left is that of a run
abbrev pub Drove : Ran → List Proposer → List Acceptor → List Learner → List Message → List ℕ → Type 0
Drove r ps acs ls t log =
    (ps ≡ r.proposers)
    × ((acs ≡ r.acceptors) × ((ls ≡ r.learners) × ((t ≡ r.slots) × (log ≡ r.log))))
