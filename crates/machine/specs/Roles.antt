-- A step by role: one event on a message that is there, of which an arm leaves out the lists that it does not touch; and a learner by one place.
use Rattle.std.specs.Prelude.{◌≡◌, true, List, ℕ, ◌<◌, ◌≤◌, T as Holds, length, get_or, set}
use Rattle.sizes.specs.Sizes.{sizes_in_range}
use Rattle.sizes.specs.declared.Sizes.{Sizes}
use Rattle.model.specs.Records.{fresh_proposer, fresh_acceptor, fresh_learner, free_slot, heard_of}
use Rattle.model.specs.Table.{post}
use Rattle.model.specs.declared.Proposer.{Proposer}
use Rattle.model.specs.declared.Acceptor.{Acceptor}
use Rattle.model.specs.declared.Learner.{Learner}
use Rattle.model.specs.declared.Message.{Message}
use Rattle.model.specs.declared.Event.{Event}
use Rattle.model.specs.Step.{Answered}
use Rattle.decisions.specs.Sending.{items_of, lacking}
use Rattle.decisions.specs.Change.{learner_after, slot_after}
use Rattle.decisions.specs.declared.arms.Ear.{Ear}
use Rattle.machine.specs.Stepping.{index_in, party_of, reply_of, Left}
use Rattle.decisions.specs.Arms.{arm_of, is_arm, Decision, decide_of, finish_of}
use Rattle.decisions.specs.declared.arms.Arm.TheVariants as arm

-- ---- one event on the message m of slot k

module _ (z : Sizes) (e : Event) (k : ℕ) (m : Message) (ps : List Proposer) (acs : List Acceptor) (ls : List Learner) (t : List Message) where
  abbrev pub proposer_at : Proposer
  proposer_at = get_or ps (index_in (party_of e m) z.proposers) fresh_proposer

  abbrev pub acceptor_at : Acceptor
  acceptor_at = get_or acs (index_in (party_of e m) z.acceptors) fresh_acceptor

  abbrev pub learner_at : Learner
  learner_at = get_or ls (index_in (party_of e m) z.learners) fresh_learner

  abbrev pub decision_at : Decision
  decision_at = decide_of z e m proposer_at acceptor_at learner_at

  abbrev pub finished_at : Decision
  finished_at = finish_of decision_at (lacking decision_at.need t) proposer_at acceptor_at

  abbrev pub step_at : Left
  step_at = record {
    answer = reply_of z e finished_at m learner_at;
    proposers = set ps (index_in (party_of e m) z.proposers) finished_at.change.proposer;
    acceptors = set acs (index_in (party_of e m) z.acceptors) finished_at.change.acceptor;
    learners = set ls (index_in (party_of e m) z.learners) (learner_after z finished_at.change.hears finished_at.change.stops m learner_at);
    slots = post (items_of finished_at.change.send) (set t k (slot_after finished_at.change.frees m));
  }

-- what an arm gives: the answer, its own records where it has any, and the slots
abbrev pub GivesSlots : Left → Answered → List Message → Type 0
GivesSlots l r t = (r ≡ l.answer) × (t ≡ l.slots)

abbrev pub GivesProposers : Left → Answered → List Proposer → List Message → Type 0
GivesProposers l r ps t = (r ≡ l.answer) × ((ps ≡ l.proposers) × (t ≡ l.slots))

abbrev pub GivesAcceptors : Left → Answered → List Acceptor → List Message → Type 0
GivesAcceptors l r acs t = (r ≡ l.answer) × ((acs ≡ l.acceptors) × (t ≡ l.slots))

abbrev pub GivesLearners : Left → Answered → List Learner → List Message → Type 0
GivesLearners l r ls t = (r ≡ l.answer) × ((ls ≡ l.learners) × (t ≡ l.slots))

-- the message is that of its slot
abbrev pub Found : Sizes → ℕ → Message → List Message → Type 0
Found z k m t = (sizes_in_range z ≡ true) × ((k < length t) × (m ≡ get_or t k free_slot))

-- ---- what an arm asks for

abbrev pub OfTable : Sizes → List Message → Event → ℕ → Message → Type 0
OfTable z t e k m = Holds (is_arm arm.Table (arm_of e m)) × Found z k m t

abbrev pub OfProposer : Sizes → List Proposer → List Message → Event → ℕ → Message → Type 0
OfProposer z ps t e k m = Holds (is_arm arm.Proposer (arm_of e m)) × ((z.proposers ≤ length ps) × Found z k m t)

abbrev pub OfAcceptor : Sizes → List Acceptor → List Message → Event → ℕ → Message → Type 0
OfAcceptor z acs t e k m = Holds (is_arm arm.Acceptor (arm_of e m)) × ((z.acceptors ≤ length acs) × Found z k m t)

abbrev pub OfLearner : Sizes → List Learner → List Message → Event → ℕ → Message → Type 0
OfLearner z ls t e k m = Holds (is_arm arm.Learner (arm_of e m)) × ((z.learners ≤ length ls) × Found z k m t)

abbrev pub OfTold : Sizes → List Proposer → List Message → Event → ℕ → Message → Type 0
OfTold z ps t e k m = Holds (is_arm arm.Told (arm_of e m)) × ((z.proposers ≤ length ps) × Found z k m t)

-- ---- a learner by one place

-- what a learner has of itself and of proposer p
abbrev pub ear_of : Learner → ℕ → Ear
ear_of l p = record { alive = l.alive; learnt = l.learnt; heard = heard_of l p }

-- the learner with it
abbrev pub put_ear : Learner → ℕ → Ear → Learner
put_ear l p x = record { alive = x.alive; learnt = x.learnt; heard = set l.heard p x.heard }
