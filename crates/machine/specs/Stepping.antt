-- One event on the records that a caller lends, as the code does it: fetch, decide, write back. Contracts of private functions.
use Rattle.std.specs.Prelude.{◌≡◌, true, List, ℕ, ◌≤◌, ltb, length, get_or, set}
use Rattle.std.specs.Prelude.{if◌then◌else◌}
use Rattle.sizes.specs.Sizes.{sizes_in_range}
use Rattle.sizes.specs.declared.Sizes.{Sizes}
use Rattle.model.specs.Records.{fresh_proposer, fresh_acceptor, fresh_learner, free_slot}
use Rattle.model.specs.Table.{post}
use Rattle.model.specs.Events.{code_of}
use Rattle.model.specs.declared.Code.{Code}
use Rattle.model.specs.declared.Code.TheVariants.{Receive as receive, Deliver as deliver, Drop as drop, Duplicate as duplicate, Propose as propose, Refine as refine, Decide as decide, Crash as crash, NoCode as no_code}
use Rattle.model.specs.declared.Proposer.{Proposer}
use Rattle.model.specs.declared.Acceptor.{Acceptor}
use Rattle.model.specs.declared.Learner.{Learner}
use Rattle.model.specs.declared.Message.{Message}
use Rattle.model.specs.declared.Event.{Event}
use Rattle.model.specs.Step.{Answered}
use Rattle.decisions.specs.Sending.{items_of, lacking}
use Rattle.decisions.specs.Change.{learner_after, slot_after, answer_of}
use Rattle.decisions.specs.Arms.{Decision, given, decide_of, finish_of}

-- ---- which records an event finds

-- i where it is one of n, and otherwise 0
unfoldable pub index_in : ℕ → ℕ → ℕ
index_in i n = if ltb i n then i else 0

-- the number of the party that an event is about
unfoldable pub party_at : Event → Message → Code → ℕ
party_at e m receive = e.a
party_at e m deliver = m.addressee
party_at e m drop = e.a
party_at e m duplicate = e.a
party_at e m propose = e.a
party_at e m refine = e.a
party_at e m decide = e.a
party_at e m crash = e.b
party_at e m no_code = e.a

abbrev pub party_of : Event → Message → ℕ
party_of e m = party_at e m (code_of e.code)

-- ---- what is answered

unfoldable pub reply_of : Sizes → Event → Decision → Message → Learner → Answered
reply_of z e f m l = given f.no (answer_of z f.change.hears f.change.proposer.decided e.a m l (code_of e.code))

-- ---- the whole

-- there is a record for each of the run's parties, and a slot for each of M
abbrev pub Fits : Sizes → List Proposer → List Acceptor → List Learner → List Message → Type 0
Fits z ps acs ls t = (sizes_in_range z ≡ true) × ((z.proposers ≤ length ps) × ((z.acceptors ≤ length acs) × ((z.learners ≤ length ls) × (z.slots ≤ length t))))

pub record Left : Type 0 where
  pub answer : Answered
  pub proposers : List Proposer
  pub acceptors : List Acceptor
  pub learners : List Learner
  pub slots : List Message

-- what is answered and what is left
abbrev pub Gives : Left → Answered → List Proposer → List Acceptor → List Learner → List Message → Type 0
Gives l r ps acs ls t =
    (r ≡ l.answer)
    × ((ps ≡ l.proposers) × ((acs ≡ l.acceptors) × ((ls ≡ l.learners) × (t ≡ l.slots))))

module _ (z : Sizes) (e : Event) (ps : List Proposer) (acs : List Acceptor) (ls : List Learner) (t : List Message) where
  abbrev pub the_message : Message
  the_message = get_or t (index_in e.a z.slots) free_slot

  abbrev pub the_proposer : Proposer
  the_proposer = get_or ps (index_in (party_of e the_message) z.proposers) fresh_proposer

  abbrev pub the_acceptor : Acceptor
  the_acceptor = get_or acs (index_in (party_of e the_message) z.acceptors) fresh_acceptor

  abbrev pub the_learner : Learner
  the_learner = get_or ls (index_in (party_of e the_message) z.learners) fresh_learner

  abbrev pub the_decision : Decision
  the_decision = decide_of z e the_message the_proposer the_acceptor the_learner

  abbrev pub finished : Decision
  finished = finish_of the_decision (lacking the_decision.need t) the_proposer the_acceptor

  abbrev pub step_of : Left
  step_of = record {
    answer = reply_of z e finished the_message the_learner;
    proposers = set ps (index_in (party_of e the_message) z.proposers) finished.change.proposer;
    acceptors = set acs (index_in (party_of e the_message) z.acceptors) finished.change.acceptor;
    learners = set ls (index_in (party_of e the_message) z.learners) (learner_after z finished.change.hears finished.change.stops the_message the_learner);
    slots = post (items_of finished.change.send) (set t (index_in e.a z.slots) (slot_after finished.change.frees the_message));
  }
