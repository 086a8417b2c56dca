-- Document 01, "Events" and "Refusal numbers": for each event what it does, and its tests in their order.
use Rattle.std.specs.Prelude.{Bool, true, false, not, ◌&&◌, List, [], ◌∷◌, map, ℕ, eqb, ltb, leb, length, get_or}
use Rattle.std.specs.Prelude.{if◌then◌else◌}
use Rattle.sizes.specs.declared.Sizes.{Sizes}
use Rattle.sets.specs.Scans.{only}
use Rattle.model.specs.declared.Proposer.{Proposer}
use Rattle.model.specs.declared.Message.{Message}
use Rattle.model.specs.declared.Answer.{Answer}
use Rattle.model.specs.declared.Answer.TheVariants.{Done, Learnt, Decided}
use Rattle.model.specs.Records.{State, Kind, free, internal, proposal, acknowledgement, rejection, announcement, no_kind, kind_of, Role, a_proposer, an_acceptor, a_learner, no_role, role_of, addressed, proposer_of, acceptor_of, learner_of, slot_of, put_proposer, put_acceptor, put_learner, freeing}
use Rattle.choice.specs.Tests.{◌unless◌, ◌⨾◌, refusal, ok}
use Rattle.model.specs.Rules.{buffering, is_current, acknowledging, rejecting, propose_no, proposing, refine_no, refining, decide_no, deciding, crashed_proposer, accepts, accepting, gaining, crashed_acceptor, learns, listening, crashed_learner}
use Rattle.model.specs.Table.{Internal, Proposal, Acknowledgement, Rejection, Announcement, is_free, free_slots, every_one, every_other}
pub use Rattle.model.specs.declared.Code.{Code}
pub use Rattle.model.specs.declared.Code.TheVariants.{NoCode as no_code, Receive as receive, Deliver as deliver, Drop as drop, Duplicate as duplicate, Propose as propose, Refine as refine, Decide as decide, Crash as crash}

-- ---- codes 1 to 8

abbrev pub code_of : ℕ → Code
code_of n =
    get_or (no_code ∷ receive ∷ deliver ∷ drop ∷ duplicate ∷ propose ∷ refine ∷ decide ∷ crash ∷ []) n no_code

-- ---- what an event does: the records that it leaves, the messages that it then sends, and what it answers

pub record Effect : Type 0 where
  pub left : State
  pub sends : List Message
  pub answer : Answer

-- it leaves a state and sends nothing
abbrev pub quiet : State → Effect
quiet s = record { left = s; sends = []; answer = Done }

-- Deliver by kind, of a message whose slot is freed already
unfoldable pub delivery : Sizes → State → Message → Kind → Effect
delivery z s m free = quiet s
delivery z s m internal =
    quiet (put_proposer s m.addressee (buffering (proposer_of s m.addressee) m.set))
delivery z s m proposal =
    if accepts (acceptor_of s m.addressee) m.set
    then record {
      left = put_acceptor s m.addressee (accepting (acceptor_of s m.addressee) m.set);
      sends = Acknowledgement m.addressee m.number m.set m.proposer.0
          ∷ map (Announcement m.proposer.0 m.addressee m.number m.set) (every_one z.learners);
      answer = Done;
    }
    else record {
      left = put_acceptor s m.addressee (gaining (acceptor_of s m.addressee) m.set);
      sends = Rejection m.addressee m.number (gaining (acceptor_of s m.addressee) m.set).accepted m.proposer.0 ∷ [];
      answer = Done;
    }
delivery z s m acknowledgement =
    if is_current (proposer_of s m.addressee) m.number
    then quiet (put_proposer s m.addressee (acknowledging (proposer_of s m.addressee) m.acceptor.0))
    else quiet s
delivery z s m rejection =
    if is_current (proposer_of s m.addressee) m.number
    then quiet (put_proposer s m.addressee (rejecting (proposer_of s m.addressee) m.acceptor.0 m.set))
    else quiet s
delivery z s m announcement =
    record {
      left = put_learner s m.addressee (listening z.acceptors (learner_of s m.addressee) m);
      sends = [];
      answer = if learns z.acceptors (learner_of s m.addressee) m
          then Learnt (record { 0 = m.addressee }) (listening z.acceptors (learner_of s m.addressee) m).learnt
          else Done;
    }
delivery z s m no_kind = quiet s

-- a proposer's new record, and a proposal to every acceptor
unfoldable pub proposes : Sizes → State → ℕ → Proposer → Effect
proposes z s a p = record {
  left = put_proposer s a p;
  sends = map (Proposal a p.number p.proposed) (every_one z.acceptors);
  answer = Done;
}

-- not alive from then on
unfoldable pub crashed : State → Role → ℕ → State
crashed s a_proposer i = put_proposer s i (crashed_proposer (proposer_of s i))
crashed s an_acceptor i = put_acceptor s i (crashed_acceptor (acceptor_of s i))
crashed s a_learner i = put_learner s i (crashed_learner (learner_of s i))
crashed s no_role i = s

unfoldable pub effect : Sizes → State → Code → ℕ → ℕ → Effect
effect z s receive a b = record {
  left = put_proposer s a (buffering (proposer_of s a) (only b));
  sends = map (Internal (only b)) (every_other a z.proposers);
  answer = Done;
}
effect z s deliver a b = delivery z (freeing s a) (slot_of s a) (kind_of (slot_of s a).kind)
effect z s drop a b = quiet (freeing s a)
effect z s duplicate a b = record { left = s; sends = slot_of s a ∷ []; answer = Done }
effect z s propose a b = proposes z s a (proposing (proposer_of s a))
effect z s refine a b = proposes z s a (refining (proposer_of s a))
effect z s decide a b = record {
  left = put_proposer s a (deciding (proposer_of s a));
  sends = [];
  answer = Decided (record { 0 = a }) (deciding (proposer_of s a)).decided;
}
effect z s crash a b = quiet (crashed s (role_of a) b)
effect z s no_code a b = quiet s

-- ---- the tests of an event, in their order: 0, or the first refusal

-- 3: the parties that exist
abbrev pub exists : Sizes → Role → ℕ → Bool
exists z a_proposer i = ltb i z.proposers
exists z an_acceptor i = ltb i z.acceptors
exists z a_learner i = ltb i z.learners
exists z no_role i = false

-- 5: the parties that have not crashed
abbrev pub is_alive : State → Role → ℕ → Bool
is_alive s a_proposer i = (proposer_of s i).alive
is_alive s an_acceptor i = (acceptor_of s i).alive
is_alive s a_learner i = (learner_of s i).alive
is_alive s no_role i = true

-- 8: free slots, where an event has left its records, for the messages that it sends
abbrev pub has_room : Effect → Bool
has_room e = leb (length e.sends) (free_slots e.left.slots)

unfoldable pub tests : Sizes → State → Code → ℕ → ℕ → ℕ
tests z s receive a b =
    3 unless (ltb a z.proposers && ltb b z.scans)
    ⨾ 5 unless (proposer_of s a).alive
    ⨾ 8 unless has_room (effect z s receive a b)
    ⨾ ok
tests z s deliver a b =
    3 unless (ltb a z.slots && eqb b 0)
    ⨾ 4 unless not (is_free (slot_of s a))
    ⨾ 5 unless is_alive s (addressed (kind_of (slot_of s a).kind)) (slot_of s a).addressee
    ⨾ 8 unless has_room (effect z s deliver a b)
    ⨾ ok
tests z s drop a b =
    3 unless (ltb a z.slots && eqb b 0)
    ⨾ 4 unless not (is_free (slot_of s a))
    ⨾ ok
tests z s duplicate a b =
    3 unless (ltb a z.slots && eqb b 0)
    ⨾ 4 unless not (is_free (slot_of s a))
    ⨾ 8 unless has_room (effect z s duplicate a b)
    ⨾ ok
tests z s propose a b =
    3 unless (ltb a z.proposers && eqb b 0)
    ⨾ refusal (propose_no (proposer_of s a))
    ⨾ 8 unless has_room (effect z s propose a b)
    ⨾ ok
tests z s refine a b =
    3 unless (ltb a z.proposers && eqb b 0)
    ⨾ refusal (refine_no z.acceptors (proposer_of s a))
    ⨾ 8 unless has_room (effect z s refine a b)
    ⨾ ok
tests z s decide a b =
    3 unless (ltb a z.proposers && eqb b 0)
    ⨾ refusal (decide_no z.acceptors (proposer_of s a))
    ⨾ ok
tests z s crash a b =
    3 unless exists z (role_of a) b
    ⨾ 5 unless is_alive s (role_of a) b
    ⨾ ok
tests z s no_code a b = 2
