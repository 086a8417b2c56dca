-- What one event does to the records that it finds, by value: the contracts of the code's decisions. The model's definitions say the same of a whole run.
use Rattle.std.specs.Prelude.{Bool, true, false, ℕ, ◌%◌}
use Rattle.std.specs.Prelude.{if◌then◌else◌}
use Rattle.sizes.specs.declared.Sizes.{Sizes}
use Rattle.sets.specs.Scans.{only}
use Rattle.sets.specs.declared.scans.Scans.{Scans}
use Rattle.model.specs.Records.{kind_of, role_of, free_slot}
use Rattle.model.specs.declared.Kind.{Kind}
use Rattle.model.specs.declared.Kind.TheVariants.{Free as free, Internal as internal, Proposal as proposal, Acknowledgement as acknowledgement, Rejection as rejection, Announcement as announcement, NoKind as no_kind}
use Rattle.model.specs.declared.Role.{Role}
use Rattle.model.specs.declared.Role.TheVariants.{Proposer as a_proposer, Acceptor as an_acceptor, Learner as a_learner, NoRole as no_role}
use Rattle.model.specs.Rules.{buffering, is_current, acknowledging, rejecting, after_propose, after_refine, after_decide, crashed_proposer, accepts, answering, crashed_acceptor, learns, listening, crashed_learner}
use Rattle.model.specs.Table.{Internal, Proposal, Rejection, Announcement}
use Rattle.model.specs.declared.Code.{Code}
use Rattle.model.specs.declared.Code.TheVariants.{Receive as receive, Deliver as deliver, Drop as drop, Duplicate as duplicate, Propose as propose, Refine as refine, Decide as decide, Crash as crash, NoCode as no_code}
use Rattle.model.specs.declared.Proposer.{Proposer}
use Rattle.model.specs.declared.Acceptor.{Acceptor}
use Rattle.model.specs.declared.Learner.{Learner}
use Rattle.model.specs.declared.Message.{Message}
use Rattle.model.specs.declared.Answer.{Answer}
use Rattle.model.specs.declared.Answer.TheVariants.{Done, Learnt, Decided}
use Rattle.decisions.specs.Sending.{silence, one, to_everyone, to_others, acknowledgements}
use Rattle.decisions.specs.declared.sending.Send.{Send}
use Rattle.decisions.specs.declared.decide.Change.{Change}

-- an argument as a proposer's number and as a scan's: those that pass the tests are below 256 and 65,536
abbrev pub as_proposer : ℕ → ℕ
as_proposer a = a % 256

abbrev pub as_scan : ℕ → ℕ
as_scan b = b % 65_536

-- ---- what an event leaves

-- of all the records that it finds, and what it then sends. `hears`: the learner takes the message. `stops`: the learner crashes
pub record Changes : Type 0 where
  pub proposer : Proposer
  pub acceptor : Acceptor
  pub hears : Bool
  pub stops : Bool
  pub frees : Bool
  pub send : Send

-- of one of them
abbrev pub of_proposer : Changes → Change Proposer
of_proposer d = record { party = d.proposer; frees = d.frees; send = d.send }

abbrev pub of_acceptor : Changes → Change Acceptor
of_acceptor d = record { party = d.acceptor; frees = d.frees; send = d.send }

-- of the table alone
abbrev pub of_table : Changes → Change (Unit {0})
of_table d = record { party = tt; frees = d.frees; send = d.send }

-- of one party, in the same words as of all below
abbrev pub unchanged_one : {P : Type 0} → P → Change P
unchanged_one p = record { party = p; frees = false; send = silence }

abbrev pub freed_one : {P : Type 0} → P → Change P
freed_one p = record { party = p; frees = true; send = silence }

abbrev pub sends_one : {P : Type 0} → P → Send → Change P
sends_one p s = record { party = p; frees = false; send = s }

abbrev pub unchanged : Proposer → Acceptor → Changes
unchanged q c = record { proposer = q; acceptor = c; hears = false; stops = false; frees = false; send = silence }

abbrev pub freed : Proposer → Acceptor → Changes
freed q c = record { proposer = q; acceptor = c; hears = false; stops = false; frees = true; send = silence }

abbrev pub sends : Proposer → Acceptor → Send → Changes
sends q c s = record { proposer = q; acceptor = c; hears = false; stops = false; frees = false; send = s }

-- the learner takes the message
abbrev pub heard_by : Proposer → Acceptor → Changes
heard_by q c = record { proposer = q; acceptor = c; hears = true; stops = false; frees = true; send = silence }

-- the learner crashes
abbrev pub stopping : Proposer → Acceptor → Changes
stopping q c = record { proposer = q; acceptor = c; hears = false; stops = true; frees = false; send = silence }

-- acknowledgements to the proposer and then to every learner, or a rejection to the proposer
unfoldable pub acceptor_sends : Sizes → Message → Bool → Scans → Send
acceptor_sends z m accepted v =
    if accepted
    then acknowledgements z.learners (Announcement m.proposer.0 m.addressee m.number v 0)
    else one (Rejection m.addressee m.number v m.proposer.0)

-- an acceptor's answer to a proposal
unfoldable pub answering_of : Sizes → Message → Proposer → Acceptor → Changes
answering_of z m q c = record {
  proposer = q;
  acceptor = answering c m.set;
  hears = false;
  stops = false;
  frees = true;
  send = acceptor_sends z m (accepts c m.set) (answering c m.set).accepted;
}

-- an answer counts if it is current
unfoldable pub acknowledged_by : Proposer → Message → Proposer
acknowledged_by q m = if is_current q m.number then acknowledging q m.acceptor.0 else q

unfoldable pub rejected_by : Proposer → Message → Proposer
rejected_by q m = if is_current q m.number then rejecting q m.acceptor.0 m.set else q

unfoldable pub delivering_of : Sizes → Message → Proposer → Acceptor → Kind → Changes
delivering_of z m q c free = unchanged q c
delivering_of z m q c internal = freed (buffering q m.set) c
delivering_of z m q c proposal = answering_of z m q c
delivering_of z m q c acknowledgement = freed (acknowledged_by q m) c
delivering_of z m q c rejection = freed (rejected_by q m) c
delivering_of z m q c announcement = heard_by q c
delivering_of z m q c no_kind = unchanged q c

unfoldable pub crashing_of : Proposer → Acceptor → Role → Changes
crashing_of q c a_proposer = unchanged (crashed_proposer q) c
crashing_of q c an_acceptor = unchanged q (crashed_acceptor c)
crashing_of q c a_learner = stopping q c
crashing_of q c no_role = unchanged q c

-- a proposer's proposal to everyone of the acceptors
abbrev pub proposals_of : Sizes → ℕ → Proposer → Send
proposals_of z a q = to_everyone z.acceptors (Proposal a q.number q.proposed 0)

-- a proposer's new record, and its proposals
abbrev pub proposing_of : Sizes → ℕ → Proposer → Acceptor → Changes
proposing_of z a q c = sends q c (proposals_of z (as_proposer a) q)

unfoldable pub receiving_of : Sizes → ℕ → ℕ → Proposer → Acceptor → Changes
receiving_of z a b q c =
    sends (buffering q (only (as_scan b))) c (to_others z.proposers (as_proposer a) (Internal (only (as_scan b)) 0))

unfoldable pub change_of : Sizes → ℕ → ℕ → Message → Proposer → Acceptor → Code → Changes
change_of z a b m q c receive = receiving_of z a b q c
change_of z a b m q c deliver = delivering_of z m q c (kind_of m.kind)
change_of z a b m q c drop = freed q c
change_of z a b m q c duplicate = sends q c (one m)
change_of z a b m q c propose = proposing_of z a (after_propose q) c
change_of z a b m q c refine = proposing_of z a (after_refine z.acceptors q) c
change_of z a b m q c decide = unchanged (after_decide z.acceptors q) c
change_of z a b m q c crash = crashing_of q c (role_of a)
change_of z a b m q c no_code = unchanged q c

-- ---- the learner, the slot and the answer after a change

unfoldable pub learner_after : Sizes → Bool → Bool → Message → Learner → Learner
learner_after z hears stops m l =
    if hears then listening z.acceptors l m else (if stops then crashed_learner l else l)

unfoldable pub slot_after : Bool → Message → Message
slot_after frees m = if frees then free_slot else m

-- what a delivery to a learner answers
unfoldable pub learner_answer : Sizes → Message → Learner → Answer
learner_answer z m l =
    if learns z.acceptors l m
    then Learnt (record { 0 = m.addressee }) (listening z.acceptors l m).learnt
    else Done

unfoldable pub answer_of : Sizes → Bool → Scans → ℕ → Message → Learner → Code → Answer
answer_of z hears decided a m l receive = Done
answer_of z hears decided a m l deliver = if hears then learner_answer z m l else Done
answer_of z hears decided a m l drop = Done
answer_of z hears decided a m l duplicate = Done
answer_of z hears decided a m l propose = Done
answer_of z hears decided a m l refine = Done
answer_of z hears decided a m l decide = Decided (record { 0 = as_proposer a }) decided
answer_of z hears decided a m l crash = Done
answer_of z hears decided a m l no_code = Done
