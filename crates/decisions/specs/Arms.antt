-- What one event does to the records of its arm, by value: which arm takes it, what the arm decides, and what is answered.
use Rattle.std.specs.Prelude.{Bool, true, false, ◌&&◌, ℕ, ◌-◌, eqb, ltb, Result, Ok, Err}
use Rattle.std.specs.Prelude.{if◌then◌else◌}
use Rattle.choice.specs.Tests.{◌unless◌, ◌⨾◌, refusal, ok}
use Rattle.sets.specs.declared.scans.Scans.{Scans}
use Rattle.sizes.specs.Sizes.{sizes_in_range}
use Rattle.sizes.specs.declared.Sizes.{Sizes}
use Rattle.model.specs.Records.{kind_of, role_of, fresh_proposer, fresh_acceptor, fresh_learner}
use Rattle.model.specs.declared.Kind.{Kind}
use Rattle.model.specs.declared.Kind.TheVariants.{Free as free, Internal as internal, Proposal as proposal, Acknowledgement as acknowledgement, Rejection as rejection, Announcement as announcement, NoKind as no_kind}
use Rattle.model.specs.declared.Role.{Role}
use Rattle.model.specs.declared.Role.TheVariants.{Proposer as a_proposer, Acceptor as an_acceptor, Learner as a_learner, NoRole as no_role}
use Rattle.model.specs.Rules.{buffering, hearing, teaches}
use Rattle.model.specs.Events.{code_of}
use Rattle.model.specs.declared.Code.{Code}
use Rattle.model.specs.declared.Code.TheVariants.{Receive as receive, Deliver as deliver, Drop as drop, Duplicate as duplicate, Propose as propose, Refine as refine, Decide as decide, Crash as crash, NoCode as no_code}
use Rattle.model.specs.declared.Proposer.{Proposer}
use Rattle.model.specs.declared.Acceptor.{Acceptor}
use Rattle.model.specs.declared.Learner.{Learner}
use Rattle.model.specs.declared.Message.{Message}
use Rattle.model.specs.declared.Event.{Event}
use Rattle.model.specs.declared.Answer.{Answer}
use Rattle.model.specs.declared.Answer.TheVariants.{Done, Learnt, Decided}
use Rattle.model.specs.Step.{Answered}
use Rattle.decisions.specs.Sending.{silence, count_of}
use Rattle.decisions.specs.Change.{as_proposer, Changes, of_proposer, of_acceptor, of_table, unchanged, freed, change_of, acknowledged_by, rejected_by}
use Rattle.decisions.specs.Refusals.{slot_no, party_no, test_no}
use Rattle.decisions.specs.declared.decide.Change.{Change}
use Rattle.decisions.specs.declared.arms.Arm.{Arm}
use Rattle.decisions.specs.declared.arms.Arm.TheVariants as arm
use Rattle.decisions.specs.declared.arms.Ear.{Ear}
use Rattle.decisions.specs.declared.arms.Heeded.{Heeded}

-- ---- the arm that takes an event

abbrev pub arm_of_kind : Kind → Arm
arm_of_kind free = arm.Table
arm_of_kind internal = arm.Told
arm_of_kind proposal = arm.Acceptor
arm_of_kind acknowledgement = arm.Told
arm_of_kind rejection = arm.Told
arm_of_kind announcement = arm.Learner
arm_of_kind no_kind = arm.Table

abbrev pub arm_of_role : Role → Arm
arm_of_role a_proposer = arm.Proposer
arm_of_role an_acceptor = arm.Acceptor
arm_of_role a_learner = arm.Learner
arm_of_role no_role = arm.Table

unfoldable pub arm_at : ℕ → Message → Code → Arm
arm_at a m receive = arm.Proposer
arm_at a m deliver = arm_of_kind (kind_of m.kind)
arm_at a m drop = arm.Table
arm_at a m duplicate = arm.Table
arm_at a m propose = arm.Proposer
arm_at a m refine = arm.Proposer
arm_at a m decide = arm.Proposer
arm_at a m crash = arm_of_role (role_of a)
arm_at a m no_code = arm.Table

abbrev pub arm_of : Event → Message → Arm
arm_of e m = arm_at e.a m (code_of e.code)

abbrev pub is_arm : Arm → Arm → Bool
is_arm arm.Table arm.Table = true
is_arm arm.Proposer arm.Proposer = true
is_arm arm.Acceptor arm.Acceptor = true
is_arm arm.Learner arm.Learner = true
is_arm arm.Told arm.Told = true
is_arm n k = false

-- the sizes are in range, and the event is one of arm n
abbrev pub takes : Arm → Sizes → Event → Message → Bool
takes n z e m = sizes_in_range z && is_arm n (arm_of e m)

-- ---- what is decided

-- of all records: the refusal or 0, how many free slots the event asks for, and what it leaves
pub record Decision : Type 0 where
  pub no : ℕ
  pub need : ℕ
  pub change : Changes

-- free slots that the event asks for: the slot that it frees is there for what it sends
unfoldable pub need_of : ℕ → Bool → ℕ → ℕ
need_of n frees count = if eqb n 0 then (if frees then count - 1 else count) else 0

abbrev pub decided : Changes → ℕ → Decision
decided d n = record { no = n; need = need_of n d.frees (count_of d.send); change = d }

-- of one record: what it leaves, or the refusal
abbrev pub given : {B : Type 0} → ℕ → B → Result B ℕ
given n x = if eqb n 0 then Ok x else Err n

abbrev pub by_proposer : Decision → Result (Change Proposer) ℕ
by_proposer d = given d.no (of_proposer d.change)

abbrev pub by_acceptor : Decision → Result (Change Acceptor) ℕ
by_acceptor d = given d.no (of_acceptor d.change)

abbrev pub by_table : Decision → Result (Change (Unit {0})) ℕ
by_table d = given d.no (of_table d.change)

unfoldable pub decide_of : Sizes → Event → Message → Proposer → Acceptor → Learner → Decision
decide_of z e m q c l = decided (change_of z e.a e.b m q c (code_of e.code)) (test_no z e.a e.b m q c.alive l.alive (code_of e.code))

abbrev pub refused_of : ℕ → Proposer → Acceptor → Decision
refused_of n q c = record { no = n; need = 0; change = unchanged q c }

-- a change of one party, and 8 where slots are lacking for it
abbrev pub finished : {B : Type 0} → Result B ℕ → ℕ → Result B ℕ
finished (Ok x) left = if eqb left 0 then Ok x else Err 8
finished (Err n) left = Err n

-- 8 where slots are lacking
unfoldable pub finish_of : Decision → ℕ → Proposer → Acceptor → Decision
finish_of d left q c = if eqb d.no 0 then (if eqb left 0 then d else refused_of 8 q c) else refused_of d.no q c

-- what arm n decides: 2 for an event that it does not take
abbrev pub decided_in : Arm → Sizes → Event → Message → Proposer → Acceptor → Decision
decided_in n z e m q c = if takes n z e m then decide_of z e m q c fresh_learner else refused_of 2 q c

-- Deliver: the refusals of its slot, then 5
abbrev pub delivered_no : Sizes → Event → Message → Bool → ℕ
delivered_no z e m alive = refusal (slot_no z e.a e.b m) ⨾ 5 unless alive ⨾ ok

-- a proposer that is told
unfoldable pub told_by : Proposer → Message → Kind → Proposer
told_by q m free = q
told_by q m internal = buffering q m.set
told_by q m proposal = q
told_by q m acknowledgement = acknowledged_by q m
told_by q m rejection = rejected_by q m
told_by q m announcement = q
told_by q m no_kind = q

-- what a Deliver leaves of it: it asks for no room
unfoldable pub told_in : Sizes → Event → Message → Proposer → Decision
told_in z e m q =
    if eqb (delivered_no z e m q.alive) 0
    then record { no = delivered_no z e m q.alive; need = 0; change = freed (told_by q m (kind_of m.kind)) fresh_acceptor }
    else refused_of (delivered_no z e m q.alive) q fresh_acceptor

-- what is answered where no learner hears, the proposer's decided set being v
abbrev pub done_answer : Event → Scans → Answer
done_answer e v = if eqb e.code 7 then Decided (record { 0 = as_proposer e.a }) v else Done

-- the same where the event may be refused, by what it decided
abbrev pub replied : Event → Result Scans ℕ → Answered
replied e (Ok v) = Ok (done_answer e v)
replied e (Err n) = Err n

unfoldable pub plain_answer : Event → Decision → Answered
plain_answer e f = given f.no (done_answer e f.change.proposer.decided)

-- ---- a learner, by itself and the place of one proposer

unfoldable pub ear_at : Sizes → Message → Ear → Code → Ear
ear_at z m x receive = x
ear_at z m x deliver = record { alive = x.alive; learnt = if teaches z.acceptors x.learnt x.heard m then (hearing x.heard m).set else x.learnt; heard = hearing x.heard m }
ear_at z m x drop = x
ear_at z m x duplicate = x
ear_at z m x propose = x
ear_at z m x refine = x
ear_at z m x decide = x
ear_at z m x crash = record { alive = false; learnt = x.learnt; heard = x.heard }
ear_at z m x no_code = x

abbrev pub hears : Code → Bool
hears receive = false
hears deliver = true
hears drop = false
hears duplicate = false
hears propose = false
hears refine = false
hears decide = false
hears crash = false
hears no_code = false

unfoldable pub ear_says : Sizes → Message → Ear → Code → Answer
ear_says z m x code = if hears code then (if teaches z.acceptors x.learnt x.heard m then Learnt (record { 0 = m.addressee }) (hearing x.heard m).set else Done) else Done

-- what an event leaves of it, whether it frees its slot, and what it answers
pub record Listened : Type 0 where
  pub ear : Ear
  pub frees : Bool
  pub answer : Answered

-- where its refusal is n
abbrev pub listened : Sizes → Event → Message → Ear → ℕ → Listened
listened z e m x n =
    if eqb n 0
    then record { ear = ear_at z m x (code_of e.code); frees = hears (code_of e.code); answer = Ok (ear_says z m x (code_of e.code)) }
    else record { ear = x; frees = false; answer = Err n }

-- the first refusal: of all events, and of a learner's alone, Deliver and Crash
abbrev pub ear_no : Sizes → Event → Message → Bool → ℕ
ear_no z e m alive = test_no z e.a e.b m fresh_proposer true alive (code_of e.code)

abbrev pub heard_no : Sizes → Event → Message → Bool → ℕ
heard_no z e m alive = if eqb e.code 2 then delivered_no z e m alive else party_no (ltb e.b z.learners) alive

unfoldable pub listen_of : Sizes → Event → Message → Ear → Listened
listen_of z e m x = listened z e m x (ear_no z e m x.alive)

unfoldable pub heard_in : Sizes → Event → Message → Ear → Listened
heard_in z e m x = listened z e m x (heard_no z e m x.alive)

-- where it is not refused
abbrev pub heeded : Ear → Bool → Answer → Heeded
heeded x frees w = record { change = record { party = x; frees = frees; send = silence }; answer = w }

abbrev pub by_answer : Listened → Answered → Result Heeded ℕ
by_answer y (Ok w) = Ok (heeded y.ear y.frees w)
by_answer y (Err n) = Err n

abbrev pub by_learner : Listened → Result Heeded ℕ
by_learner y = by_answer y y.answer
