-- Where an arm takes an event, a step leaves the lists that the arm does not touch as they were, and does to the others what it does where those are empty.
--     step-at          a step is one on the message that it finds
--     by-proposer      of the arms of an acting and a told proposer
--     by-acceptor, by-learner, by-table
-- Assumes nothing.
use mathlib.Core.Path.{◌≡◌, refl, sym, ◌∙◌, ap, subst}
use mathlib.Core.Bool.{Bool, true, false, not}
use mathlib.Core.List.{List, []}
use Prim.Native.Nat.{ℕ}
use lib.Dec.{T as Holds, eqb}
use lib.ListN.{set}
use Rattle.std.specs.Prelude.{if◌then◌else◌}
use Rattle.sets.specs.declared.scans.Scans.{Scans}
use Rattle.sizes.specs.declared.Sizes.{Sizes}
use Rattle.model.specs.Records.{kind_of, role_of, addressed, fresh_proposer, fresh_acceptor, fresh_learner}
use Rattle.model.specs.declared.Kind.{Kind}
use Rattle.model.specs.declared.Kind.TheVariants.{Free as free, Internal as internal, Proposal as proposal, Acknowledgement as acknowledgement, Rejection as rejection, Announcement as announcement, NoKind as no_kind}
use Rattle.model.specs.declared.Role.{Role}
use Rattle.model.specs.declared.Role.TheVariants.{Proposer as a_proposer, Acceptor as an_acceptor, Learner as a_learner, NoRole as no_role}
use Rattle.model.specs.Table.{post}
use Rattle.model.specs.Rules.{listening, crashed_learner}
use Rattle.model.specs.Events.{code_of, exists}
use Rattle.model.specs.declared.Code.{Code}
use Rattle.model.specs.declared.Code.TheVariants.{Receive as receive, Deliver as deliver, Drop as drop, Duplicate as duplicate, Propose as propose, Refine as refine, Decide as decide, Crash as crash, NoCode as no_code}
use Rattle.model.specs.declared.Proposer.{Proposer}
use Rattle.model.specs.declared.Acceptor.{Acceptor}
use Rattle.model.specs.declared.Learner.{Learner}
use Rattle.model.specs.declared.Message.{Message}
use Rattle.model.specs.declared.Event.{Event}
use Rattle.model.specs.declared.Answer.{Answer}
use Rattle.model.specs.Step.{Answered}
use Rattle.decisions.specs.Change.{Changes}
use Rattle.decisions.specs.Sending.{count_of, items_of, lacking}
use Rattle.decisions.specs.Change.{answering_of, delivering_of, crashing_of, receiving_of, change_of, learner_after, slot_after, answer_of}
use Rattle.decisions.specs.Refusals.{alive_in, slot_no, party_no, test_no}
use Rattle.choice.specs.Tests.{◌unless◌, ◌⨾◌, refusal, ok}
use Rattle.machine.specs.Stepping.{index_in, party_of, reply_of, Left, the_message, step_of}
use Rattle.decisions.specs.Arms.{Decision, given as or_refused, need_of, decide_of, refused_of, finish_of}
use Rattle.machine.proofs.Readiness.{same}
use Rattle.machine.specs.Roles.{proposer_at, acceptor_at, learner_at, decision_at, finished_at, step_at}
use Rattle.decisions.specs.Arms.{arm_of_kind, arm_of_role, arm_at, arm_of, is_arm}
use Rattle.decisions.specs.declared.arms.Arm.{Arm}
use Rattle.decisions.specs.declared.arms.Arm.TheVariants as arm

pub step-at : (z : Sizes) (e : Event) (ps : List Proposer) (acs : List Acceptor) (ls : List Learner) (t : List Message) → step_of z e ps acs ls t ≡ step_at z e (index_in e.a z.slots) (the_message z e ps acs ls t) ps acs ls t
step-at z e ps acs ls t = refl

-- ---- what an arm touches

abbrev takes_proposer : Arm → Bool
takes_proposer arm.Table = false
takes_proposer arm.Proposer = true
takes_proposer arm.Acceptor = false
takes_proposer arm.Learner = false
takes_proposer arm.Told = true

abbrev takes_neither : Arm → Bool
takes_neither arm.Table = true
takes_neither arm.Proposer = false
takes_neither arm.Acceptor = false
takes_neither arm.Learner = true
takes_neither arm.Told = false

-- an arm is itself
same-arm : (k n : Arm) → Holds (is_arm k n) → k ≡ n
same-arm arm.Table arm.Table h = refl
same-arm arm.Table arm.Proposer h = absurd h
same-arm arm.Table arm.Acceptor h = absurd h
same-arm arm.Table arm.Learner h = absurd h
same-arm arm.Table arm.Told h = absurd h
same-arm arm.Proposer arm.Table h = absurd h
same-arm arm.Proposer arm.Proposer h = refl
same-arm arm.Proposer arm.Acceptor h = absurd h
same-arm arm.Proposer arm.Learner h = absurd h
same-arm arm.Proposer arm.Told h = absurd h
same-arm arm.Acceptor arm.Table h = absurd h
same-arm arm.Acceptor arm.Proposer h = absurd h
same-arm arm.Acceptor arm.Acceptor h = refl
same-arm arm.Acceptor arm.Learner h = absurd h
same-arm arm.Acceptor arm.Told h = absurd h
same-arm arm.Learner arm.Table h = absurd h
same-arm arm.Learner arm.Proposer h = absurd h
same-arm arm.Learner arm.Acceptor h = absurd h
same-arm arm.Learner arm.Learner h = refl
same-arm arm.Learner arm.Told h = absurd h
same-arm arm.Told arm.Table h = absurd h
same-arm arm.Told arm.Proposer h = absurd h
same-arm arm.Told arm.Acceptor h = absurd h
same-arm arm.Told arm.Learner h = absurd h
same-arm arm.Told arm.Told h = refl

neither-of : (k n : Arm) → Holds (is_arm k n) → Holds (takes_neither k) → Holds (takes_neither n)
neither-of k n h y = subst (λ (x : Arm). Holds (takes_neither x)) (same-arm k n h) y

proposer-of : (k n : Arm) → Holds (is_arm k n) → Holds (takes_proposer k) → Holds (takes_proposer n)
proposer-of k n h y = subst (λ (x : Arm). Holds (takes_proposer x)) (same-arm k n h) y

pub not-of : (k j n : Arm) → Holds (is_arm k n) → Holds (not (is_arm j k)) → Holds (not (is_arm j n))
not-of k j n h y = subst (λ (x : Arm). Holds (not (is_arm j x))) (same-arm k n h) y

-- records put in the place of those that a change has
abbrev given : Proposer → Acceptor → Changes → Changes
given q c d = record { proposer = q; acceptor = c; hears = d.hears; stops = d.stops; frees = d.frees; send = d.send }

abbrev given_to : Proposer → Acceptor → Decision → Decision
given_to q c d = record { no = d.no; need = d.need; change = given q c d.change }

-- ---- by the events

module _ (z : Sizes) (a b : ℕ) (m : Message) (q q₀ : Proposer) (c c₀ : Acceptor) where
  p-kind : (k : Kind) → Holds (takes_proposer (arm_of_kind k)) → delivering_of z m q c k ≡ given (delivering_of z m q c₀ k).proposer c (delivering_of z m q c₀ k)
  unfolding delivering_of
  p-kind free h = absurd h
  p-kind internal h = refl
  p-kind proposal h = absurd h
  p-kind acknowledgement h = refl
  p-kind rejection h = refl
  p-kind announcement h = absurd h
  p-kind no_kind h = absurd h

  p-role : (r : Role) → Holds (takes_proposer (arm_of_role r)) → crashing_of q c r ≡ given (crashing_of q c₀ r).proposer c (crashing_of q c₀ r)
  unfolding crashing_of
  p-role a_proposer h = refl
  p-role an_acceptor h = absurd h
  p-role a_learner h = absurd h
  p-role no_role h = absurd h

  p-change : (code : Code) → Holds (takes_proposer (arm_at a m code)) → change_of z a b m q c code ≡ given (change_of z a b m q c₀ code).proposer c (change_of z a b m q c₀ code)
  unfolding change_of arm_at receiving_of
  p-change receive h = refl
  p-change deliver h = p-kind (kind_of m.kind) h
  p-change drop h = absurd h
  p-change duplicate h = absurd h
  p-change propose h = refl
  p-change refine h = refl
  p-change decide h = refl
  p-change crash h = p-role (role_of a) h
  p-change no_code h = absurd h

  a-kind : (k : Kind) → Holds (is_arm arm.Acceptor (arm_of_kind k)) → delivering_of z m q c k ≡ given q (delivering_of z m q₀ c k).acceptor (delivering_of z m q₀ c k)
  unfolding delivering_of answering_of
  a-kind free h = absurd h
  a-kind internal h = absurd h
  a-kind proposal h = refl
  a-kind acknowledgement h = absurd h
  a-kind rejection h = absurd h
  a-kind announcement h = absurd h
  a-kind no_kind h = absurd h

  a-role : (r : Role) → Holds (is_arm arm.Acceptor (arm_of_role r)) → crashing_of q c r ≡ given q (crashing_of q₀ c r).acceptor (crashing_of q₀ c r)
  unfolding crashing_of
  a-role a_proposer h = absurd h
  a-role an_acceptor h = refl
  a-role a_learner h = absurd h
  a-role no_role h = absurd h

  a-change : (code : Code) → Holds (is_arm arm.Acceptor (arm_at a m code)) → change_of z a b m q c code ≡ given q (change_of z a b m q₀ c code).acceptor (change_of z a b m q₀ c code)
  unfolding change_of arm_at
  a-change receive h = absurd h
  a-change deliver h = a-kind (kind_of m.kind) h
  a-change drop h = absurd h
  a-change duplicate h = absurd h
  a-change propose h = absurd h
  a-change refine h = absurd h
  a-change decide h = absurd h
  a-change crash h = a-role (role_of a) h
  a-change no_code h = absurd h

  -- the arms of a learner and of the table
  n-kind : (k : Kind) → Holds (takes_neither (arm_of_kind k)) → delivering_of z m q c k ≡ given q c (delivering_of z m q₀ c₀ k)
  unfolding delivering_of
  n-kind free h = refl
  n-kind internal h = absurd h
  n-kind proposal h = absurd h
  n-kind acknowledgement h = absurd h
  n-kind rejection h = absurd h
  n-kind announcement h = refl
  n-kind no_kind h = refl

  n-role : (r : Role) → Holds (takes_neither (arm_of_role r)) → crashing_of q c r ≡ given q c (crashing_of q₀ c₀ r)
  unfolding crashing_of
  n-role a_proposer h = absurd h
  n-role an_acceptor h = absurd h
  n-role a_learner h = refl
  n-role no_role h = refl

  n-change : (code : Code) → Holds (takes_neither (arm_at a m code)) → change_of z a b m q c code ≡ given q c (change_of z a b m q₀ c₀ code)
  unfolding change_of arm_at
  n-change receive h = absurd h
  n-change deliver h = n-kind (kind_of m.kind) h
  n-change drop h = refl
  n-change duplicate h = refl
  n-change propose h = absurd h
  n-change refine h = absurd h
  n-change decide h = absurd h
  n-change crash h = n-role (role_of a) h
  n-change no_code h = refl

  -- ---- no learner hears or stops but in its own arm

  quiet-kind : (k : Kind) → Holds (not (is_arm arm.Learner (arm_of_kind k))) → ((delivering_of z m q c k).hears ≡ false) × ((delivering_of z m q c k).stops ≡ false)
  unfolding delivering_of answering_of
  quiet-kind free h = (refl, refl)
  quiet-kind internal h = (refl, refl)
  quiet-kind proposal h = (refl, refl)
  quiet-kind acknowledgement h = (refl, refl)
  quiet-kind rejection h = (refl, refl)
  quiet-kind announcement h = absurd h
  quiet-kind no_kind h = (refl, refl)

  quiet-role : (r : Role) → Holds (not (is_arm arm.Learner (arm_of_role r))) → ((crashing_of q c r).hears ≡ false) × ((crashing_of q c r).stops ≡ false)
  unfolding crashing_of
  quiet-role a_proposer h = (refl, refl)
  quiet-role an_acceptor h = (refl, refl)
  quiet-role a_learner h = absurd h
  quiet-role no_role h = (refl, refl)

  quiet-change : (code : Code) → Holds (not (is_arm arm.Learner (arm_at a m code))) → ((change_of z a b m q c code).hears ≡ false) × ((change_of z a b m q c code).stops ≡ false)
  unfolding change_of arm_at receiving_of
  quiet-change receive h = (refl, refl)
  quiet-change deliver h = quiet-kind (kind_of m.kind) h
  quiet-change drop h = (refl, refl)
  quiet-change duplicate h = (refl, refl)
  quiet-change propose h = (refl, refl)
  quiet-change refine h = (refl, refl)
  quiet-change decide h = (refl, refl)
  quiet-change crash h = quiet-role (role_of a) h
  quiet-change no_code h = (refl, refl)

-- ---- the first refusal, by the party that it asks about

module _ (z : Sizes) (a b : ℕ) (m : Message) (q q₀ : Proposer) (x x₀ y y₀ : Bool) where
  p-alive : (k : Kind) (r : Bool) → Holds (takes_proposer (arm_of_kind k)) → alive_in (addressed k) r x y ≡ alive_in (addressed k) r x₀ y₀
  p-alive free r h = absurd h
  p-alive internal r h = refl
  p-alive proposal r h = absurd h
  p-alive acknowledgement r h = refl
  p-alive rejection r h = refl
  p-alive announcement r h = absurd h
  p-alive no_kind r h = absurd h

  p-crash : (r : Role) → Holds (takes_proposer (arm_of_role r)) → alive_in r q.alive x y ≡ alive_in r q.alive x₀ y₀
  p-crash a_proposer h = refl
  p-crash an_acceptor h = absurd h
  p-crash a_learner h = absurd h
  p-crash no_role h = absurd h

  p-test : (code : Code) → Holds (takes_proposer (arm_at a m code)) → test_no z a b m q x y code ≡ test_no z a b m q x₀ y₀ code
  unfolding test_no arm_at
  p-test receive h = refl
  p-test deliver h = ap (λ (v : Bool). refusal (slot_no z a b m) ⨾ 5 unless v ⨾ ok) (p-alive (kind_of m.kind) q.alive h)
  p-test drop h = absurd h
  p-test duplicate h = absurd h
  p-test propose h = refl
  p-test refine h = refl
  p-test decide h = refl
  p-test crash h = ap (party_no (exists z (role_of a) b)) (p-crash (role_of a) h)
  p-test no_code h = absurd h

  a-alive : (k : Kind) → Holds (is_arm arm.Acceptor (arm_of_kind k)) → alive_in (addressed k) q.alive x y ≡ alive_in (addressed k) q₀.alive x y₀
  a-alive free h = absurd h
  a-alive internal h = absurd h
  a-alive proposal h = refl
  a-alive acknowledgement h = absurd h
  a-alive rejection h = absurd h
  a-alive announcement h = absurd h
  a-alive no_kind h = absurd h

  a-crash : (r : Role) → Holds (is_arm arm.Acceptor (arm_of_role r)) → alive_in r q.alive x y ≡ alive_in r q₀.alive x y₀
  a-crash a_proposer h = absurd h
  a-crash an_acceptor h = refl
  a-crash a_learner h = absurd h
  a-crash no_role h = absurd h

  a_test : (code : Code) → Holds (is_arm arm.Acceptor (arm_at a m code)) → test_no z a b m q x y code ≡ test_no z a b m q₀ x y₀ code
  unfolding test_no arm_at
  a_test receive h = absurd h
  a_test deliver h = ap (λ (v : Bool). refusal (slot_no z a b m) ⨾ 5 unless v ⨾ ok) (a-alive (kind_of m.kind) h)
  a_test drop h = absurd h
  a_test duplicate h = absurd h
  a_test propose h = absurd h
  a_test refine h = absurd h
  a_test decide h = absurd h
  a_test crash h = ap (party_no (exists z (role_of a) b)) (a-crash (role_of a) h)
  a_test no_code h = absurd h

  n-alive : (k : Kind) → Holds (is_arm arm.Table (arm_of_kind k)) → alive_in (addressed k) q.alive x y ≡ alive_in (addressed k) q₀.alive x₀ y₀
  n-alive free h = refl
  n-alive internal h = absurd h
  n-alive proposal h = absurd h
  n-alive acknowledgement h = absurd h
  n-alive rejection h = absurd h
  n-alive announcement h = absurd h
  n-alive no_kind h = refl

  n-crash : (r : Role) → Holds (is_arm arm.Table (arm_of_role r)) → alive_in r q.alive x y ≡ alive_in r q₀.alive x₀ y₀
  n-crash a_proposer h = absurd h
  n-crash an_acceptor h = absurd h
  n-crash a_learner h = absurd h
  n-crash no_role h = refl

  n-test : (code : Code) → Holds (is_arm arm.Table (arm_at a m code)) → test_no z a b m q x y code ≡ test_no z a b m q₀ x₀ y₀ code
  unfolding test_no arm_at
  n-test receive h = absurd h
  n-test deliver h = ap (λ (v : Bool). refusal (slot_no z a b m) ⨾ 5 unless v ⨾ ok) (n-alive (kind_of m.kind) h)
  n-test drop h = refl
  n-test duplicate h = refl
  n-test propose h = absurd h
  n-test refine h = absurd h
  n-test decide h = absurd h
  n-test crash h = ap (party_no (exists z (role_of a) b)) (n-crash (role_of a) h)
  n-test no_code h = refl

  l-alive : (k : Kind) → Holds (is_arm arm.Learner (arm_of_kind k)) → alive_in (addressed k) q.alive x y ≡ alive_in (addressed k) q₀.alive x₀ y
  l-alive free h = absurd h
  l-alive internal h = absurd h
  l-alive proposal h = absurd h
  l-alive acknowledgement h = absurd h
  l-alive rejection h = absurd h
  l-alive announcement h = refl
  l-alive no_kind h = absurd h

  l-crash : (r : Role) → Holds (is_arm arm.Learner (arm_of_role r)) → alive_in r q.alive x y ≡ alive_in r q₀.alive x₀ y
  l-crash a_proposer h = absurd h
  l-crash an_acceptor h = absurd h
  l-crash a_learner h = refl
  l-crash no_role h = absurd h

  l-test : (code : Code) → Holds (is_arm arm.Learner (arm_at a m code)) → test_no z a b m q x y code ≡ test_no z a b m q₀ x₀ y code
  unfolding test_no arm_at
  l-test receive h = absurd h
  l-test deliver h = ap (λ (v : Bool). refusal (slot_no z a b m) ⨾ 5 unless v ⨾ ok) (l-alive (kind_of m.kind) h)
  l-test drop h = absurd h
  l-test duplicate h = absurd h
  l-test propose h = absurd h
  l-test refine h = absurd h
  l-test decide h = absurd h
  l-test crash h = ap (party_no (exists z (role_of a) b)) (l-crash (role_of a) h)
  l-test no_code h = absurd h

-- ---- a decision is the same but for the records that were put in its place

module _ (z : Sizes) (e : Event) (m : Message) (q q₀ : Proposer) (c c₀ : Acceptor) (l l₀ : Learner) where
  decided-as : (d d₀ : Changes) (n n₀ : ℕ) (x : Proposer) (y : Acceptor) → d ≡ given x y d₀ → n ≡ n₀
      → record { no = n; need = need_of n d.frees (count_of d.send); change = d } ≡ given_to x y (record { no = n₀; need = need_of n₀ d₀.frees (count_of d₀.send); change = d₀ })
  decided-as d d₀ n n₀ x y p r = λ i. record { no = r i; need = need_of (r i) (p i).frees (count_of (p i).send); change = p i }

  p-decided : Holds (takes_proposer (arm_of e m)) → decide_of z e m q c l ≡ given_to (decide_of z e m q c₀ l₀).change.proposer c (decide_of z e m q c₀ l₀)
  unfolding decide_of
  p-decided h =
      decided-as (change_of z e.a e.b m q c (code_of e.code)) (change_of z e.a e.b m q c₀ (code_of e.code)) _ _ _ _ (p-change z e.a e.b m q q c c₀ (code_of e.code) h) (p-test z e.a e.b m q q c.alive c₀.alive l.alive l₀.alive (code_of e.code) h)

  a-decided : Holds (is_arm arm.Acceptor (arm_of e m)) → decide_of z e m q c l ≡ given_to q (decide_of z e m q₀ c l₀).change.acceptor (decide_of z e m q₀ c l₀)
  unfolding decide_of
  a-decided h =
      decided-as (change_of z e.a e.b m q c (code_of e.code)) (change_of z e.a e.b m q₀ c (code_of e.code)) _ _ _ _ (a-change z e.a e.b m q q₀ c c (code_of e.code) h) (a_test z e.a e.b m q q₀ c.alive c.alive l.alive l₀.alive (code_of e.code) h)

  l-decided : Holds (is_arm arm.Learner (arm_of e m)) → decide_of z e m q c l ≡ given_to q c (decide_of z e m q₀ c₀ l)
  unfolding decide_of
  l-decided h =
      decided-as (change_of z e.a e.b m q c (code_of e.code)) (change_of z e.a e.b m q₀ c₀ (code_of e.code)) _ _ _ _ (n-change z e.a e.b m q q₀ c c₀ (code_of e.code) (neither-of arm.Learner (arm_of e m) h tt)) (l-test z e.a e.b m q q₀ c.alive c₀.alive l.alive l.alive (code_of e.code) h)

  n-decided : Holds (is_arm arm.Table (arm_of e m)) → decide_of z e m q c l ≡ given_to q c (decide_of z e m q₀ c₀ l₀)
  unfolding decide_of
  n-decided h =
      decided-as (change_of z e.a e.b m q c (code_of e.code)) (change_of z e.a e.b m q₀ c₀ (code_of e.code)) _ _ _ _ (n-change z e.a e.b m q q₀ c c₀ (code_of e.code) (neither-of arm.Table (arm_of e m) h tt)) (n-test z e.a e.b m q q₀ c.alive c₀.alive l.alive l₀.alive (code_of e.code) h)

  -- a decision outside of a learner's arm leaves the learner as it is
  quiet-decided : Holds (not (is_arm arm.Learner (arm_of e m))) → ((decide_of z e m q c l).change.hears ≡ false) × ((decide_of z e m q c l).change.stops ≡ false)
  unfolding decide_of
  quiet-decided h = quiet-change z e.a e.b m q q c c (code_of e.code) h

-- ---- and so is what it is finished to

abbrev ends : Bool → Bool → Decision → Proposer → Acceptor → Decision
ends a b d q c = if a then (if b then d else refused_of 8 q c) else refused_of d.no q c

p-ends : (a b : Bool) (d : Decision) (q : Proposer) (c c₀ : Acceptor) → ends a b (given_to d.change.proposer c d) q c ≡ given_to (ends a b d q c₀).change.proposer c (ends a b d q c₀)
p-ends true true d q c c₀ = refl
p-ends true false d q c c₀ = refl
p-ends false b d q c c₀ = refl

a-ends : (a b : Bool) (d : Decision) (q q₀ : Proposer) (c : Acceptor) → ends a b (given_to q d.change.acceptor d) q c ≡ given_to q (ends a b d q₀ c).change.acceptor (ends a b d q₀ c)
a-ends true true d q q₀ c = refl
a-ends true false d q q₀ c = refl
a-ends false b d q q₀ c = refl

n-ends : (a b : Bool) (d : Decision) (q q₀ : Proposer) (c c₀ : Acceptor) → ends a b (given_to q c d) q c ≡ given_to q c (ends a b d q₀ c₀)
n-ends true true d q q₀ c c₀ = refl
n-ends true false d q q₀ c c₀ = refl
n-ends false b d q q₀ c c₀ = refl

quiet-ends : (a b : Bool) (d : Decision) (q : Proposer) (c : Acceptor) → (d.change.hears ≡ false) × (d.change.stops ≡ false) → ((ends a b d q c).change.hears ≡ false) × ((ends a b d q c).change.stops ≡ false)
quiet-ends true true d q c h = h
quiet-ends true false d q c h = (refl, refl)
quiet-ends false b d q c h = (refl, refl)

-- ---- the answer

quiet-answer : (z : Sizes) (v : Scans) (a : ℕ) (m : Message) (l l₀ : Learner) (code : Code) → answer_of z false v a m l code ≡ answer_of z false v a m l₀ code
unfolding answer_of
quiet-answer z v a m l l₀ receive = refl
quiet-answer z v a m l l₀ deliver = refl
quiet-answer z v a m l l₀ drop = refl
quiet-answer z v a m l l₀ duplicate = refl
quiet-answer z v a m l l₀ propose = refl
quiet-answer z v a m l l₀ refine = refl
quiet-answer z v a m l l₀ decide = refl
quiet-answer z v a m l l₀ crash = refl
quiet-answer z v a m l l₀ no_code = refl

-- what was decided is answered by an acting proposer alone
other-answer : (z : Sizes) (h : Bool) (v v₀ : Scans) (a : ℕ) (m : Message) (l : Learner) (code : Code) → Holds (not (is_arm arm.Proposer (arm_at a m code))) → answer_of z h v a m l code ≡ answer_of z h v₀ a m l code
unfolding answer_of arm_at
other-answer z h v v₀ a m l receive n = refl
other-answer z h v v₀ a m l deliver n = refl
other-answer z h v v₀ a m l drop n = refl
other-answer z h v v₀ a m l duplicate n = refl
other-answer z h v v₀ a m l propose n = refl
other-answer z h v v₀ a m l refine n = refl
other-answer z h v v₀ a m l decide n = absurd n
other-answer z h v v₀ a m l crash n = refl
other-answer z h v v₀ a m l no_code n = refl

quiet-reply : (z : Sizes) (e : Event) (f : Decision) (m : Message) (l l₀ : Learner) → f.change.hears ≡ false → reply_of z e f m l ≡ reply_of z e f m l₀
unfolding reply_of
quiet-reply z e f m l l₀ h = ap (λ (w : Answer). or_refused f.no w)
    (ap (λ (y : Bool). answer_of z y v e.a m l (code_of e.code)) h ∙ quiet-answer z v e.a m l l₀ (code_of e.code) ∙ ap (λ (y : Bool). answer_of z y v e.a m l₀ (code_of e.code)) (sym h))
  where
    v : Scans
    v = f.change.proposer.decided

other-reply : (z : Sizes) (e : Event) (f : Decision) (q : Proposer) (c : Acceptor) (m : Message) (l : Learner) → Holds (not (is_arm arm.Proposer (arm_of e m))) → reply_of z e (given_to q c f) m l ≡ reply_of z e f m l
unfolding reply_of
other-reply z e f q c m l n = ap (λ (w : Answer). or_refused f.no w) (other-answer z f.change.hears q.decided f.change.proposer.decided e.a m l (code_of e.code) n)

-- a learner that neither hears nor stops
unheard-by : (z : Sizes) (h s : Bool) (m : Message) (l : Learner) → h ≡ false → s ≡ false → learner_after z h s m l ≡ l
unfolding learner_after
unheard-by z h s m l p r = λ i. if p i then listening z.acceptors l m else (if r i then crashed_learner l else l)

-- ---- the arms

-- what an arm leaves
abbrev pub leaves : Answered → List Proposer → List Acceptor → List Learner → List Message → Left
leaves w ps acs ls t = record { answer = w; proposers = ps; acceptors = acs; learners = ls; slots = t }

module _ (z : Sizes) (e : Event) (k : ℕ) (m : Message) (ps : List Proposer) (acs : List Acceptor) (ls : List Learner) (t : List Message) where
  abbrev q : Proposer
  q = proposer_at z e k m ps acs ls t

  abbrev c : Acceptor
  c = acceptor_at z e k m ps acs ls t

  abbrev l : Learner
  l = learner_at z e k m ps acs ls t

  abbrev f : Decision
  f = finished_at z e k m ps acs ls t

  p-finished : Holds (takes_proposer (arm_of e m)) → f ≡ given_to (finished_at z e k m ps [] [] t).change.proposer c (finished_at z e k m ps [] [] t)
  unfolding finish_of
  p-finished h =
      ap (λ (d : Decision). ends (eqb d.no 0) (eqb (lacking d.need t) 0) d q c) (p-decided z e m q fresh_proposer c fresh_acceptor l fresh_learner h) ∙ p-ends (eqb d₀.no 0) (eqb (lacking d₀.need t) 0) d₀ q c fresh_acceptor
    where
      d₀ : Decision
      d₀ = decision_at z e k m ps [] [] t

  a-finished : Holds (is_arm arm.Acceptor (arm_of e m)) → f ≡ given_to q (finished_at z e k m [] acs [] t).change.acceptor (finished_at z e k m [] acs [] t)
  unfolding finish_of
  a-finished h =
      ap (λ (d : Decision). ends (eqb d.no 0) (eqb (lacking d.need t) 0) d q c) (a-decided z e m q fresh_proposer c fresh_acceptor l fresh_learner h) ∙ a-ends (eqb d₀.no 0) (eqb (lacking d₀.need t) 0) d₀ q fresh_proposer c
    where
      d₀ : Decision
      d₀ = decision_at z e k m [] acs [] t

  l-finished : Holds (is_arm arm.Learner (arm_of e m)) → f ≡ given_to q c (finished_at z e k m [] [] ls t)
  unfolding finish_of
  l-finished h =
      ap (λ (d : Decision). ends (eqb d.no 0) (eqb (lacking d.need t) 0) d q c) (l-decided z e m q fresh_proposer c fresh_acceptor l fresh_learner h) ∙ n-ends (eqb d₀.no 0) (eqb (lacking d₀.need t) 0) d₀ q fresh_proposer c fresh_acceptor
    where
      d₀ : Decision
      d₀ = decision_at z e k m [] [] ls t

  n-finished : Holds (is_arm arm.Table (arm_of e m)) → f ≡ given_to q c (finished_at z e k m [] [] [] t)
  unfolding finish_of
  n-finished h =
      ap (λ (d : Decision). ends (eqb d.no 0) (eqb (lacking d.need t) 0) d q c) (n-decided z e m q fresh_proposer c fresh_acceptor l fresh_learner h) ∙ n-ends (eqb d₀.no 0) (eqb (lacking d₀.need t) 0) d₀ q fresh_proposer c fresh_acceptor
    where
      d₀ : Decision
      d₀ = decision_at z e k m [] [] [] t

  -- outside of a learner's arm
  pub quiet-finished : Holds (not (is_arm arm.Learner (arm_of e m))) → (f.change.hears ≡ false) × (f.change.stops ≡ false)
  unfolding finish_of
  quiet-finished h = quiet-ends (eqb d.no 0) (eqb (lacking d.need t) 0) d q c (quiet-decided z e m q q c c l l h)
    where
      d : Decision
      d = decision_at z e k m ps acs ls t

  learners-stay : Holds (not (is_arm arm.Learner (arm_of e m))) → ls ≡ (step_at z e k m ps acs ls t).learners
  learners-stay h =
      sym (ap (λ (x : Learner). set ls (index_in (party_of e m) z.learners) x) (unheard-by z f.change.hears f.change.stops m l (quiet-finished h).0 (quiet-finished h).1) ∙ same fresh_learner ls (index_in (party_of e m) z.learners))

  slots-as : (f₀ : Decision) (x : Proposer) (y : Acceptor) → f ≡ given_to x y f₀ → post (items_of f₀.change.send) (set t k (slot_after f₀.change.frees m)) ≡ (step_at z e k m ps acs ls t).slots
  slots-as f₀ x y p = ap (λ (g : Decision). post (items_of g.change.send) (set t k (slot_after g.change.frees m))) (sym p)

  acceptors-stay : (f₀ : Decision) (x : Proposer) → f ≡ given_to x c f₀ → acs ≡ (step_at z e k m ps acs ls t).acceptors
  acceptors-stay f₀ x p = sym (ap (λ (g : Decision). set acs (index_in (party_of e m) z.acceptors) g.change.acceptor) p ∙ same fresh_acceptor acs (index_in (party_of e m) z.acceptors))

  proposers-stay : (f₀ : Decision) (y : Acceptor) → f ≡ given_to q y f₀ → ps ≡ (step_at z e k m ps acs ls t).proposers
  proposers-stay f₀ y p = sym (ap (λ (g : Decision). set ps (index_in (party_of e m) z.proposers) g.change.proposer) p ∙ same fresh_proposer ps (index_in (party_of e m) z.proposers))

  -- ---- of each arm

  proposer-leaves : Holds (takes_proposer (arm_of e m)) → Holds (not (is_arm arm.Learner (arm_of e m))) → leaves (step_at z e k m ps [] [] t).answer (step_at z e k m ps [] [] t).proposers acs ls (step_at z e k m ps [] [] t).slots ≡ step_at z e k m ps acs ls t
  unfolding reply_of
  proposer-leaves h n = λ i. leaves (w i) (set ps (index_in (party_of e m) z.proposers) (sym p i).change.proposer) (acceptors-stay f₀ f₀.change.proposer p i) (learners-stay n i) (slots-as f₀ f₀.change.proposer c p i)
    where
      f₀ : Decision
      f₀ = finished_at z e k m ps [] [] t

      p : f ≡ given_to f₀.change.proposer c f₀
      p = p-finished h

      w : reply_of z e f₀ m fresh_learner ≡ reply_of z e f m l
      w = quiet-reply z e f₀ m fresh_learner l (ap (λ (g : Decision). g.change.hears) (sym p) ∙ (quiet-finished n).0) ∙ ap (λ (g : Decision). reply_of z e g m l) (sym p)

  pub by-proposer : Holds (is_arm arm.Proposer (arm_of e m)) → leaves (step_at z e k m ps [] [] t).answer (step_at z e k m ps [] [] t).proposers acs ls (step_at z e k m ps [] [] t).slots ≡ step_at z e k m ps acs ls t
  by-proposer h = proposer-leaves (proposer-of arm.Proposer (arm_of e m) h tt) (not-of arm.Proposer arm.Learner (arm_of e m) h tt)

  pub by-told : Holds (is_arm arm.Told (arm_of e m)) → leaves (step_at z e k m ps [] [] t).answer (step_at z e k m ps [] [] t).proposers acs ls (step_at z e k m ps [] [] t).slots ≡ step_at z e k m ps acs ls t
  by-told h = proposer-leaves (proposer-of arm.Told (arm_of e m) h tt) (not-of arm.Told arm.Learner (arm_of e m) h tt)

  pub by-acceptor : Holds (is_arm arm.Acceptor (arm_of e m)) → leaves (step_at z e k m [] acs [] t).answer ps (step_at z e k m [] acs [] t).acceptors ls (step_at z e k m [] acs [] t).slots ≡ step_at z e k m ps acs ls t
  by-acceptor h = λ i. leaves (w i) (proposers-stay f₀ f₀.change.acceptor p i) (set acs (index_in (party_of e m) z.acceptors) (sym p i).change.acceptor) (learners-stay n i) (slots-as f₀ q f₀.change.acceptor p i)
    where
      n : Holds (not (is_arm arm.Learner (arm_of e m)))
      n = not-of arm.Acceptor arm.Learner (arm_of e m) h tt

      f₀ : Decision
      f₀ = finished_at z e k m [] acs [] t

      p : f ≡ given_to q f₀.change.acceptor f₀
      p = a-finished h

      w : reply_of z e f₀ m fresh_learner ≡ reply_of z e f m l
      w = quiet-reply z e f₀ m fresh_learner l (ap (λ (g : Decision). g.change.hears) (sym p) ∙ (quiet-finished n).0) ∙ sym (other-reply z e f₀ q f₀.change.acceptor m l (not-of arm.Acceptor arm.Proposer (arm_of e m) h tt)) ∙ ap (λ (g : Decision). reply_of z e g m l) (sym p)

  pub by-learner : Holds (is_arm arm.Learner (arm_of e m)) → leaves (step_at z e k m [] [] ls t).answer ps acs (step_at z e k m [] [] ls t).learners (step_at z e k m [] [] ls t).slots ≡ step_at z e k m ps acs ls t
  by-learner h = λ i. leaves (w i) (proposers-stay f₀ c p i) (acceptors-stay f₀ q p i) (set ls (index_in (party_of e m) z.learners) (learner_after z (sym p i).change.hears (sym p i).change.stops m l)) (slots-as f₀ q c p i)
    where
      f₀ : Decision
      f₀ = finished_at z e k m [] [] ls t

      p : f ≡ given_to q c f₀
      p = l-finished h

      w : reply_of z e f₀ m l ≡ reply_of z e f m l
      w = sym (other-reply z e f₀ q c m l (not-of arm.Learner arm.Proposer (arm_of e m) h tt)) ∙ ap (λ (g : Decision). reply_of z e g m l) (sym p)

  pub by-table : Holds (is_arm arm.Table (arm_of e m)) → leaves (step_at z e k m [] [] [] t).answer ps acs ls (step_at z e k m [] [] [] t).slots ≡ step_at z e k m ps acs ls t
  by-table h = λ i. leaves (w i) (proposers-stay f₀ c p i) (acceptors-stay f₀ q p i) (learners-stay n i) (slots-as f₀ q c p i)
    where
      n : Holds (not (is_arm arm.Learner (arm_of e m)))
      n = not-of arm.Table arm.Learner (arm_of e m) h tt

      f₀ : Decision
      f₀ = finished_at z e k m [] [] [] t

      p : f ≡ given_to q c f₀
      p = n-finished h

      w : reply_of z e f₀ m fresh_learner ≡ reply_of z e f m l
      w = quiet-reply z e f₀ m fresh_learner l (ap (λ (g : Decision). g.change.hears) (sym p) ∙ (quiet-finished n).0) ∙ sym (other-reply z e f₀ q c m l (not-of arm.Table arm.Proposer (arm_of e m) h tt)) ∙ ap (λ (g : Decision). reply_of z e g m l) (sym p)
