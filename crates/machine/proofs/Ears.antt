-- A learner by one place: what an event leaves of it, its answer and its slot are the step's.
--     ear-arm      where a learner's arm takes an event
-- Assumes nothing.
use mathlib.Core.Path.{◌≡◌, refl, sym, ◌∙◌, ap}
use mathlib.Core.Bool.{Bool, true, false}
use mathlib.Core.List.{List, []}
use Prim.Native.Nat.{ℕ, ◌-◌}
use native.Mathlib.Omega.{arith}
use lib.Dec.{T as Holds, eqb}
use lib.ListN.{get_or, set}
use Rattle.std.specs.Prelude.{if◌then◌else◌, Ok, Err}
use Rattle.std.proofs.lemmas.Result.{IfOk-at_ok, IfErr-at_err}
use Rattle.sets.specs.declared.scans.Scans.{Scans}
use Rattle.sizes.specs.declared.Sizes.{Sizes}
use Rattle.model.specs.Records.{kind_of, role_of, fresh_proposer, fresh_acceptor, fresh_learner, free_slot, heard_of, unheard}
use Rattle.model.specs.declared.Kind.{Kind}
use Rattle.model.specs.declared.Kind.TheVariants.{Free as free, Internal as internal, Proposal as proposal, Acknowledgement as acknowledgement, Rejection as rejection, Announcement as announcement, NoKind as no_kind}
use Rattle.model.specs.declared.Role.{Role}
use Rattle.model.specs.declared.Role.TheVariants.{Proposer as a_proposer, Acceptor as an_acceptor, Learner as a_learner, NoRole as no_role}
use Rattle.model.specs.Rules.{hearing, teaches, learns, listening, crashed_learner}
use Rattle.model.specs.Table.{post, free_slots}
use Rattle.model.specs.Events.{code_of}
use Rattle.model.specs.declared.Code.{Code}
use Rattle.model.specs.declared.Code.TheVariants.{Receive as receive, Deliver as deliver, Drop as drop, Duplicate as duplicate, Propose as propose, Refine as refine, Decide as decide, Crash as crash, NoCode as no_code}
use Rattle.model.specs.declared.Proposer.{Proposer}
use Rattle.model.specs.declared.Acceptor.{Acceptor}
use Rattle.model.specs.declared.Heard.{Heard}
use Rattle.model.specs.declared.Learner.{Learner}
use Rattle.model.specs.declared.Message.{Message}
use Rattle.model.specs.declared.Event.{Event}
use Rattle.model.specs.declared.Answer.{Answer}
use Rattle.model.specs.declared.Answer.TheVariants.{Done, Learnt}
use Rattle.decisions.specs.Change.{Changes}
use Rattle.decisions.specs.Sending.{silence, count_of, items_of, lacking}
use Rattle.decisions.specs.Change.{heard_by, stopping, delivering_of, crashing_of, change_of, learner_after, slot_after, learner_answer, answer_of}
use Rattle.decisions.proofs.Items.{items-silence}
use Rattle.machine.specs.Stepping.{index_in, party_of, reply_of}
use Rattle.decisions.specs.Arms.{Decision, given, need_of, decide_of, refused_of, finish_of}
use Rattle.machine.proofs.Readiness.{same}
use Rattle.decisions.specs.declared.arms.Ear.{Ear}
use Rattle.decisions.specs.declared.arms.Heeded.{Heeded}
use Rattle.model.specs.Step.{Answered}
use Rattle.decisions.specs.declared.arms.Arm.TheVariants as arm
use Rattle.machine.specs.Roles.{finished_at, step_at, ear_of, put_ear}
use Rattle.decisions.specs.Arms.{arm_of_kind, arm_of_role, arm_at, arm_of, is_arm, ear_at, hears, ear_says, Listened, listened, ear_no, listen_of, heeded, by_answer, by_learner}

-- ---- the two events of a learner

abbrev ear_change : Proposer → Acceptor → Bool → Changes
ear_change q c true = heard_by q c
ear_change q c false = stopping q c

ear-kind : (z : Sizes) (m : Message) (q : Proposer) (c : Acceptor) (k : Kind) → Holds (is_arm arm.Learner (arm_of_kind k)) → delivering_of z m q c k ≡ heard_by q c
unfolding delivering_of
ear-kind z m q c free h = absurd h
ear-kind z m q c internal h = absurd h
ear-kind z m q c proposal h = absurd h
ear-kind z m q c acknowledgement h = absurd h
ear-kind z m q c rejection h = absurd h
ear-kind z m q c announcement h = refl
ear-kind z m q c no_kind h = absurd h

ear-role : (q : Proposer) (c : Acceptor) (r : Role) → Holds (is_arm arm.Learner (arm_of_role r)) → crashing_of q c r ≡ stopping q c
unfolding crashing_of
ear-role q c a_proposer h = absurd h
ear-role q c an_acceptor h = absurd h
ear-role q c a_learner h = refl
ear-role q c no_role h = absurd h

ear-change : (z : Sizes) (a b : ℕ) (m : Message) (q : Proposer) (c : Acceptor) (code : Code) → Holds (is_arm arm.Learner (arm_at a m code)) → change_of z a b m q c code ≡ ear_change q c (hears code)
unfolding change_of arm_at
ear-change z a b m q c receive h = absurd h
ear-change z a b m q c deliver h = ear-kind z m q c (kind_of m.kind) h
ear-change z a b m q c drop h = absurd h
ear-change z a b m q c duplicate h = absurd h
ear-change z a b m q c propose h = absurd h
ear-change z a b m q c refine h = absurd h
ear-change z a b m q c decide h = absurd h
ear-change z a b m q c crash h = ear-role q c (role_of a) h
ear-change z a b m q c no_code h = absurd h

-- ---- a decision that asks for no room is finished as it is, or refused

none-by : (y : Bool) (k : ℕ) → k ≡ 0 → (if y then k else 0) ≡ 0
none-by true k e = e
none-by false k e = refl

no-need : (n : ℕ) (y : Bool) (q : Proposer) (c : Acceptor) → need_of n (ear_change q c y).frees (count_of (ear_change q c y).send) ≡ 0
unfolding need_of
no-need n true q c = none-by (eqb n 0) (0 - 1) refl
no-need n false q c = none-by (eqb n 0) 0 refl

none-lacking : (n f : ℕ) → n ≡ 0 → n - f ≡ 0
none-lacking n f e = omega arith

-- ---- what the code has of it, and what the step says

-- what comes of a decision that asks for no room
abbrev ends_by : Bool → ℕ → Proposer → Acceptor → Bool → Decision
ends_by y n q c t = if y then record { no = n; need = 0; change = ear_change q c t } else refused_of n q c

abbrev ear_ends : Sizes → Message → Ear → Bool → ℕ → Code → Listened
ear_ends z m x y n code =
    if y then record { ear = ear_at z m x code; frees = hears code; answer = Ok (ear_says z m x code) } else record { ear = x; frees = false; answer = Err n }

learnt-as : (t : Bool) (w : Answer) (v u : Scans) (f : Scans → Answer) → (if t then f v else w) ≡ (if t then f (if t then v else u) else w)
learnt-as true w v u f = refl
learnt-as false w v u f = refl

module _ (z : Sizes) (a : ℕ) (m : Message) (l : Learner) (q : Proposer) (c : Acceptor) (n : ℕ) where
  abbrev p : ℕ
  p = m.proposer.0

  abbrev x : Ear
  x = ear_of l p

  ear-answer : (y : Bool) → eqb n 0 ≡ y → (code : Code) → Holds (is_arm arm.Learner (arm_at a m code))
      → (ear_ends z m x y n code).answer ≡ given (ends_by y n q c (hears code)).no (answer_of z (ends_by y n q c (hears code)).change.hears (ends_by y n q c (hears code)).change.proposer.decided a m l code)
  unfolding arm_at ear_says answer_of learner_answer learns listening
  ear-answer y e receive h = absurd h
  ear-answer true e deliver h = rw e (ap Ok (learnt-as (teaches z.acceptors l.learnt (heard_of l p) m) Done (hearing (heard_of l p) m).set l.learnt (Learnt (record { 0 = m.addressee }))))
  ear-answer false e deliver h = rw e refl
  ear-answer y e drop h = absurd h
  ear-answer y e duplicate h = absurd h
  ear-answer y e propose h = absurd h
  ear-answer y e refine h = absurd h
  ear-answer y e decide h = absurd h
  ear-answer true e crash h = rw e refl
  ear-answer false e crash h = rw e refl
  ear-answer y e no_code h = absurd h

  as-was : put_ear l p x ≡ l
  as-was = ap (λ (hs : List Heard). record { alive = l.alive; learnt = l.learnt; heard = hs }) (same unheard l.heard p)

  ear-learner : (y : Bool) (code : Code) → Holds (is_arm arm.Learner (arm_at a m code))
      → put_ear l p (ear_ends z m x y n code).ear ≡ learner_after z (ends_by y n q c (hears code)).change.hears (ends_by y n q c (hears code)).change.stops m l
  unfolding arm_at ear_at learner_after learns listening crashed_learner
  ear-learner y receive h = absurd h
  ear-learner true deliver h = refl
  ear-learner false deliver h = as-was
  ear-learner y drop h = absurd h
  ear-learner y duplicate h = absurd h
  ear-learner y propose h = absurd h
  ear-learner y refine h = absurd h
  ear-learner y decide h = absurd h
  ear-learner true crash h = ap (λ (hs : List Heard). record { alive = false; learnt = l.learnt; heard = hs }) (same unheard l.heard p)
  ear-learner false crash h = as-was
  ear-learner y no_code h = absurd h

  ear-frees : (y : Bool) (code : Code) → Holds (is_arm arm.Learner (arm_at a m code)) → (ear_ends z m x y n code).frees ≡ (ends_by y n q c (hears code)).change.frees
  unfolding arm_at
  ear-frees y receive h = absurd h
  ear-frees true deliver h = refl
  ear-frees false deliver h = refl
  ear-frees y drop h = absurd h
  ear-frees y duplicate h = absurd h
  ear-frees y propose h = absurd h
  ear-frees y refine h = absurd h
  ear-frees y decide h = absurd h
  ear-frees true crash h = refl
  ear-frees false crash h = refl
  ear-frees y no_code h = absurd h

  ear-sends : (y t : Bool) → (ends_by y n q c t).change.send ≡ silence
  ear-sends true true = refl
  ear-sends true false = refl
  ear-sends false t = refl

-- ---- where a learner's arm takes an event

module _ (z : Sizes) (e : Event) (k : ℕ) (m : Message) (ls : List Learner) (t : List Message) (h : Holds (is_arm arm.Learner (arm_of e m))) where
  abbrev l' : Learner
  l' = get_or ls (index_in (party_of e m) z.learners) fresh_learner

  abbrev code : Code
  code = code_of e.code

  abbrev n' : ℕ
  n' = ear_no z e m l'.alive

  abbrev f : Decision
  f = finished_at z e k m [] [] ls t

  finished-by : (d : Changes) → d ≡ ear_change fresh_proposer fresh_acceptor (hears code)
      → (if eqb n' 0 then (if eqb (lacking (need_of n' d.frees (count_of d.send)) t) 0 then record { no = n'; need = need_of n' d.frees (count_of d.send); change = d } else refused_of 8 fresh_proposer fresh_acceptor) else refused_of n' fresh_proposer fresh_acceptor)
      ≡ ends_by (eqb n' 0) n' fresh_proposer fresh_acceptor (hears code)
  finished-by d p =
      ap (λ (d' : Changes). if eqb n' 0 then (if eqb (lacking (need_of n' d'.frees (count_of d'.send)) t) 0 then record { no = n'; need = need_of n' d'.frees (count_of d'.send); change = d' } else refused_of 8 fresh_proposer fresh_acceptor) else refused_of n' fresh_proposer fresh_acceptor) p
      ∙ rw (no-need n' (hears code) fresh_proposer fresh_acceptor, none-lacking 0 (free_slots t) refl) refl

  finished_as : f ≡ ends_by (eqb n' 0) n' fresh_proposer fresh_acceptor (hears code)
  unfolding finish_of decide_of
  finished_as = finished-by (change_of z e.a e.b m fresh_proposer fresh_acceptor code) (ear-change z e.a e.b m fresh_proposer fresh_acceptor code h)

  pub ear-says : (listen_of z e m (ear_of l' m.proposer.0)).answer ≡ (step_at z e k m [] [] ls t).answer
  unfolding listen_of reply_of
  ear-says = ear-answer z e.a m l' fresh_proposer fresh_acceptor n' (eqb n' 0) refl code h ∙ ap (λ (g : Decision). reply_of z e g m l') (sym finished_as)

  pub ear-left : set ls (index_in (party_of e m) z.learners) (put_ear l' m.proposer.0 (listen_of z e m (ear_of l' m.proposer.0)).ear) ≡ (step_at z e k m [] [] ls t).learners
  unfolding listen_of
  ear-left = ap (set ls (index_in (party_of e m) z.learners)) (ear-learner z e.a m l' fresh_proposer fresh_acceptor n' (eqb n' 0) code h ∙ ap (λ (g : Decision). learner_after z g.change.hears g.change.stops m l') (sym finished_as))

  pub ear-slots : set t k (slot_after (listen_of z e m (ear_of l' m.proposer.0)).frees m) ≡ (step_at z e k m [] [] ls t).slots
  unfolding listen_of post
  ear-slots = ap (λ (y : Bool). set t k (slot_after y m)) (ear-frees z e.a m l' fresh_proposer fresh_acceptor n' (eqb n' 0) code h ∙ ap (λ (g : Decision). g.change.frees) (sym finished_as))
      ∙ ap (λ (ms : List Message). post ms (set t k (slot_after f.change.frees m))) (sym (ap (λ (g : Decision). items_of g.change.send) finished_as ∙ ap items_of (ear-sends z e.a m l' fresh_proposer fresh_acceptor n' (eqb n' 0) (hears code)) ∙ items-silence))

-- ---- what a learner has, by what the code answers

-- where it is not refused
heard-ok : (y : Listened) (w : Answered) (x : Heeded) → Ok x ≡ by_answer y w → (w ≡ Ok x.answer) × ((x.change.party ≡ y.ear) × (x.change.frees ≡ y.frees))
heard-ok y (Ok w) x e = let g : x ≡ heeded y.ear y.frees w = IfOk-at_ok (λ (v : Heeded). x ≡ v) e refl in
    (ap (λ (h : Heeded). Ok h.answer) (sym g), (ap (λ (h : Heeded). h.change.party) g, ap (λ (h : Heeded). h.change.frees) g))
heard-ok y (Err n) x e = absurd (IfErr-at_err (λ (k : ℕ). ⊥) e tt)

pub hears-well : (y : Listened) (x : Heeded) → Ok x ≡ by_learner y → (Ok x.answer ≡ y.answer) × ((x.change.party ≡ y.ear) × (x.change.frees ≡ y.frees))
hears-well y x e = let h = heard-ok y y.answer x e in (sym h.0, h.1)

-- and where it is
heard-err : (y : Listened) (w : Answered) (n : ℕ) → Err n ≡ by_answer y w → w ≡ Err n
heard-err y (Ok w) n e = absurd (IfOk-at_ok (λ (x : Heeded). ⊥) e tt)
heard-err y (Err k) n e = ap Err (sym (IfErr-at_err (λ (k : ℕ). n ≡ k) e refl))

not-heard : (y : Listened) (n : ℕ) → Err n ≡ by_learner y → y.answer ≡ Err n
not-heard y n e = heard-err y y.answer n e

ear-stays : (z : Sizes) (e : Event) (m : Message) (x : Ear) (n : ℕ) (b : Bool) (k : ℕ) → eqb n 0 ≡ b → (listened z e m x n).answer ≡ Err k → ((listened z e m x n).ear ≡ x) × ((listened z e m x n).frees ≡ false)
ear-stays z e m x n true k p r = absurd (IfErr-at_err (λ (k : ℕ). ⊥) (ap (λ (b : Bool). (ear_ends z m x b n (code_of e.code)).answer) (sym p) ∙ r) tt)
ear-stays z e m x n false k p r = (ap (λ (b : Bool). (ear_ends z m x b n (code_of e.code)).ear) p, ap (λ (b : Bool). (ear_ends z m x b n (code_of e.code)).frees) p)

module _ (z : Sizes) (e : Event) (k : ℕ) (m : Message) (ls : List Learner) (t : List Message) (h : Holds (is_arm arm.Learner (arm_of e m))) where
  abbrev i₀ : ℕ
  i₀ = index_in (party_of e m) z.learners

  abbrev l₀ : Learner
  l₀ = get_or ls i₀ fresh_learner

  abbrev y₀ : Listened
  y₀ = listen_of z e m (ear_of l₀ m.proposer.0)

  pub ear-refused : (n : ℕ) → m ≡ get_or t k free_slot → Err n ≡ by_learner y₀
      → (Err n ≡ (step_at z e k m [] [] ls t).answer) × ((ls ≡ (step_at z e k m [] [] ls t).learners) × (t ≡ (step_at z e k m [] [] ls t).slots))
  unfolding listen_of slot_after
  ear-refused n s r =
      let a = not-heard y₀ n r in
      let x = ear-stays z e m (ear_of l₀ m.proposer.0) (ear_no z e m l₀.alive) (eqb (ear_no z e m l₀.alive) 0) n refl a in (
        sym a ∙ ear-says z e k m ls t h,
        (
          sym (same fresh_learner ls i₀)
              ∙ ap (set ls i₀) (sym (as-was z e.a m l₀ fresh_proposer fresh_acceptor 0))
              ∙ ap (λ (v : Ear). set ls i₀ (put_ear l₀ m.proposer.0 v)) (sym x.0)
              ∙ ear-left z e k m ls t h,
          sym (same free_slot t k) ∙ ap (set t k) (sym s) ∙ ap (λ (b : Bool). set t k (slot_after b m)) (sym x.1) ∙ ear-slots z e k m ls t h,
        ),
      )
