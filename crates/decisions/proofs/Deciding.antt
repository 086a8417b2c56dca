-- What the arms decide by themselves is what is decided of all records.
-- Assumes nothing.
use mathlib.Core.Path.{◌≡◌, refl, sym, ◌∙◌, ap, subst}
use mathlib.Core.Bool.{Bool, true, false, ◌&&◌, true≢false}
use Prim.Native.Nat.{ℕ, zero, suc, ◌-◌}
use native.Mathlib.Omega.{arith}
use lib.Dec.{T as Holds, eqb, eqb→eq, ltb}
use borrow.Author.Tests.{eq-eqb, ne_eqb, eqb-true, eqb-false}
use Rattle.std.specs.Prelude.{if◌then◌else◌, not, Result, Ok, Err}
use Rattle.choice.specs.Tests.{◌unless◌, ◌⨾◌, refusal, ok}
use Rattle.choice.proofs.Tests.{test-passed}
use Rattle.sets.specs.declared.scans.Scans.{Scans}
use Rattle.sizes.specs.Sizes.{sizes_in_range}
use Rattle.sizes.specs.declared.Sizes.{Sizes}
use Rattle.model.specs.Records.{kind_of, role_of, addressed, fresh_proposer, fresh_acceptor, fresh_learner}
use Rattle.model.specs.declared.Kind.{Kind}
use Rattle.model.specs.declared.Kind.TheVariants.{Free as free, Internal as internal, Proposal as proposal, Acknowledgement as acknowledgement, Rejection as rejection, Announcement as announcement, NoKind as no_kind}
use Rattle.model.specs.declared.Role.{Role}
use Rattle.model.specs.declared.Role.TheVariants.{Proposer as a_proposer, Acceptor as an_acceptor, Learner as a_learner, NoRole as no_role}
use Rattle.model.specs.Rules.{crashed_acceptor, crashed_proposer}
use Rattle.model.specs.Events.{code_of, exists}
use Rattle.model.specs.declared.Code.{Code}
use Rattle.model.specs.declared.Code.TheVariants.{Receive as receive, Deliver as deliver, Drop as drop, Duplicate as duplicate, Propose as propose, Refine as refine, Decide as decide, Crash as crash, NoCode as no_code}
use Rattle.model.specs.declared.Proposer.{Proposer}
use Rattle.model.specs.declared.Acceptor.{Acceptor}
use Rattle.model.specs.declared.Learner.{Learner}
use Rattle.model.specs.declared.Message.{Message}
use Rattle.model.specs.declared.Event.{Event}
use Rattle.model.specs.declared.Answer.{Answer}
use Rattle.model.specs.declared.Answer.TheVariants.{Done, Decided}
use Rattle.decisions.specs.Change.{of_proposer, of_acceptor, of_table, unchanged_one, unchanged, freed, as_proposer, answering_of, delivering_of, crashing_of, change_of, answer_of}
use Rattle.decisions.specs.Refusals.{alive_in, slot_no, party_no, test_no}
use Rattle.decisions.specs.declared.arms.Arm.{Arm}
use Rattle.decisions.specs.declared.arms.Arm.TheVariants as arm
use Rattle.decisions.specs.declared.arms.Ear.{Ear}
use Rattle.decisions.specs.Arms.{arm_of_kind, arm_of_role, arm_at, arm_of, is_arm, takes, Decision, need_of, decided, given, decide_of, refused_of, finish_of, decided_in, by_proposer, by_acceptor, by_table, told_by, delivered_no, told_in, listened, ear_no, listen_of, heard_in, done_answer}
use Rattle.decisions.specs.Sending.{count_of}

-- ---- the events that an arm takes

both_hold : (s b : Bool) → s && b ≡ true → (s ≡ true) × Holds b
both_hold true true e = (refl, tt)
both_hold true false e = absurd (subst Holds (sym e) tt)
both_hold false b e = absurd (subst Holds (sym e) tt)

holds-both : (s b : Bool) → s ≡ true → Holds b → s && b ≡ true
holds-both true true e h = refl
holds-both true false e h = absurd h
holds-both false b e h = absurd (subst Holds (sym e) tt)

pub takes-own : (n : Arm) (z : Sizes) (e : Event) (m : Message) → takes n z e m ≡ true → (sizes_in_range z ≡ true) × Holds (is_arm n (arm_of e m))
takes-own n z e m h = both_hold (sizes_in_range z) (is_arm n (arm_of e m)) h

pub is-taken : (n : Arm) (z : Sizes) (e : Event) (m : Message) → sizes_in_range z ≡ true → Holds (is_arm n (arm_of e m)) → takes n z e m ≡ true
is-taken n z e m s h = holds-both (sizes_in_range z) (is_arm n (arm_of e m)) s h

pub decided-in : (n : Arm) (z : Sizes) (e : Event) (m : Message) (q : Proposer) (c : Acceptor) → sizes_in_range z ≡ true → Holds (is_arm n (arm_of e m)) → decided_in n z e m q c ≡ decide_of z e m q c fresh_learner
decided-in n z e m q c s h = ap (λ (b : Bool). if b then decide_of z e m q c fresh_learner else refused_of 2 q c) (is-taken n z e m s h)

-- ---- a proposer that is told

no-role : {X : Type 0} (r : Role) → Holds (is_arm arm.Told (arm_of_role r)) → X
no-role a_proposer h = absurd h
no-role an_acceptor h = absurd h
no-role a_learner h = absurd h
no-role no_role h = absurd h

none-by : (y : Bool) (n : ℕ) → n ≡ 0 → (if y then n else 0) ≡ 0
none-by true n e = e
none-by false n e = refl

pub needs-none : (n c : ℕ) (f : Bool) → f ≡ true → c ≡ 0 → need_of n f c ≡ 0
unfolding need_of
needs-none n c f p r = ap (λ (y : Bool). if eqb n 0 then (if y then c - 1 else c) else 0) p ∙ none-by (eqb n 0) (c - 1) (omega arith)

told-alive : (k : Kind) (q x y : Bool) → Holds (is_arm arm.Told (arm_of_kind k)) → alive_in (addressed k) q x y ≡ q
told-alive free q x y h = absurd h
told-alive internal q x y h = refl
told-alive proposal q x y h = absurd h
told-alive acknowledgement q x y h = refl
told-alive rejection q x y h = refl
told-alive announcement q x y h = absurd h
told-alive no_kind q x y h = absurd h

told-kind : (z : Sizes) (m : Message) (q : Proposer) (c : Acceptor) (k : Kind) → Holds (is_arm arm.Told (arm_of_kind k)) → delivering_of z m q c k ≡ freed (told_by q m k) c
unfolding delivering_of told_by
told-kind z m q c free h = absurd h
told-kind z m q c internal h = refl
told-kind z m q c proposal h = absurd h
told-kind z m q c acknowledgement h = refl
told-kind z m q c rejection h = refl
told-kind z m q c announcement h = absurd h
told-kind z m q c no_kind h = absurd h

module _ (z : Sizes) (e : Event) (m : Message) (q : Proposer) (c : Acceptor) where
  told-test : (x y : Bool) (code : Code) → Holds (is_arm arm.Told (arm_at e.a m code)) → test_no z e.a e.b m q x y code ≡ delivered_no z e m q.alive
  unfolding test_no arm_at
  told-test x y receive h = absurd h
  told-test x y deliver h = ap (λ (v : Bool). refusal (slot_no z e.a e.b m) ⨾ 5 unless v ⨾ ok) (told-alive (kind_of m.kind) q.alive x y h)
  told-test x y drop h = absurd h
  told-test x y duplicate h = absurd h
  told-test x y propose h = absurd h
  told-test x y refine h = absurd h
  told-test x y decide h = absurd h
  told-test x y crash h = no-role (role_of e.a) h
  told-test x y no_code h = absurd h

  pub told-change : (code : Code) → Holds (is_arm arm.Told (arm_at e.a m code)) → change_of z e.a e.b m q c code ≡ freed (told_by q m (kind_of m.kind)) c
  unfolding change_of arm_at
  told-change receive h = absurd h
  told-change deliver h = told-kind z m q c (kind_of m.kind) h
  told-change drop h = absurd h
  told-change duplicate h = absurd h
  told-change propose h = absurd h
  told-change refine h = absurd h
  told-change decide h = absurd h
  told-change crash h = no-role (role_of e.a) h
  told-change no_code h = absurd h

  abbrev told : ℕ → Decision
  told n = record { no = n; need = 0; change = freed (told_by q m (kind_of m.kind)) c }

  told-decided : Holds (is_arm arm.Told (arm_of e m)) → (n : ℕ) → n ≡ delivered_no z e m q.alive → decide_of z e m q c fresh_learner ≡ told n
  unfolding decide_of
  told-decided h n p =
      (λ i. record { no = told-test c.alive true (code_of e.code) h i; need = need_of (told-test c.alive true (code_of e.code) h i) (told-change (code_of e.code) h i).frees (count_of (told-change (code_of e.code) h i).send); change = told-change (code_of e.code) h i })
      ∙ (λ i. record { no = sym p i; need = needs-none (delivered_no z e m q.alive) 0 true refl refl i; change = freed (told_by q m (kind_of m.kind)) c })

  finish-done : (n : ℕ) → n ≡ 0 → told n ≡ finish_of (told n) 0 q c
  unfolding finish_of
  finish-done n o = rw (eq-eqb n 0 o) refl

  finish-refused : (n : ℕ) → (n ≡ 0 → ⊥) → refused_of n q c ≡ finish_of (told n) 0 q c
  unfolding finish_of
  finish-refused n o = rw (ne_eqb n 0 o) refl

  told-by-no : Holds (is_arm arm.Told (arm_of e m)) → (n : ℕ) (t : Bool) → t ≡ eqb n 0 → n ≡ delivered_no z e m q.alive → (if t then told n else refused_of n q c) ≡ finish_of (decide_of z e m q c fresh_learner) 0 q c
  told-by-no h n true o p = finish-done n (eqb→eq n 0 (subst Holds o tt)) ∙ ap (λ (d : Decision). finish_of d 0 q c) (sym (told-decided h n p))
  told-by-no h n false o p = finish-refused n (λ z. subst Holds (sym (o ∙ eq-eqb n 0 z)) tt) ∙ ap (λ (d : Decision). finish_of d 0 q c) (sym (told-decided h n p))

module _ (z : Sizes) (e : Event) (m : Message) (q : Proposer) where
  -- where it is its event, this is what is decided of all records
  pub told_in_lem : Holds (is_arm arm.Told (arm_of e m)) → told_in z e m q ≡ finish_of (decide_of z e m q fresh_acceptor fresh_learner) 0 q fresh_acceptor
  unfolding told_in
  told_in_lem h = told-by-no z e m q fresh_acceptor h (delivered_no z e m q.alive) (eqb (delivered_no z e m q.alive) 0) refl refl

-- ---- a learner's refusals

abbrev is_deliver : Code → Bool
is_deliver receive = false
is_deliver deliver = true
is_deliver drop = false
is_deliver duplicate = false
is_deliver propose = false
is_deliver refine = false
is_deliver decide = false
is_deliver crash = false
is_deliver no_code = false

not-two : (n : ℕ) → (n ≡ 2 → ⊥) → is_deliver (code_of n) ≡ false
not-two zero h = refl
not-two (suc zero) h = refl
not-two (suc (suc zero)) h = absurd (h refl)
not-two (suc (suc (suc zero))) h = refl
not-two (suc (suc (suc (suc zero)))) h = refl
not-two (suc (suc (suc (suc (suc zero))))) h = refl
not-two (suc (suc (suc (suc (suc (suc zero)))))) h = refl
not-two (suc (suc (suc (suc (suc (suc (suc zero))))))) h = refl
not-two (suc (suc (suc (suc (suc (suc (suc (suc zero)))))))) h = refl
not-two (suc (suc (suc (suc (suc (suc (suc (suc (suc n))))))))) h = refl

ear-alive : (k : Kind) (q x y : Bool) → Holds (is_arm arm.Learner (arm_of_kind k)) → alive_in (addressed k) q x y ≡ y
ear-alive free q x y h = absurd h
ear-alive internal q x y h = absurd h
ear-alive proposal q x y h = absurd h
ear-alive acknowledgement q x y h = absurd h
ear-alive rejection q x y h = absurd h
ear-alive announcement q x y h = refl
ear-alive no_kind q x y h = absurd h

ear-role : (z : Sizes) (r : Role) (b : ℕ) (q x y : Bool) → Holds (is_arm arm.Learner (arm_of_role r)) → party_no (ltb b z.learners) y ≡ party_no (exists z r b) (alive_in r q x y)
ear-role z a_proposer b q x y h = absurd h
ear-role z an_acceptor b q x y h = absurd h
ear-role z a_learner b q x y h = refl
ear-role z no_role b q x y h = absurd h

-- by the number of the code, of which 2 is Deliver
ear-code : (z : Sizes) (a b : ℕ) (m : Message) (y : Bool) (code : Code) → Holds (is_arm arm.Learner (arm_at a m code)) → test_no z a b m fresh_proposer true y code ≡ (if is_deliver code then (refusal (slot_no z a b m) ⨾ 5 unless y ⨾ ok) else party_no (ltb b z.learners) y)
unfolding test_no arm_at
ear-code z a b m y receive h = absurd h
ear-code z a b m y deliver h = ap (λ (v : Bool). refusal (slot_no z a b m) ⨾ 5 unless v ⨾ ok) (ear-alive (kind_of m.kind) true true y h)
ear-code z a b m y drop h = absurd h
ear-code z a b m y duplicate h = absurd h
ear-code z a b m y propose h = absurd h
ear-code z a b m y refine h = absurd h
ear-code z a b m y decide h = absurd h
ear-code z a b m y crash h = sym (ear-role z (role_of a) b true true y h)
ear-code z a b m y no_code h = absurd h

ear-delivered : (z : Sizes) (e : Event) (m : Message) (y : Bool) → Holds (is_arm arm.Learner (arm_of e m)) → e.code ≡ 2 → delivered_no z e m y ≡ ear_no z e m y
ear-delivered z e m y h p = sym (ear-code z e.a e.b m y (code_of e.code) h ∙ ap (λ (n : ℕ). if is_deliver (code_of n) then delivered_no z e m y else party_no (ltb e.b z.learners) y) p)

ear-crashes : (z : Sizes) (e : Event) (m : Message) (y : Bool) → Holds (is_arm arm.Learner (arm_of e m)) → (e.code ≡ 2 → ⊥) → party_no (ltb e.b z.learners) y ≡ ear_no z e m y
ear-crashes z e m y h p = sym (ear-code z e.a e.b m y (code_of e.code) h ∙ ap (λ (t : Bool). if t then delivered_no z e m y else party_no (ltb e.b z.learners) y) (not-two e.code p))

heard-by-code : (z : Sizes) (e : Event) (m : Message) (y : Bool) → Holds (is_arm arm.Learner (arm_of e m)) → (t : Bool) → t ≡ eqb e.code 2 → (if t then delivered_no z e m y else party_no (ltb e.b z.learners) y) ≡ ear_no z e m y
heard-by-code z e m y h true o = ear-delivered z e m y h (eqb→eq e.code 2 (subst Holds o tt))
heard-by-code z e m y h false o = ear-crashes z e m y h (λ p. subst Holds (sym (o ∙ eq-eqb e.code 2 p)) tt)

-- where it is its event, this is what is decided of all records
pub heard-in : (z : Sizes) (e : Event) (m : Message) (x : Ear) → Holds (is_arm arm.Learner (arm_of e m)) → heard_in z e m x ≡ listen_of z e m x
unfolding heard_in listen_of
heard-in z e m x h = ap (listened z e m x) (heard-by-code z e m x.alive h (eqb e.code 2) refl)

-- ---- an acceptor

answer-alive : (k : Kind) (q x y : Bool) → Holds (is_arm arm.Acceptor (arm_of_kind k)) → alive_in (addressed k) q x y ≡ x
answer-alive free q x y h = absurd h
answer-alive internal q x y h = absurd h
answer-alive proposal q x y h = refl
answer-alive acknowledgement q x y h = absurd h
answer-alive rejection q x y h = absurd h
answer-alive announcement q x y h = absurd h
answer-alive no_kind q x y h = absurd h

answer-kind : (z : Sizes) (m : Message) (q : Proposer) (c : Acceptor) (k : Kind) → Holds (is_arm arm.Acceptor (arm_of_kind k)) → delivering_of z m q c k ≡ answering_of z m q c
unfolding delivering_of
answer-kind z m q c free h = absurd h
answer-kind z m q c internal h = absurd h
answer-kind z m q c proposal h = refl
answer-kind z m q c acknowledgement h = absurd h
answer-kind z m q c rejection h = absurd h
answer-kind z m q c announcement h = absurd h
answer-kind z m q c no_kind h = absurd h

answer-role : (z : Sizes) (r : Role) (b : ℕ) (q x y : Bool) → Holds (is_arm arm.Acceptor (arm_of_role r)) → party_no (exists z r b) (alive_in r q x y) ≡ party_no (ltb b z.acceptors) x
answer-role z a_proposer b q x y h = absurd h
answer-role z an_acceptor b q x y h = refl
answer-role z a_learner b q x y h = absurd h
answer-role z no_role b q x y h = absurd h

answer-stops : (q : Proposer) (c : Acceptor) (r : Role) → Holds (is_arm arm.Acceptor (arm_of_role r)) → crashing_of q c r ≡ unchanged q (crashed_acceptor c)
unfolding crashing_of
answer-stops q c a_proposer h = absurd h
answer-stops q c an_acceptor h = refl
answer-stops q c a_learner h = absurd h
answer-stops q c no_role h = absurd h

module _ (z : Sizes) (a b : ℕ) (m : Message) (q : Proposer) (c : Acceptor) (y : Bool) where
  answer-test : (code : Code) → Holds (is_arm arm.Acceptor (arm_at a m code)) → test_no z a b m q c.alive y code ≡ (if is_deliver code then (refusal (slot_no z a b m) ⨾ 5 unless c.alive ⨾ ok) else party_no (ltb b z.acceptors) c.alive)
  unfolding test_no arm_at
  answer-test receive h = absurd h
  answer-test deliver h = ap (λ (v : Bool). refusal (slot_no z a b m) ⨾ 5 unless v ⨾ ok) (answer-alive (kind_of m.kind) q.alive c.alive y h)
  answer-test drop h = absurd h
  answer-test duplicate h = absurd h
  answer-test propose h = absurd h
  answer-test refine h = absurd h
  answer-test decide h = absurd h
  answer-test crash h = answer-role z (role_of a) b q.alive c.alive y h
  answer-test no_code h = absurd h

  answer-change : (code : Code) → Holds (is_arm arm.Acceptor (arm_at a m code)) → change_of z a b m q c code ≡ (if is_deliver code then answering_of z m q c else unchanged q (crashed_acceptor c))
  unfolding change_of arm_at
  answer-change receive h = absurd h
  answer-change deliver h = answer-kind z m q c (kind_of m.kind) h
  answer-change drop h = absurd h
  answer-change duplicate h = absurd h
  answer-change propose h = absurd h
  answer-change refine h = absurd h
  answer-change decide h = absurd h
  answer-change crash h = answer-stops q c (role_of a) h
  answer-change no_code h = absurd h

-- ---- what is answered where no learner hears

says-decided : (z : Sizes) (h : Bool) (v : Scans) (a : ℕ) (m : Message) (l : Learner) (n : ℕ) → h ≡ false → n ≡ 7 → Decided (record { 0 = as_proposer a }) v ≡ answer_of z h v a m l (code_of n)
unfolding answer_of
says-decided z h v a m l n p q = sym (ap (λ (k : ℕ). answer_of z h v a m l (code_of k)) q)

ok-by : (z : Sizes) (v : Scans) (a : ℕ) (m : Message) (l : Learner) (k : ℕ) → (k ≡ 7 → ⊥) → Done ≡ answer_of z false v a m l (code_of k)
unfolding answer_of
ok-by z v a m l zero g = refl
ok-by z v a m l (suc zero) g = refl
ok-by z v a m l (suc (suc zero)) g = refl
ok-by z v a m l (suc (suc (suc zero))) g = refl
ok-by z v a m l (suc (suc (suc (suc zero)))) g = refl
ok-by z v a m l (suc (suc (suc (suc (suc zero))))) g = refl
ok-by z v a m l (suc (suc (suc (suc (suc (suc zero)))))) g = refl
ok-by z v a m l (suc (suc (suc (suc (suc (suc (suc zero))))))) g = absurd (g refl)
ok-by z v a m l (suc (suc (suc (suc (suc (suc (suc (suc zero)))))))) g = refl
ok-by z v a m l (suc (suc (suc (suc (suc (suc (suc (suc (suc k))))))))) g = refl

says-ok : (z : Sizes) (h : Bool) (v : Scans) (a : ℕ) (m : Message) (l : Learner) (n : ℕ) → h ≡ false → (n ≡ 7 → ⊥) → Done ≡ answer_of z h v a m l (code_of n)
says-ok z h v a m l n p q = ok-by z v a m l n q ∙ ap (λ (y : Bool). answer_of z y v a m l (code_of n)) (sym p)

-- by the number of the code
pub says-as : (z : Sizes) (h : Bool) (v : Scans) (a : ℕ) (m : Message) (l : Learner) (n : ℕ) → h ≡ false → (if eqb n 7 then Decided (record { 0 = as_proposer a }) v else Done) ≡ answer_of z h v a m l (code_of n)
says-as z h v a m l n p = by (eqb n 7) refl
  where
    by : (b : Bool) → eqb n 7 ≡ b → ◌≡◌ {A = Answer} (if b then Decided (record { 0 = as_proposer a }) v else Done) (answer_of z h v a m l (code_of n))
    by true e = says-decided z h v a m l n p (eqb→eq n 7 (subst Holds (sym e) tt))
    by false e = says-ok z h v a m l n p (λ i. subst Holds (sym (eq-eqb n 7 i) ∙ e) tt)

-- only an acting proposer decides
pub says-done : (e : Event) (m : Message) (v : Scans) → Holds (not (is_arm arm.Proposer (arm_of e m))) → done_answer e v ≡ Done
unfolding arm_at
says-done e m v h = by (eqb e.code 7) refl
  where
    by : (b : Bool) → eqb e.code 7 ≡ b → ◌≡◌ {A = Answer} (if b then Decided (record { 0 = as_proposer e.a }) v else Done) Done
    by true p = absurd (subst (λ (n : ℕ). Holds (not (is_arm arm.Proposer (arm_at e.a m (code_of n))))) (eqb→eq e.code 7 (subst Holds (sym p) tt)) h)
    by false p = refl

-- ---- what is given, or refused

value : {B : Type 0} → B → Result B ℕ → B
value x (Ok y) = y
value x (Err k) = x

refusal_of : {B : Type 0} → Result B ℕ → ℕ
refusal_of (Ok y) = 0
refusal_of (Err k) = k

is_given : {B : Type 0} → Result B ℕ → Bool
is_given (Ok y) = true
is_given (Err k) = false

module _ {B : Type 0} (n : ℕ) (x : B) where
  was-ok : (y : B) (b : Bool) → eqb n 0 ≡ b → ◌≡◌ {A = Result B ℕ} (Ok y) (if b then Ok x else Err n) → (n ≡ 0) × (y ≡ x)
  unfolding value is_given
  was-ok y true p e = (eqb-true n 0 p, ap (value x) e)
  was-ok y false p e = absurd (true≢false (ap is_given e))

  pub given-ok : (y : B) → Ok y ≡ given n x → (n ≡ 0) × (y ≡ x)
  given-ok y e = was-ok y (eqb n 0) refl e

  was-err : (k : ℕ) (b : Bool) → eqb n 0 ≡ b → ◌≡◌ {A = Result B ℕ} (Err k) (if b then Ok x else Err n) → (k ≡ n) × (n ≡ 0 → ⊥)
  unfolding refusal_of is_given
  was-err k true p e = absurd (true≢false (sym (ap is_given e)))
  was-err k false p e = (ap refusal_of e, eqb-false n 0 p)

  pub given-err : (k : ℕ) → Err k ≡ given n x → (k ≡ n) × (n ≡ 0 → ⊥)
  given-err k e = was-err k (eqb n 0) refl e

-- ---- what an arm decides of its own event, by the event's code

abbrev Taken : Arm → Sizes → Event → Message → Type 0
Taken n z e m = 0 ≡ (2 unless takes n z e m ⨾ ok)

module _ (n : Arm) (z : Sizes) (e : Event) (m : Message) (q : Proposer) (c : Acceptor) (t : Taken n z e m) (code : Code) (h : code ≡ code_of e.code) where
  taken : (sizes_in_range z ≡ true) × Holds (is_arm n (arm_of e m))
  taken = takes-own n z e m (test-passed 1 (takes n z e m) ok (sym t))

  own : Holds (is_arm n (arm_at e.a m code))
  own = subst (λ (k : Code). Holds (is_arm n (arm_at e.a m k))) (sym h) taken.1

  by-code : decided_in n z e m q c ≡ decided (change_of z e.a e.b m q c code) (test_no z e.a e.b m q c.alive true code)
  unfolding decide_of
  by-code =
      decided-in n z e m q c taken.0 taken.1
      ∙ ap (λ (k : Code). decided (change_of z e.a e.b m q c k) (test_no z e.a e.b m q c.alive true k)) (sym h)

-- what the check of the sizes and the arm gives
pub checked : (n : Arm) (z : Sizes) (e : Event) (m : Message) (s : Sizes) → Ok s ≡ given (2 unless takes n z e m ⨾ ok) z → Taken n z e m × (s ≡ z)
checked n z e m s k = let g = given-ok (2 unless takes n z e m ⨾ ok) z s k in (sym g.0, g.1)

-- an acting proposer

acting-role : (z : Sizes) (b : ℕ) (q : Proposer) (c : Acceptor) (r : Role) → Holds (is_arm arm.Proposer (arm_of_role r))
    → given (party_no (ltb b z.proposers) q.alive) (unchanged_one (crashed_proposer q)) ≡ given (party_no (exists z r b) (alive_in r q.alive c.alive true)) (of_proposer (crashing_of q c r))
unfolding crashing_of
acting-role z b q c a_proposer h = refl
acting-role z b q c an_acceptor h = absurd h
acting-role z b q c a_learner h = absurd h
acting-role z b q c no_role h = absurd h

no-kind : {X : Type 0} (k : Kind) → Holds (is_arm arm.Proposer (arm_of_kind k)) → X
no-kind free h = absurd h
no-kind internal h = absurd h
no-kind proposal h = absurd h
no-kind acknowledgement h = absurd h
no-kind rejection h = absurd h
no-kind announcement h = absurd h
no-kind no_kind h = absurd h

acting-crash : (z : Sizes) (a b : ℕ) (m : Message) (q : Proposer) (c : Acceptor) (code : Code) → Holds (is_arm arm.Proposer (arm_at a m code))
    → (code ≡ receive → ⊥) → (code ≡ propose → ⊥) → (code ≡ refine → ⊥) → (code ≡ decide → ⊥)
    → given (party_no (ltb b z.proposers) q.alive) (unchanged_one (crashed_proposer q)) ≡ given (test_no z a b m q c.alive true code) (of_proposer (change_of z a b m q c code))
unfolding test_no change_of arm_at
acting-crash z a b m q c receive h x y v w = absurd (x refl)
acting-crash z a b m q c deliver h x y v w = no-kind (kind_of m.kind) h
acting-crash z a b m q c drop h x y v w = absurd h
acting-crash z a b m q c duplicate h x y v w = absurd h
acting-crash z a b m q c propose h x y v w = absurd (y refl)
acting-crash z a b m q c refine h x y v w = absurd (v refl)
acting-crash z a b m q c decide h x y v w = absurd (w refl)
acting-crash z a b m q c crash h x y v w = acting-role z b q c (role_of a) h
acting-crash z a b m q c no_code h x y v w = absurd h

module _ (z : Sizes) (e : Event) (m : Message) (q : Proposer) (t : Taken arm.Proposer z e m) (code : Code) (h : code ≡ code_of e.code) where
  pub acts : given (test_no z e.a e.b m q true true code) (of_proposer (change_of z e.a e.b m q fresh_acceptor code)) ≡ by_proposer (decided_in arm.Proposer z e m q fresh_acceptor)
  acts = sym (ap by_proposer (by-code arm.Proposer z e m q fresh_acceptor t code h))

  pub acts-crash : (code ≡ receive → ⊥) → (code ≡ propose → ⊥) → (code ≡ refine → ⊥) → (code ≡ decide → ⊥)
      → given (party_no (ltb e.b z.proposers) q.alive) (unchanged_one (crashed_proposer q)) ≡ by_proposer (decided_in arm.Proposer z e m q fresh_acceptor)
  acts-crash x y v w = acting-crash z e.a e.b m q fresh_acceptor code (own arm.Proposer z e m q fresh_acceptor t code h) x y v w ∙ acts

-- an acceptor

not-deliver : (code : Code) → (code ≡ deliver → ⊥) → is_deliver code ≡ false
not-deliver receive h = refl
not-deliver deliver h = absurd (h refl)
not-deliver drop h = refl
not-deliver duplicate h = refl
not-deliver propose h = refl
not-deliver refine h = refl
not-deliver decide h = refl
not-deliver crash h = refl
not-deliver no_code h = refl

module _ (z : Sizes) (e : Event) (m : Message) (c : Acceptor) (t : Taken arm.Acceptor z e m) (code : Code) (h : code ≡ code_of e.code) where
  answers : (s : Bool) → is_deliver code ≡ s
      → given (if s then delivered_no z e m c.alive else party_no (ltb e.b z.acceptors) c.alive) (of_acceptor (if s then answering_of z m fresh_proposer c else unchanged fresh_proposer (crashed_acceptor c))) ≡ by_acceptor (decided_in arm.Acceptor z e m fresh_proposer c)
  answers s p =
      let g = own arm.Acceptor z e m fresh_proposer c t code h in
      sym (
      ap by_acceptor (by-code arm.Acceptor z e m fresh_proposer c t code h)
      ∙ (λ i. given (answer-test z e.a e.b m fresh_proposer c true code g i) (of_acceptor (answer-change z e.a e.b m fresh_proposer c true code g i)))
      ∙ ap (λ (s : Bool). given (if s then delivered_no z e m c.alive else party_no (ltb e.b z.acceptors) c.alive) (of_acceptor (if s then answering_of z m fresh_proposer c else unchanged fresh_proposer (crashed_acceptor c)))) p
      )

  pub answers-delivery : code ≡ deliver → given (delivered_no z e m c.alive) (of_acceptor (answering_of z m fresh_proposer c)) ≡ by_acceptor (decided_in arm.Acceptor z e m fresh_proposer c)
  answers-delivery p = answers true (ap is_deliver p)

  pub answers-crash : (code ≡ deliver → ⊥) → given (party_no (ltb e.b z.acceptors) c.alive) (unchanged_one (crashed_acceptor c)) ≡ by_acceptor (decided_in arm.Acceptor z e m fresh_proposer c)
  answers-crash p = answers false (not-deliver code p)

-- the table alone

table-kind : (z : Sizes) (e : Event) (m : Message) (q : Proposer) (c : Acceptor) (k : Kind) → Holds (is_arm arm.Table (arm_of_kind k))
    → given (delivered_no z e m true) (of_table (unchanged q c)) ≡ given (refusal (slot_no z e.a e.b m) ⨾ 5 unless alive_in (addressed k) q.alive c.alive true ⨾ ok) (of_table (delivering_of z m q c k))
unfolding delivering_of
table-kind z e m q c free h = refl
table-kind z e m q c internal h = absurd h
table-kind z e m q c proposal h = absurd h
table-kind z e m q c acknowledgement h = absurd h
table-kind z e m q c rejection h = absurd h
table-kind z e m q c announcement h = absurd h
table-kind z e m q c no_kind h = refl

table-role : (z : Sizes) (b : ℕ) (q : Proposer) (c : Acceptor) (r : Role) → Holds (is_arm arm.Table (arm_of_role r))
    → Err 3 ≡ given (party_no (exists z r b) (alive_in r q.alive c.alive true)) (of_table (crashing_of q c r))
table-role z b q c a_proposer h = absurd h
table-role z b q c an_acceptor h = absurd h
table-role z b q c a_learner h = absurd h
table-role z b q c no_role h = refl

table-none : (z : Sizes) (a b : ℕ) (m : Message) (q : Proposer) (c : Acceptor) (code : Code) → Holds (is_arm arm.Table (arm_at a m code))
    → (code ≡ deliver → ⊥) → (code ≡ drop → ⊥) → (code ≡ duplicate → ⊥) → (code ≡ crash → ⊥)
    → Err 2 ≡ given (test_no z a b m q c.alive true code) (of_table (change_of z a b m q c code))
unfolding test_no arm_at
table-none z a b m q c receive h x y v w = absurd h
table-none z a b m q c deliver h x y v w = absurd (x refl)
table-none z a b m q c drop h x y v w = absurd (y refl)
table-none z a b m q c duplicate h x y v w = absurd (v refl)
table-none z a b m q c propose h x y v w = absurd h
table-none z a b m q c refine h x y v w = absurd h
table-none z a b m q c decide h x y v w = absurd h
table-none z a b m q c crash h x y v w = absurd (w refl)
table-none z a b m q c no_code h x y v w = refl

module _ (z : Sizes) (e : Event) (m : Message) (t : Taken arm.Table z e m) (code : Code) (h : code ≡ code_of e.code) where
  pub keeps : given (test_no z e.a e.b m fresh_proposer true true code) (of_table (change_of z e.a e.b m fresh_proposer fresh_acceptor code)) ≡ by_table (decided_in arm.Table z e m fresh_proposer fresh_acceptor)
  keeps = sym (ap by_table (by-code arm.Table z e m fresh_proposer fresh_acceptor t code h))

  keeps-own : Holds (is_arm arm.Table (arm_at e.a m code))
  keeps-own = own arm.Table z e m fresh_proposer fresh_acceptor t code h

  pub keeps-none : (code ≡ deliver → ⊥) → (code ≡ drop → ⊥) → (code ≡ duplicate → ⊥) → (code ≡ crash → ⊥) → Err 2 ≡ by_table (decided_in arm.Table z e m fresh_proposer fresh_acceptor)
  keeps-none x y v w = table-none z e.a e.b m fresh_proposer fresh_acceptor code keeps-own x y v w ∙ keeps

module _ (z : Sizes) (e : Event) (m : Message) (t : Taken arm.Table z e m) where
  pub keeps-delivery : deliver ≡ code_of e.code → given (delivered_no z e m true) (of_table (unchanged fresh_proposer fresh_acceptor)) ≡ by_table (decided_in arm.Table z e m fresh_proposer fresh_acceptor)
  unfolding test_no change_of arm_at
  keeps-delivery h = table-kind z e m fresh_proposer fresh_acceptor (kind_of m.kind) (keeps-own z e m t deliver h) ∙ keeps z e m t deliver h

  pub keeps-crash : crash ≡ code_of e.code → Err 3 ≡ by_table (decided_in arm.Table z e m fresh_proposer fresh_acceptor)
  unfolding test_no change_of arm_at
  keeps-crash h = table-role z e.b fresh_proposer fresh_acceptor (role_of e.a) (keeps-own z e m t crash h) ∙ keeps z e m t crash h
