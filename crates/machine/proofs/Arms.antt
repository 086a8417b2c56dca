-- What the arms of a step rely on: what they decide can be sent, and a proposer that is told asks for no room and sends nothing.
-- Assumes nothing.
use mathlib.Core.Path.{◌≡◌, refl, sym, ◌∙◌, ap, subst}
use mathlib.Core.Bool.{Bool, true, false, not}
use mathlib.Core.List.{List, []}
use Prim.Native.Nat.{ℕ, ◌-◌, ◌<◌, ◌≤◌}
use native.Mathlib.Nat.{not-suc-le-zero}
use native.Mathlib.Omega.{arith}
use lib.Dec.{T as Holds, eqb}
use lib.ListN.{length, get_or, set}
use borrow.Author.Tests.{eq-eqb, ne_eqb, eqb-true, eqb-false}
use Rattle.std.specs.Prelude.{if◌then◌else◌, Result, Ok, Err}
use Rattle.std.proofs.lemmas.Result.{IfOk-at_ok, IfErr-at_err}
use Rattle.sizes.specs.declared.Sizes.{Sizes}
use Rattle.model.specs.Records.{fresh_proposer, fresh_acceptor, fresh_learner, free_slot}
use Rattle.model.specs.Table.{post, free_slots}
use Rattle.model.specs.Events.{code_of}
use Rattle.model.specs.declared.Proposer.{Proposer}
use Rattle.model.specs.declared.Acceptor.{Acceptor}
use Rattle.model.specs.declared.Learner.{Learner}
use Rattle.model.specs.declared.Message.{Message}
use Rattle.model.specs.declared.Event.{Event}
use Rattle.model.specs.declared.Answer.{Answer}
use Rattle.model.specs.declared.Answer.TheVariants.{Done}
use Rattle.model.specs.Step.{Answered}
use Rattle.decisions.specs.declared.decide.Change.{Change}
use Rattle.decisions.specs.Sending.{silence, count_of, items_of, lacking}
use Rattle.decisions.specs.Change.{Changes, freed, change_of, learner_after, slot_after}
use Rattle.decisions.specs.Arms.{arm_of, is_arm, Decision, given, need_of, decide_of, refused_of, finish_of, done_answer, plain_answer}
use Rattle.decisions.specs.declared.arms.Arm.TheVariants as arm
use Rattle.decisions.proofs.Items.{items-silence}
use Rattle.decisions.proofs.Deciding.{told-change, needs-none, says-as, says-done, given-ok, given-err}
use Rattle.machine.specs.Slots.{Ready}
use Rattle.machine.specs.Stepping.{index_in, party_of, reply_of, Left}
use Rattle.machine.specs.Roles.{proposer_at, acceptor_at, learner_at, decision_at, finished_at, step_at}
use Rattle.machine.proofs.Readiness.{same, ready-after}
use Rattle.machine.proofs.Roles.{not-of, quiet-finished, leaves}

-- what is decided can be sent
pub ready_at : (z : Sizes) (e : Event) (k : ℕ) (m : Message) (ps : List Proposer) (acs : List Acceptor) (ls : List Learner) (t : List Message) → k < length t → m ≡ get_or t k free_slot
    → Ready (finished_at z e k m ps acs ls t).change.send (set t k (slot_after (finished_at z e k m ps acs ls t).change.frees m))
ready_at z e k m ps acs ls t i same =
    subst (λ (x : Message). Ready (finished_at z e k x ps acs ls t).change.send (set t k (slot_after (finished_at z e k x ps acs ls t).change.frees x))) (sym same)
    (ready-after z e t k (proposer_at z e k (get_or t k free_slot) ps acs ls t) (acceptor_at z e k (get_or t k free_slot) ps acs ls t) (learner_at z e k (get_or t k free_slot) ps acs ls t) i)

-- what is answered where no learner hears
pub said-as : (z : Sizes) (e : Event) (f : Decision) (m : Message) (l : Learner) → f.change.hears ≡ false → plain_answer e f ≡ reply_of z e f m l
unfolding plain_answer reply_of
said-as z e f m l h = ap (λ (w : Answer). given f.no w) (says-as z f.change.hears f.change.proposer.decided e.a m l e.code h)

-- the answer of what is done
done-as : (e : Event) (f : Decision) (w : Answer) → w ≡ done_answer e f.change.proposer.decided → f.no ≡ 0 → Ok w ≡ plain_answer e f
unfolding plain_answer
done-as e f w p o = ap Ok p ∙ ap (λ (n : ℕ). given n (done_answer e f.change.proposer.decided)) (sym o)

-- ---- what a decision is finished to

-- what is lacking refuses it
finish-done : (d : Decision) (n : ℕ) (q : Proposer) (c : Acceptor) → d.no ≡ 0 → n ≡ 0 → finish_of d n q c ≡ d
unfolding finish_of
finish-done d n q c o h = rw (eq-eqb d.no 0 o, eq-eqb n 0 h) refl

finish-lacking : (d : Decision) (n : ℕ) (q : Proposer) (c : Acceptor) → d.no ≡ 0 → (n ≡ 0 → ⊥) → finish_of d n q c ≡ refused_of 8 q c
unfolding finish_of
finish-lacking d n q c o h = rw (eq-eqb d.no 0 o, ne_eqb n 0 h) refl

finish-refused : (d : Decision) (n : ℕ) (q : Proposer) (c : Acceptor) → (d.no ≡ 0 → ⊥) → finish_of d n q c ≡ refused_of d.no q c
unfolding finish_of
finish-refused d n q c o = rw (ne_eqb d.no 0 o) refl

-- a change that is given is the decision's
abbrev pub of_change : {P : Type 0} → P → Changes → Change P
of_change p d = record { party = p; frees = d.frees; send = d.send }

eight-not-zero : ◌≡◌ {A = ℕ} 8 0 → ⊥
eight-not-zero e = let bad : 8 ≤ 0 = omega (arith, e) in not-suc-le-zero bad

finished-ok : {B : Type 0} (x y : B) (n : ℕ) (b : Bool) → eqb n 0 ≡ b → ◌≡◌ {A = Result B ℕ} (Ok y) (if b then Ok x else Err 8) → (n ≡ 0) × (y ≡ x)
finished-ok {B} x y n true p e = (eqb-true n 0 p, IfOk-at_ok (λ (z : B). y ≡ z) e refl)
finished-ok x y n false p e = absurd (IfErr-at_err (λ (k : ℕ). ⊥) e tt)

finished-err : {B : Type 0} (x : B) (k n : ℕ) (b : Bool) → eqb n 0 ≡ b → ◌≡◌ {A = Result B ℕ} (Err k) (if b then Ok x else Err 8) → (n ≡ 0 → ⊥) × (k ≡ 8)
finished-err {B} x k n true p e = absurd (IfOk-at_ok (λ (z : B). ⊥) e tt)
finished-err x k n false p e = (eqb-false n 0 p, IfErr-at_err (λ (z : ℕ). k ≡ z) e refl)

-- ---- an arm that decides, finishes and writes back: where it finishes as the step does, what it leaves is the step's

module _ (z : Sizes) (e : Event) (k : ℕ) (m : Message) (ps : List Proposer) (acs : List Acceptor) (ls : List Learner) (t : List Message) where
  abbrev q₀ : Proposer
  q₀ = proposer_at z e k m ps acs ls t

  abbrev c₀ : Acceptor
  c₀ = acceptor_at z e k m ps acs ls t

  abbrev l₀ : Learner
  l₀ = learner_at z e k m ps acs ls t

  abbrev d₀ : Decision
  d₀ = decision_at z e k m ps acs ls t

  abbrev f₀ : Decision
  f₀ = finished_at z e k m ps acs ls t

  -- what a step leaves where it finishes so
  abbrev left_by : Decision → Left
  left_by f = record {
    answer = reply_of z e f m l₀;
    proposers = set ps (index_in (party_of e m) z.proposers) f.change.proposer;
    acceptors = set acs (index_in (party_of e m) z.acceptors) f.change.acceptor;
    learners = set ls (index_in (party_of e m) z.learners) (learner_after z f.change.hears f.change.stops m l₀);
    slots = post (items_of f.change.send) (set t k (slot_after f.change.frees m));
  }

  -- it asks for the room of its change
  needed : {P : Type 0} (p : P) (x : Change P) → d₀.no ≡ 0 → x ≡ of_change p d₀.change → need_of 0 x.frees (count_of x.send) ≡ d₀.need
  unfolding decide_of
  needed p x o e = λ i. need_of (sym o i) (e i).frees (count_of (e i).send)

  -- a refusal leaves all as it was
  module _ (same-slot : m ≡ get_or t k free_slot) where
    slots-stay : post (items_of silence) (set t k m) ≡ t
    unfolding post
    slots-stay = ap (λ (ms : List Message). post ms (set t k m)) items-silence ∙ ap (set t k) same-slot ∙ same free_slot t k

    refused-leaves : (n : ℕ) → (n ≡ 0 → ⊥) → leaves (Err n) ps acs ls t ≡ left_by (refused_of n q₀ c₀)
    unfolding reply_of learner_after slot_after
    refused-leaves n o =
        let w : ◌≡◌ {A = Answered} (Err n) (reply_of z e (refused_of n q₀ c₀) m l₀) = rw (ne_eqb n 0 o) refl in
        λ i. leaves (w i) (sym (same fresh_proposer ps (index_in (party_of e m) z.proposers)) i) (sym (same fresh_acceptor acs (index_in (party_of e m) z.acceptors)) i)
        (sym (same fresh_learner ls (index_in (party_of e m) z.learners)) i) (sym slots-stay i)

    pub refuses : (n : ℕ) → (n ≡ 0 → ⊥) → f₀ ≡ refused_of n q₀ c₀ → leaves (Err n) ps acs ls t ≡ step_at z e k m ps acs ls t
    refuses n o p = refused-leaves n o ∙ ap left_by (sym p)

    -- what is decided refuses the event
    pub not-decided : {B : Type 0} (x : B) {n : ℕ} → Err n ≡ given d₀.no x → leaves (Err n) ps acs ls t ≡ step_at z e k m ps acs ls t
    not-decided x {n = n} h =
        let g = given-err d₀.no x n h in
        ap (λ (n : ℕ). leaves (Err n) ps acs ls t) g.0 ∙ refuses d₀.no g.1 (finish-refused d₀ (lacking d₀.need t) q₀ c₀ g.1)

    -- and slots that are lacking do
    pub not-finished : {P : Type 0} (p : P) {x : Change P} {n left r : ℕ} → Ok x ≡ given d₀.no (of_change p d₀.change) → n ≡ need_of 0 x.frees (count_of x.send) → left ≡ lacking n t → Err r ≡ (if eqb left 0 then Ok x else Err 8)
        → leaves (Err r) ps acs ls t ≡ step_at z e k m ps acs ls t
    not-finished p {x = x} {left = left} {r = r} h en el hf =
        let g = given-ok d₀.no (of_change p d₀.change) x h in
        let b = finished-err x r left (eqb left 0) refl hf in
        let l = el ∙ ap (λ (n : ℕ). lacking n t) (en ∙ needed p x g.0 g.1) in
        ap (λ (n : ℕ). leaves (Err n) ps acs ls t) b.1 ∙ refuses 8 eight-not-zero (finish-lacking d₀ (lacking d₀.need t) q₀ c₀ g.0 (λ o. b.0 (l ∙ o)))

  -- what is done is what is decided
  pub went : {P : Type 0} (p : P) {x y : Change P} {n left : ℕ} → Ok x ≡ given d₀.no (of_change p d₀.change) → n ≡ need_of 0 x.frees (count_of x.send) → left ≡ lacking n t → ◌≡◌ {A = Result (Change P) ℕ} (Ok y) (if eqb left 0 then Ok x else Err 8)
      → (f₀ ≡ d₀) × ((y ≡ of_change p d₀.change) × (d₀.no ≡ 0))
  went p {x = x} {y = y} {left = left} h en el hf =
      let g = given-ok d₀.no (of_change p d₀.change) x h in
      let b = finished-ok x y left (eqb left 0) refl hf in
      let l = el ∙ ap (λ (n : ℕ). lacking n t) (en ∙ needed p x g.0 g.1) in
      (finish-done d₀ (lacking d₀.need t) q₀ c₀ g.0 (sym l ∙ b.0), (b.1 ∙ g.1, g.0))

  module _ {P : Type 0} (p : P) {y : Change P} (w : (f₀ ≡ d₀) × ((y ≡ of_change p d₀.change) × (d₀.no ≡ 0))) where
    pub can-send : k < length t → m ≡ get_or t k free_slot → Ready y.send (set t k (slot_after y.frees m))
    can-send i same =
        subst (λ (x : Change P). Ready x.send (set t k (slot_after x.frees m))) (sym w.1.0)
        (subst (λ (f : Decision). Ready f.change.send (set t k (slot_after f.change.frees m))) w.0 (ready_at z e k m ps acs ls t i same))

    pub slots-written : post (items_of y.send) (set t k (slot_after y.frees m)) ≡ (step_at z e k m ps acs ls t).slots
    slots-written =
        ap (λ (x : Change P). post (items_of x.send) (set t k (slot_after x.frees m))) w.1.0
        ∙ ap (λ (f : Decision). post (items_of f.change.send) (set t k (slot_after f.change.frees m))) (sym w.0)

    -- the record of the party
    pub record-written : (of : Changes → P) → p ≡ of d₀.change → y.party ≡ of f₀.change
    record-written of e = ap (λ (x : Change P). x.party) w.1.0 ∙ e ∙ ap (λ (f : Decision). of f.change) (sym w.0)

    -- in any arm but a learner's
    pub answered : {v : Answer} → v ≡ done_answer e d₀.change.proposer.decided → Holds (not (is_arm arm.Learner (arm_of e m))) → Ok v ≡ (step_at z e k m ps acs ls t).answer
    answered {v = v} p h =
        done-as e d₀ v p w.1.1
        ∙ ap (plain_answer e) (sym w.0)
        ∙ said-as z e f₀ m l₀ (quiet-finished z e k m ps acs ls t h).0

    -- and in any but an acting proposer's
    pub answered-done : Holds (not (is_arm arm.Learner (arm_of e m))) → Holds (not (is_arm arm.Proposer (arm_of e m))) → Ok Done ≡ (step_at z e k m ps acs ls t).answer
    answered-done h g = answered (sym (says-done e m d₀.change.proposer.decided g)) h

-- ---- a proposer that is told

abbrev Frees : Changes → Type 0
Frees d = (d.frees ≡ true) × (d.send ≡ silence)

sends_none : {d : Changes} {q : Proposer} {c : Acceptor} → d ≡ freed q c → Frees d
sends_none p = (ap (λ (d : Changes). d.frees) p, ap (λ (d : Changes). d.send) p)

lacks-none : (n f : ℕ) → n ≡ 0 → n - f ≡ 0
lacks-none n f e = omega arith

silent-by : (a b : Bool) (d : Decision) (q : Proposer) (c : Acceptor) → d.change.send ≡ silence → (if a then (if b then d else refused_of 8 q c) else refused_of d.no q c).change.send ≡ silence
silent-by true true d q c e = e
silent-by true false d q c e = refl
silent-by false b d q c e = refl

module _ (z : Sizes) (e : Event) (k : ℕ) (m : Message) (ps : List Proposer) (t : List Message) (h : Holds (is_arm arm.Told (arm_of e m))) where
  abbrev q : Proposer
  q = proposer_at z e k m ps [] [] t

  abbrev d : Decision
  d = decide_of z e m q fresh_acceptor fresh_learner

  abbrev f : Decision
  f = finish_of d 0 q fresh_acceptor

  none : lacking d.need t ≡ 0
  unfolding decide_of
  none = lacks-none d.need (free_slots t) (needs-none d.no (count_of d.change.send) d.change.frees told.0 (ap count_of told.1))
    where
      told : Frees (change_of z e.a e.b m q fresh_acceptor (code_of e.code))
      told = sends_none (told-change z e m q fresh_acceptor (code_of e.code) h)

  as-finished : f ≡ finished_at z e k m ps [] [] t
  as-finished = ap (λ (n : ℕ). finish_of d n q fresh_acceptor) (sym none)

  silent : f.change.send ≡ silence
  unfolding finish_of decide_of
  silent = silent-by (eqb d.no 0) true d q fresh_acceptor (sends_none (told-change z e m q fresh_acceptor (code_of e.code) h)).1

  pub told-says : reply_of z e f m fresh_learner ≡ (step_at z e k m ps [] [] t).answer
  told-says = ap (λ (g : Decision). reply_of z e g m fresh_learner) as-finished

  pub told-left : set ps (index_in (party_of e m) z.proposers) f.change.proposer ≡ (step_at z e k m ps [] [] t).proposers
  told-left = ap (λ (g : Decision). set ps (index_in (party_of e m) z.proposers) g.change.proposer) as-finished

  pub told-slots : set t k (slot_after f.change.frees m) ≡ (step_at z e k m ps [] [] t).slots
  unfolding post
  told-slots =
      ap (λ (ms : List Message). post ms (set t k (slot_after f.change.frees m))) (sym (ap items_of silent ∙ items-silence))
      ∙ ap (λ (g : Decision). post (items_of g.change.send) (set t k (slot_after g.change.frees m))) as-finished

  pub told-quiet : f.change.hears ≡ false
  told-quiet = ap (λ (g : Decision). g.change.hears) as-finished ∙ (quiet-finished z e k m ps [] [] t (not-of arm.Told arm.Learner (arm_of e m) h tt)).0

  -- where it is refused
  ends-refused : (a b : Bool) (d : Decision) (q : Proposer) (c : Acceptor) → ((if a then (if b then d else refused_of 8 q c) else refused_of d.no q c).no ≡ 0 → ⊥) → eqb d.no 0 ≡ a
      → (if a then (if b then d else refused_of 8 q c) else refused_of d.no q c) ≡ refused_of (if a then (if b then d else refused_of 8 q c) else refused_of d.no q c).no q c
  ends-refused true true d q c o e = absurd (o (eqb-true d.no 0 e))
  ends-refused true false d q c o e = refl
  ends-refused false b d q c o e = refl

  pub told-refused : {B : Type 0} (x : B) {n : ℕ} → m ≡ get_or t k free_slot → Err n ≡ given f.no x → leaves (Err n) ps [] [] t ≡ step_at z e k m ps [] [] t
  unfolding finish_of
  told-refused x {n = n} s r =
      let g = given-err f.no x n r in
      ap (λ (n : ℕ). leaves (Err n) ps [] [] t) g.0
      ∙ refuses z e k m ps [] [] t s f.no g.1 (sym as-finished ∙ ends-refused (eqb d.no 0) true d q fresh_acceptor g.1 refl)

  pub told-done : f.no ≡ 0 → Ok Done ≡ (step_at z e k m ps [] [] t).answer
  told-done o =
      done-as e f Done (sym (says-done e m f.change.proposer.decided (not-of arm.Told arm.Proposer (arm_of e m) h tt))) o
      ∙ said-as z e f m fresh_learner told-quiet
      ∙ told-says
