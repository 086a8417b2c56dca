-- A step says `Learnt` exactly when it changes what a learner has learnt. Assumes nothing.
use mathlib.Core.Path.{◌≡◌, refl, sym, ap, subst, ◌∙◌}
use mathlib.Core.Logic.{◌⊎◌, inl, inr}
use mathlib.Core.Bool.{Bool, true, false}
use Prim.Native.Nat.{ℕ, zero, suc}
use lib.Dec.{eqb}
use lib.Seq.{get_or-set_other}
use borrow.Author.Tests.{eqb-true, eqb-false}
use Rattle.std.specs.Prelude.{if◌then◌else◌, Ok, Err}
use Rattle.choice.proofs.Tests.{if-ind, and_r}
use Rattle.sizes.specs.declared.Sizes.{Sizes}
use Rattle.sets.specs.declared.scans.Scans.{Scans}
use Rattle.sets.specs.Scans.{◌⊆◌}
use Rattle.sets.proofs.ScanLaws.{strictly-true, ⊆-refl}
use Rattle.model.specs.Records.{State, kind_of, role_of, fresh_learner, proposer_of, acceptor_of, learner_of, slot_of, put_learner, freeing}
use Rattle.model.specs.declared.Kind.{Kind}
use Rattle.model.specs.declared.Kind.TheVariants.{Free as free, Internal as internal, Proposal as proposal, Acknowledgement as acknowledgement, Rejection as rejection, Announcement as announcement, NoKind as no_kind}
use Rattle.model.specs.declared.Role.{Role}
use Rattle.model.specs.declared.Role.TheVariants.{Proposer as a_proposer, Acceptor as an_acceptor, Learner as a_learner, NoRole as no_role}
use Rattle.model.specs.Rules.{is_current, accepts, learns, newly_heard, listening, crashed_learner}
use Rattle.model.specs.Events.{code_of, Effect, effect, delivery, proposes, crashed}
use Rattle.model.specs.declared.Code.{Code}
use Rattle.model.specs.declared.Code.TheVariants.{Receive as receive, Deliver as deliver, Drop as drop, Duplicate as duplicate, Propose as propose, Refine as refine, Decide as decide, Crash as crash, NoCode as no_code}
use Rattle.model.specs.Step.{Answered, stepped, step_no, step, sent}
use Rattle.model.specs.declared.Learner.{Learner}
use Rattle.model.specs.declared.Message.{Message}
use Rattle.model.specs.declared.Event.{Event}
use Rattle.model.specs.declared.Answer.{Answer}
use Rattle.model.specs.declared.Answer.TheVariants.{Done, Learnt, Decided}
use Rattle.model.proofs.Lists.{set-rel}
use Rattle.model.proofs.RuleLaws.{listening-learnt}
use Rattle.model.proofs.Steps.{does}
use Rattle.model.proofs.Answers.{learnt-left}
use Rattle.tight.specs.Learning.{TellsLearnt}

-- ---- a learner's set stays, or it is said

abbrev StaysOrSaid : State → ℕ → State → Answered → Type 0
StaysOrSaid s l t w = ((learner_of t l).learnt ≡ (learner_of s l).learnt) ⊎ ((v : Scans) × (w ≡ Ok (Learnt (record { 0 = l }) v)))

-- where a learner's new record has learnt the same
same-put : (s : State) (i : ℕ) (x : Learner) → (learner_of s i).learnt ≡ x.learnt → (l : ℕ) → (learner_of (put_learner s i x) l).learnt ≡ (learner_of s l).learnt
same-put s i x h l = sym (set-rel (λ (y w : Learner). y.learnt ≡ w.learnt) (λ _. refl) fresh_learner s.learners i x h l)

module _ (a : ℕ) (s : State) (m : Message) (l : ℕ) where
  abbrev heard_by : Learner
  heard_by = listening a (learner_of s m.addressee) m

  announced : (b : Bool) → learns a (learner_of s m.addressee) m ≡ b
      → StaysOrSaid s l (put_learner s m.addressee heard_by) (Ok (if b then Learnt (record { 0 = m.addressee }) heard_by.learnt else Done))
  announced false h = inl (same-put s m.addressee heard_by (sym (listening-learnt a (learner_of s m.addressee) m ∙ rw h)) l)
  announced true h = by (eqb l m.addressee) refl
    where
      by : (b : Bool) → eqb l m.addressee ≡ b → StaysOrSaid s l (put_learner s m.addressee heard_by) (Ok (Learnt (record { 0 = m.addressee }) heard_by.learnt))
      by true e = inr (heard_by.learnt, ap (λ (k : ℕ). Ok (Learnt (record { 0 = k }) heard_by.learnt)) (sym (eqb-true l m.addressee e)))
      by false e = inl (ap (λ (y : Learner). y.learnt) (get_or-set_other s.learners m.addressee l heard_by fresh_learner (eqb-false l m.addressee e)))

module _ (z : Sizes) (s : State) (l : ℕ) where
  delivered : (m : Message) (k : Kind) → StaysOrSaid s l (sent (delivery z s m k)) (Ok (delivery z s m k).answer)
  unfolding delivery
  delivered m free = inl refl
  delivered m internal = inl refl
  delivered m proposal = if-ind (λ (x : Effect). StaysOrSaid s l (sent x) (Ok x.answer)) (accepts (acceptor_of s m.addressee) m.set) _ _ (λ _. inl refl) (λ _. inl refl)
  delivered m acknowledgement = if-ind (λ (x : Effect). StaysOrSaid s l (sent x) (Ok x.answer)) (is_current (proposer_of s m.addressee) m.number) _ _ (λ _. inl refl) (λ _. inl refl)
  delivered m rejection = if-ind (λ (x : Effect). StaysOrSaid s l (sent x) (Ok x.answer)) (is_current (proposer_of s m.addressee) m.number) _ _ (λ _. inl refl) (λ _. inl refl)
  delivered m announcement = announced z.acceptors s m l (learns z.acceptors (learner_of s m.addressee) m) refl
  delivered m no_kind = inl refl

module _ (z : Sizes) (s : State) (l : ℕ) where
  crash-stays : (r : Role) (i : ℕ) → (learner_of (crashed s r i) l).learnt ≡ (learner_of s l).learnt
  unfolding crashed crashed_learner
  crash-stays a_proposer i = refl
  crash-stays an_acceptor i = refl
  crash-stays a_learner i = same-put s i (crashed_learner (learner_of s i)) refl l
  crash-stays no_role i = refl

  effect-stays : (c : Code) (a b : ℕ) → StaysOrSaid s l (sent (effect z s c a b)) (Ok (effect z s c a b).answer)
  unfolding effect proposes
  effect-stays receive a b = inl refl
  effect-stays deliver a b = delivered z (freeing s a) l (slot_of s a) (kind_of (slot_of s a).kind)
  effect-stays drop a b = inl refl
  effect-stays duplicate a b = inl refl
  effect-stays propose a b = inl refl
  effect-stays refine a b = inl refl
  effect-stays decide a b = inl refl
  effect-stays crash a b = inl (crash-stays (role_of a) b)
  effect-stays no_code a b = inl refl

stepped-stays : (s : State) (l : ℕ) (x : Effect) (n : ℕ) → StaysOrSaid s l (sent x) (Ok x.answer) → StaysOrSaid s l (stepped n s x).state (stepped n s x).answer
unfolding stepped
stepped-stays s l x zero h = h
stepped-stays s l x (suc n) h = inl refl

step_stays : (z : Sizes) (s : State) (e : Event) (l : ℕ) → StaysOrSaid s l (step z s e).state (step z s e).answer
unfolding step
step_stays z s e l = stepped-stays s l (does z s e) (step_no z s e) (effect-stays z s l (code_of e.code) e.a e.b)

-- ---- what is said to be learnt had not been learnt before

NewIn : State → Answered → Type 0
NewIn s (Ok Done) = Unit {0}
NewIn s (Ok (Learnt l v)) = (learner_of s l.0).learnt ≡ v → ⊥
NewIn s (Ok (Decided p v)) = Unit {0}
NewIn s (Err n) = Unit {0}

learns-strictly : (a : ℕ) (l : Learner) (m : Message) → learns a l m ≡ true → (l.learnt ⊆ (newly_heard l m).set) × ((newly_heard l m).set ⊆ l.learnt → ⊥)
unfolding learns
learns-strictly a l m h = search (strictly-true, and_r)

-- a learner that learns had less
learns-more : (a : ℕ) (l : Learner) (m : Message) → learns a l m ≡ true → l.learnt ≡ (listening a l m).learnt → ⊥
learns-more a l m h e =
    let v : (listening a l m).learnt ≡ (newly_heard l m).set = listening-learnt a l m ∙ rw h in
    (learns-strictly a l m h).1 (subst (λ (u : Scans). u ⊆ l.learnt) (e ∙ v) (⊆-refl l.learnt))

module _ (z : Sizes) (s : State) where
  delivered-new : (m : Message) (k : Kind) → NewIn s (Ok (delivery z s m k).answer)
  unfolding delivery NewIn
  delivered-new m free = tt
  delivered-new m internal = tt
  delivered-new m proposal = if-ind (λ (x : Effect). NewIn s (Ok x.answer)) (accepts (acceptor_of s m.addressee) m.set) _ _ (λ _. tt) (λ _. tt)
  delivered-new m acknowledgement = if-ind (λ (x : Effect). NewIn s (Ok x.answer)) (is_current (proposer_of s m.addressee) m.number) _ _ (λ _. tt) (λ _. tt)
  delivered-new m rejection = if-ind (λ (x : Effect). NewIn s (Ok x.answer)) (is_current (proposer_of s m.addressee) m.number) _ _ (λ _. tt) (λ _. tt)
  delivered-new m announcement = if-ind (λ (w : Answer). NewIn s (Ok w)) (learns z.acceptors (learner_of s m.addressee) m) _ Done (λ h. learns-more z.acceptors (learner_of s m.addressee) m h) (λ _. tt)
  delivered-new m no_kind = tt

module _ (z : Sizes) (s : State) where
  effect-new : (c : Code) (a b : ℕ) → NewIn s (Ok (effect z s c a b).answer)
  unfolding effect proposes NewIn
  effect-new receive a b = tt
  effect-new deliver a b = freed (delivery z (freeing s a) (slot_of s a) (kind_of (slot_of s a).kind)).answer (delivered-new z (freeing s a) (slot_of s a) (kind_of (slot_of s a).kind))
    where
      freed : (w : Answer) → NewIn (freeing s a) (Ok w) → NewIn s (Ok w)
      freed Done h = tt
      freed (Learnt l v) h = h
      freed (Decided p v) h = tt
  effect-new drop a b = tt
  effect-new duplicate a b = tt
  effect-new propose a b = tt
  effect-new refine a b = tt
  effect-new decide a b = tt
  effect-new crash a b = tt
  effect-new no_code a b = tt

stepped-new : (s : State) (x : Effect) (n : ℕ) → NewIn s (Ok x.answer) → NewIn s (stepped n s x).answer
unfolding stepped NewIn
stepped-new s x zero h = h
stepped-new s x (suc n) h = tt

step-new : (z : Sizes) (s : State) (e : Event) → NewIn s (step z s e).answer
unfolding step
step-new z s e = stepped-new s (does z s e) (step_no z s e) (effect-new z s (code_of e.code) e.a e.b)

-- ---- together

-- a refusal is not said to be learnt
NotRefused : Answered → Type 0
NotRefused (Ok w) = Unit {0}
NotRefused (Err n) = ⊥

stepped-accepted : (s : State) (x : Effect) (n : ℕ) → NotRefused (stepped n s x).answer → n ≡ 0
unfolding stepped NotRefused
stepped-accepted s x zero h = refl
stepped-accepted s x (suc n) h = absurd h

learner_in : Answered → ℕ
learner_in (Ok Done) = 0
learner_in (Ok (Learnt l v)) = l.0
learner_in (Ok (Decided p v)) = 0
learner_in (Err n) = 0

pub tells-learnt : (z : Sizes) (s : State) (e : Event) → TellsLearnt z s e
unfolding step NotRefused NewIn learner_in
tells-learnt z s e = record {
  accepted = λ l v h. stepped-accepted s (does z s e) (step_no z s e) (subst NotRefused (sym h) tt);
  now = λ l v h. learnt-left z s e l v h;
  new = λ l v h. subst (NewIn s) h (step-new z s e);
  others = λ l v h k n. elim (step_stays z s e k) [
    | inl q ↦ q
    | inr q ↦ absurd (n (ap learner_in (sym q.1 ∙ h)))
  ];
  said = λ l n. elim (step_stays z s e l.0) [
    | inl q ↦ absurd (n q)
    | inr q ↦ q.1 ∙ ap (λ (u : Scans). Ok (Learnt l u)) (sym (learnt-left z s e l q.0 q.1))
  ];
}
