-- What a step answers is so: a refusal has a listed number, and the set that it says is learnt or decided is what its party then holds.
use mathlib.Core.Path.{◌≡◌, refl, sym, ap, subst}
use mathlib.Core.Bool.{true}
use mathlib.Core.List.{List, [], ◌∷◌}
use Prim.Native.Nat.{ℕ, zero, suc, ◌≤◌, ◌<◌}
use native.Mathlib.Nat.{not-suc-le-zero, le_of_suc-le-suc}
use native.Mathlib.Omega.{arith}
use lib.ListN.{length, get_or, set, take}
use borrow.Author.Tests.{ltb-true}
use Rattle.std.specs.Prelude.{Ok, Err}
use Rattle.sizes.specs.declared.Sizes.{Sizes}
use Rattle.sets.specs.declared.LearnerId.{LearnerId}
use Rattle.sets.specs.declared.ProposerId.{ProposerId}
use Rattle.sets.specs.declared.scans.Scans.{Scans}
use Rattle.model.specs.declared.Proposer.{Proposer}
use Rattle.model.specs.declared.Learner.{Learner}
use Rattle.model.specs.declared.Message.{Message}
use Rattle.model.specs.declared.Event.{Event}
use Rattle.model.specs.declared.Answer.{Answer}
use Rattle.model.specs.declared.Answer.TheVariants.{Done, Learnt, Decided}
use Rattle.model.specs.Records.{State, Kind, free, internal, proposal, acknowledgement, rejection, announcement, no_kind, kind_of, fresh_proposer, fresh_learner, proposer_of, acceptor_of, learner_of, slot_of, freeing, fresh}
use Rattle.model.specs.Rules.{is_current, deciding, accepts, learns}
use Rattle.model.specs.Events.{Code, receive, deliver, drop, duplicate, propose, refine, decide, crash, no_code, code_of, Effect, effect, delivery, proposes, tests}
use Rattle.model.specs.Ranges.{fields_in_range, message_in_range}
use Rattle.model.specs.Step.{Answered, stepped, step_no, step, sent, run, answers}
use Rattle.model.specs.Safety.{moment, Given, learnt, decided, Said, tells_learnt, tells_decided}
use Rattle.choice.proofs.Tests.{if-ind, and_l}
use Rattle.model.proofs.Lists.{All, none, also}
use Rattle.model.proofs.Steps.{does, decide-passed, ok-ranges, ok_tests}
use Rattle.model.proofs.States.{Holds}
use Rattle.model.proofs.InRange.{ranges, test-ranges}
use Rattle.model.proofs.Refusals.{refusal-most}

-- what is said where the state is t afterwards
pub data Says (z : Sizes) (t : State) : Answered → Type 0 where
  is_fine : Says z t (Ok Done)
  is_learnt : (l : LearnerId) (v : Scans) → l.0 < z.learners → (learner_of t l.0).learnt ≡ v → Says z t (Ok (Learnt l v))
  is_decided : (p : ProposerId) (v : Scans) → p.0 < z.proposers → (proposer_of t p.0).decided ≡ v → Says z t (Ok (Decided p v))
  is_refused : (n : ℕ) → 1 ≤ n → n ≤ 8 → Says z t (Err n)

-- what is stored at a place is read there
stored : {B : Type 0} (d x : B) (l : List B) (i : ℕ) → i < length l → get_or (set l i x) i d ≡ x
stored d x [] i h = absurd (not-suc-le-zero h)
stored d x (y ∷ l) zero h = refl
stored d x (y ∷ l) (suc i) h = stored d x l i (le_of_suc-le-suc h)

-- ---- by event

heard : (z : Sizes) (m : Message) → fields_in_range z m announcement ≡ true → m.addressee < z.learners
unfolding fields_in_range
heard z m h = search (and_l, ltb-true) depth 9

module _ (z : Sizes) (s : State) (m : Message) where
  delivered : (k : Kind) → fields_in_range z m k ≡ true → length s.learners ≡ z.learners → Says z (sent (delivery z s m k)) (Ok (delivery z s m k).answer)
  unfolding delivery
  delivered free h e = is_fine
  delivered internal h e = is_fine
  delivered proposal h e = if-ind (λ (x : Effect). Says z (sent x) (Ok x.answer)) (accepts (acceptor_of s m.addressee) m.set) _ _ (λ _. is_fine) (λ _. is_fine)
  delivered acknowledgement h e = if-ind (λ (x : Effect). Says z (sent x) (Ok x.answer)) (is_current (proposer_of s m.addressee) m.number) _ _ (λ _. is_fine) (λ _. is_fine)
  delivered rejection h e = if-ind (λ (x : Effect). Says z (sent x) (Ok x.answer)) (is_current (proposer_of s m.addressee) m.number) _ _ (λ _. is_fine) (λ _. is_fine)
  delivered announcement h e =
      if-ind (λ (w : Answer). Says z (sent (delivery z s m announcement)) (Ok w)) (learns z.acceptors (learner_of s m.addressee) m) _ Done
      (λ _. is_learnt (record { 0 = m.addressee }) _ (heard z m h) (ap (λ (l : Learner). l.learnt) (stored fresh_learner _ s.learners m.addressee (subst (λ (n : ℕ). m.addressee < n) (sym e) (heard z m h)))))
      (λ _. is_fine)
  delivered no_kind h e = is_fine

module _ (z : Sizes) (s : State) (x : Holds (ranges z) z s) (a b : ℕ) where
  message-in : fields_in_range z (slot_of s a) (kind_of (slot_of s a).kind) ≡ true
  unfolding message_in_range
  message-in = x.slots a

  effect-says : (c : Code) → tests z s c a b ≡ 0 → Says z (sent (effect z s c a b)) (Ok (effect z s c a b).answer)
  unfolding effect proposes
  effect-says receive t = is_fine
  effect-says deliver t = delivered z (freeing s a) (slot_of s a) (kind_of (slot_of s a).kind) message-in x.many_learners
  effect-says drop t = is_fine
  effect-says duplicate t = is_fine
  effect-says propose t = is_fine
  effect-says refine t = is_fine
  effect-says decide t =
      is_decided (record { 0 = a }) _ (decide-passed z s a b t).party
      (ap (λ (p : Proposer). p.decided) (stored fresh_proposer (deciding (proposer_of s a)) s.proposers a (subst (λ (n : ℕ). a < n) (sym x.many_proposers) (decide-passed z s a b t).party)))
  effect-says crash t = is_fine
  effect-says no_code t = is_fine

-- ---- a step

stepped-says : (z : Sizes) (s : State) (e : Effect) (n : ℕ) → n ≤ 8 → (n ≡ 0 → Says z (sent e) (Ok e.answer)) → Says z (stepped n s e).state (stepped n s e).answer
unfolding stepped
stepped-says z s e zero m h = h refl
stepped-says z s e (suc n) m h = is_refused (suc n) (omega arith) m

pub answer-says : (z : Sizes) (s : State) (e : Event) → Says z (step z s e).state (step z s e).answer
unfolding step
answer-says z s e = stepped-says z s (does z s e) (step_no z s e) (refusal-most z s e) (λ o. effect-says z s (test-ranges z s (ok-ranges z s e o)) e.a e.b (code_of e.code) (ok_tests z s e o))

-- a step that answers that a set is learnt leaves it so
pub learnt-left : (z : Sizes) (s : State) (e : Event) (l : LearnerId) (v : Scans) → (step z s e).answer ≡ Ok (Learnt l v) → (learner_of (step z s e).state l.0).learnt ≡ v
learnt-left z s e l v h = of (subst (Says z (step z s e).state) h (answer-says z s e))
  where
    of : Says z (step z s e).state (Ok (Learnt l v)) → (learner_of (step z s e).state l.0).learnt ≡ v
    of (is_learnt _ _ _ r) = r

-- and one that answers that a set is decided
pub decided-left : (z : Sizes) (s : State) (e : Event) (p : ProposerId) (v : Scans) → (step z s e).answer ≡ Ok (Decided p v) → (proposer_of (step z s e).state p.0).decided ≡ v
decided-left z s e p v h = of (subst (Says z (step z s e).state) h (answer-says z s e))
  where
    of : Says z (step z s e).state (Ok (Decided p v)) → (proposer_of (step z s e).state p.0).decided ≡ v
    of (is_decided _ _ _ r) = r

-- ---- a run

-- an answer that names a listed refusal, or a party that exists
pub data Named (z : Sizes) : Answered → Type 0 where
  names_none : Named z (Ok Done)
  names_learner : {l : LearnerId} {v : Scans} → l.0 < z.learners → Named z (Ok (Learnt l v))
  names_proposer : {p : ProposerId} {v : Scans} → p.0 < z.proposers → Named z (Ok (Decided p v))
  names_refusal : {n : ℕ} → 1 ≤ n → n ≤ 8 → Named z (Err n)

named : (z : Sizes) (t : State) (w : Answered) → Says z t w → Named z w
named z t (Ok Done) is_fine = names_none
named z t (Ok (Learnt _ _)) (is_learnt l v i h) = names_learner i
named z t (Ok (Decided _ _)) (is_decided p v i h) = names_proposer i
named z t (Err _) (is_refused n l m) = names_refusal l m

pub all_named : (z : Sizes) (s : State) (es : List Event) → All (Named z) (answers z s es)
unfolding answers
all_named z s [] = none
all_named z s (e ∷ es) = also (named z (step z s e).state (step z s e).answer (answer-says z s e)) (all_named z (step z s e).state es)

-- ok is neither of the other two
unfoldable OnlyOk : Answered → Type 0
OnlyOk (Ok Done) = Unit
OnlyOk (Ok (Learnt _ _)) = ⊥
OnlyOk (Ok (Decided _ _)) = ⊥
OnlyOk (Err _) = ⊥

not-learnt : {l : LearnerId} {v : Scans} → ◌≡◌ {A = Answered} (Ok Done) (Ok (Learnt l v)) → ⊥
unfolding OnlyOk
not-learnt h = subst OnlyOk h tt

not-decided : {p : ProposerId} {v : Scans} → ◌≡◌ {A = Answered} (Ok Done) (Ok (Decided p v)) → ⊥
unfolding OnlyOk
not-decided h = subst OnlyOk h tt

-- what an answer of a run says is so after its event
learnt-then : (z : Sizes) (s : State) (es : List Event) (i : ℕ) (l : LearnerId) (v : Scans) → get_or (answers z s es) i (Ok Done) ≡ Ok (Learnt l v) → (learner_of (run z s (take (suc i) es)) l.0).learnt ≡ v
unfolding answers run
learnt-then z s [] zero l v h = absurd (not-learnt h)
learnt-then z s [] (suc i) l v h = absurd (not-learnt h)
learnt-then z s (e ∷ es) zero l v h = learnt-left z s e l v h
learnt-then z s (e ∷ es) (suc i) l v h = learnt-then z (step z s e).state es i l v h

decided-then : (z : Sizes) (s : State) (es : List Event) (i : ℕ) (p : ProposerId) (v : Scans) → get_or (answers z s es) i (Ok Done) ≡ Ok (Decided p v) → (proposer_of (run z s (take (suc i) es)) p.0).decided ≡ v
unfolding answers run
decided-then z s [] zero p v h = absurd (not-decided h)
decided-then z s [] (suc i) p v h = absurd (not-decided h)
decided-then z s (e ∷ es) zero p v h = decided-left z s e p v h
decided-then z s (e ∷ es) (suc i) p v h = decided-then z (step z s e).state es i p v h

pub said-given : (z : Sizes) (es : List Event) (i : ℕ) (v : Scans) → Said z es i v → Given (moment z es (suc i)) v
unfolding moment
said-given z es i v (tells_learnt l h) = learnt l.0 (learnt-then z (fresh z) es i l v h)
said-given z es i v (tells_decided p h) = decided p.0 (decided-then z (fresh z) es i p v h)
