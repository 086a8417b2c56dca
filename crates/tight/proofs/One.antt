-- Two results that keep a call's promise are equal. Assumes nothing.
use mathlib.Core.Path.{◌≡◌, sym, ◌∙◌}
use mathlib.Core.List.{List}
use Prim.Native.Nat.{ℕ}
use Rattle.sizes.specs.declared.Sizes.{Sizes}
use Rattle.model.specs.Records.{State}
use Rattle.model.specs.declared.Event.{Event}
use Rattle.model.specs.Step.{Answered}
use Rattle.machine.specs.declared.calls.Said.{Said}
use Rattle.machine.specs.Calls.{Leaves, FreshCall, StepCall, SaidCall, RunCall, WholeRunCall}

-- of a promise that is an equation
pub one_value : {B : Type 0} {x y d : B} → x ≡ d → y ≡ d → x ≡ y
one_value p q = p ∙ sym q

-- of one that gives four lists
pub one_state : {t t' u : State} → Leaves t u → Leaves t' u → t ≡ t'
one_state l l' = λ i. record {
  proposers = one_value l.0 l'.0 i;
  acceptors = one_value l.1.0 l'.1.0 i;
  learners = one_value l.1.1.0 l'.1.1.0 i;
  slots = one_value l.1.1.1 l'.1.1.1 i;
}

pub one-fresh : (z : Sizes) (s : State) {r r' : ℕ} {t t' : State} → FreshCall z s r t → FreshCall z s r' t' → (r ≡ r') × (t ≡ t')
one-fresh z s c c' = (one_value c.0 c'.0, one_state c.1 c'.1)

pub one-step : (z : Sizes) (s : State) (e : Event) {r r' : Answered} {t t' : State} → StepCall z s e r t → StepCall z s e r' t' → (r ≡ r') × (t ≡ t')
one-step z s e c c' = (one_value c.0 c'.0, one_state c.1.1 c'.1.1)

pub one-said : (z : Sizes) (s : State) (e : Event) {r r' : Said} {t t' : State} → SaidCall z s e r t → SaidCall z s e r' t' → (r ≡ r') × (t ≡ t')
one-said z s e c c' = (one_value c.0 c'.0, one_state c.1 c'.1)

pub one-run : (z : Sizes) (s : State) (ns : List ℕ) (n : ℕ) (log : List ℕ) {r r' : ℕ} {t t' : State} {l l' : List ℕ}
    → RunCall z s ns n log r t l → RunCall z s ns n log r' t' l' → (r ≡ r') × ((t ≡ t') × (l ≡ l'))
one-run z s ns n log c c' = (one_value c.0 c'.0, (one_state c.1.0 c'.1.0, one_value c.1.1 c'.1.1))

pub one-whole-run : (z : Sizes) (ns : List ℕ) (n : ℕ) (log : List ℕ) {r r' : ℕ} {l l' : List ℕ}
    → WholeRunCall z ns n log r l → WholeRunCall z ns n log r' l' → (r ≡ r') × (l ≡ l')
one-whole-run z ns n log c c' = (one_value c.0 c'.0, one_value c.1 c'.1)
