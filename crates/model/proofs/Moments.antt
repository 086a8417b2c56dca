-- The moments of a run follow each other by steps.
use mathlib.Core.Path.{◌≡◌, refl, sym, ap}
use mathlib.Core.Logic.{◌⊎◌, inl, inr}
use mathlib.Core.List.{List, [], ◌∷◌}
use Prim.Native.Nat.{ℕ, zero, suc, ◌≤◌}
use native.Mathlib.Omega.{arith}
use native.Mathlib.Nat.{suc-ne-zero}
use lib.ListN.{length, take}
use lib.Seq.{take-length}
use Rattle.sizes.specs.declared.Sizes.{Sizes}
use Rattle.model.specs.declared.Event.{Event}
use Rattle.model.specs.Records.{State, fresh}
use Rattle.model.specs.Events.{tests}
use Rattle.model.specs.Step.{step, run}
use Rattle.model.specs.Safety.{no_event, nth, moment}
use Rattle.model.proofs.Steps.{step-ind, ok_tests}

no-event-keeps : (z : Sizes) (s : State) → (step z s no_event).state ≡ s
unfolding tests
no-event-keeps z s = step-ind (λ (t : State). t ≡ s) z s no_event refl (λ ok. absurd (suc-ne-zero 1 (ok_tests z s no_event ok)))

run-next : (z : Sizes) (s : State) (es : List Event) (i : ℕ) → run z s (take (suc i) es) ≡ (step z (run z s (take i es)) (nth es i)).state
unfolding run
run-next z s [] zero = sym (no-event-keeps z s)
run-next z s [] (suc i) = sym (no-event-keeps z s)
run-next z s (e ∷ es) zero = refl
run-next z s (e ∷ es) (suc i) = run-next z (step z s e).state es i

module _ (z : Sizes) (es : List Event) where
  pub first : moment z es 0 ≡ fresh z
  unfolding moment run
  first = refl

  pub last : moment z es (length es) ≡ run z (fresh z) es
  unfolding moment
  last = ap (run z (fresh z)) (take-length es)

  pub next : (i : ℕ) → moment z es (suc i) ≡ (step z (moment z es i) (nth es i)).state
  unfolding moment
  next i = run-next z (fresh z) es i

pub earlier : (i j : ℕ) → (i ≤ j) ⊎ (j ≤ i)
earlier zero j = inl (omega arith)
earlier (suc i) zero = inr (omega arith)
earlier (suc i) (suc j) = elim (earlier i j) [ inl p ↦ inl (omega arith) | inr p ↦ inr (omega arith) ]
