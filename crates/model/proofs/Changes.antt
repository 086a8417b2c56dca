-- What holds of every party after one changed.
use mathlib.Core.Path.{refl, sym, subst}
use mathlib.Core.Logic.{inl}
use Prim.Native.Nat.{ℕ}
use native.Mathlib.Decide.{ℕ_discrete}
use Rattle.model.specs.declared.Learner.{Learner}
use Rattle.model.specs.Network.{Changed, Same, Worn}

module _ {B : Type 0} {f g : ℕ → B} where
  pub changed-each : (Q : ℕ → B → Type 0) {i : ℕ} {x : B} → Changed f g i x → ((j : ℕ) → Q j (f j)) → Q i x → (j : ℕ) → Q j (g j)
  changed-each Q {i} {x} c h q j = elim (ℕ_discrete j i) [
    | yes e ↦ subst (λ (n : ℕ). Q n (g n)) (sym e) (subst (Q i) (sym c.here) q)
    | no n ↦ subst (Q j) (sym (c.others j n)) (h j)
  ]

  pub same-each : (Q : ℕ → B → Type 0) → Same f g → ((j : ℕ) → Q j (f j)) → (j : ℕ) → Q j (g j)
  same-each Q s h j = subst (Q j) (sym (s j)) (h j)

pub unworn : (l : Learner) → Worn l l
unworn l = record { learnt = refl; heard = λ i. inl refl }
