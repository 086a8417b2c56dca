-- Tests in their order: what the number that they give says of them.
use mathlib.Core.Bool.{Bool, true, false}
use mathlib.Core.Path.{◌≡◌, refl, sym, ◌∙◌}
use Prim.Native.Nat.{ℕ, ◌<◌}
use native.Mathlib.Omega.{arith}
use lib.Dec.{eqb, ltb}
use borrow.Author.Tests.{ltb-true, eq-eqb, ne_eqb}
use Rattle.model.specs.Rules.{greatest_number}
use Rattle.choice.specs.Tests.{◌unless◌, ◌⨾◌, ok}

-- where all three pass, the number is below the greatest
pub below-greatest : (a e : Bool) (n : ℕ) → (5 unless a ⨾ 6 unless e ⨾ 7 unless ltb n greatest_number ⨾ ok) ≡ 0 → n < greatest_number
below-greatest a e n h = go a e (ltb n greatest_number) refl h
  where
    go : (a e t : Bool) → ltb n greatest_number ≡ t → (5 unless a ⨾ 6 unless e ⨾ 7 unless t ⨾ ok) ≡ 0 → n < greatest_number
    go true true true q h = ltb-true n greatest_number q
    go true true false q h = omega arith
    go true false t q h = omega arith
    go false e t q h = omega arith

-- a rule's number, tested for 0
pub is_zero : {n m : ℕ} → m ≡ n → m ≡ 0 → eqb n 0 ≡ true
is_zero {n} e z = eq-eqb n 0 (sym e ∙ z)

pub not-zero : {n m : ℕ} → m ≡ n → (m ≡ 0 → ⊥) → eqb n 0 ≡ false
not-zero {n} e z = ne_eqb n 0 (λ q. z (e ∙ q))
