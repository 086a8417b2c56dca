-- By cases on a test, on a conjunction of tests, and on a chain of refusals.
use mathlib.Core.Path.{◌≡◌, refl}
use mathlib.Core.Bool.{Bool, true, false, ◌&&◌, false≢true}
use Prim.Native.Nat.{ℕ, zero, suc}
use native.Mathlib.Nat.{suc-ne-zero}
use Rattle.std.specs.Prelude.{if◌then◌else◌}
use Rattle.choice.specs.Tests.{◌unless◌, refusal, ◌⨾◌}

pub if-ind : {B : Type 0} (Q : B → Type 0) (b : Bool) (x y : B) → (b ≡ true → Q x) → (b ≡ false → Q y) → Q (if b then x else y)
if-ind Q true x y f g = f refl
if-ind Q false x y f g = g refl

-- ---- both tests

pub and_l : (a b : Bool) → (a && b) ≡ true → a ≡ true
and_l true b e = refl
and_l false b e = e

pub and_r : (a b : Bool) → (a && b) ≡ true → b ≡ true
and_r true b e = e
and_r false b e = absurd (false≢true e)

pub and_i : (a b : Bool) → a ≡ true → b ≡ true → (a && b) ≡ true
and_i true b e f = f
and_i false b e f = e

-- ---- no refusal: each test was passed

-- `test-passed n` and `rest-passed n` are of the refusal number after n
pub test-passed : (n : ℕ) (t : Bool) (rest : ℕ) → (suc n unless t) rest ≡ 0 → t ≡ true
test-passed n true rest e = refl
test-passed n false rest e = absurd (suc-ne-zero n e)

pub rest-passed : (n : ℕ) (t : Bool) (rest : ℕ) → (suc n unless t) rest ≡ 0 → rest ≡ 0
rest-passed n true rest e = e
rest-passed n false rest e = absurd (suc-ne-zero n e)

pub no-refusal : (n rest : ℕ) → refusal n rest ≡ 0 → n ≡ 0
no-refusal zero rest e = refl
no-refusal (suc n) rest e = e

pub rest-unrefused : (n rest : ℕ) → refusal n rest ≡ 0 → rest ≡ 0
rest-unrefused zero rest e = e
rest-unrefused (suc n) rest e = absurd (suc-ne-zero n e)

-- a refusal stands, whatever comes after it
pub stands : (n rest : ℕ) → (n ≡ 0 → ⊥) → (refusal n ⨾ rest) ≡ n
stands zero rest h = absurd (h refl)
stands (suc n) rest h = refl
