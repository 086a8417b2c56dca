-- How many bytes the form of a number takes, by its bits. Assumes nothing.
use mathlib.Core.Path.{◌≡◌, refl, sym}
use Prim.Native.Nat.{ℕ, zero, suc, ◌+◌, ◌-◌, ◌*◌, ◌/◌, ◌^◌, ◌<◌, ◌≤◌}
use native.Mathlib.Omega.{arith}
use native.Mathlib.Nat.{pow-suc}
use lib.Count.{count_leading_zeros, leading_length}
use lib.ListN.{length}
use lib.Pow.{pow-add, pow_mono}
use Rattle.numbers.specs.Coding.{form}
use Rattle.numbers.proofs.Forms.{form-size}

-- a group is seven bits
groups : (g : ℕ) → 128 ^ g ≡ 2 ^ (g * 7)
groups zero = refl
groups (suc g) =
    let e : suc g * 7 ≡ g * 7 + 7 = omega arith in
    rw (pow-suc 128 g, e, pow-add 2 (g * 7) 7, groups g)

-- above the first group a bound is even, and so one on the odd number at v is one on v
even : (g v : ℕ) → 128 ^ g * 2 ≤ 2 * (v / 2 * 2 + 1) + 1 → 0 < g → 128 ^ g ≤ v
even zero v h z = absurd (omega arith)
even (suc g) v h z = rw (pow-suc 128 g) (omega (arith, rw (pow-suc 128 g) at h))

-- a number of m bits has a byte for every seven of them, the last in part
bits : (m v : ℕ) → m ≤ 64 → v / 2 * 2 + 1 < 2 ^ m → 2 ^ m ≤ 2 * (v / 2 * 2 + 1) + 1 → (m + 6) / 7 ≡ length (form v)
unfolding form
bits zero v l s b = absurd (omega arith)
bits (suc m) v l s b =
    let g = m / 7 in
    let size : (suc m + 6) / 7 ≡ suc g = omega arith in
    let top : 2 ^ suc m ≤ 128 ^ suc g = rw (groups (suc g)) (pow_mono (omega arith)) in
    let low : 2 ^ (g * 7 + 1) ≤ 2 ^ suc m = pow_mono (omega arith) in
    let twice : 2 ^ (g * 7 + 1) ≡ 128 ^ g * 2 = rw (groups g) (pow-add 2 (g * 7) 1) in
    rw size (sym (form-size g 9 v (omega arith) (even g v (omega arith)) (omega arith)))

-- and its bits are 64 less the zeros that lead the odd number at it; 0 has one bit, as 1 has
pub bytes_of : (v : ℕ) → v < 2 ^ 64 → (64 - count_leading_zeros 64 (v / 2 * 2 + 1) + 6) / 7 ≡ length (form v)
bytes_of v h =
    let t = leading_length 64 (v / 2 * 2 + 1) (omega arith) in
    let m : 64 - count_leading_zeros 64 (v / 2 * 2 + 1) ≡ t.0 = omega (arith, t.1) in
    rw m (bits t.0 v (omega (arith, t.1)) t.2 t.3)
