-- The laws of digits. Assumes nothing.
use mathlib.Core.Path.{◌≡◌, refl, ap}
use mathlib.Core.Bool.{Bool, true, false}
use mathlib.Core.List.{[], ◌∷◌, ◌++◌}
use Prim.Native.Nat.{ℕ, zero, suc, ◌/◌, ◌%◌, ◌^◌, ◌<◌, ◌≤◌}
use native.Mathlib.Omega.{arith}
use native.Mathlib.Nat.{pow-suc, div-lt_iff_lt-mul}
use lib.Dec.{ltb, lit<}
use lib.ListN.{length, length-append}
use borrow.Author.Tests.{lt-ltb, le-ltb}
use native.Mathlib.Nat.{mod-eq_of_lt}
use Rattle.std.proofs.Common.{⊎_elim}
use Rattle.std.proofs.lemmas.Bool.{cases_lt}
use Rattle.std.specs.Prelude.{if◌then◌else◌}
use Rattle.text.specs.Digits.{digit, digits_of, decimal_of, hex_of}

-- ---- decimal numbers

-- more than one digit
pub decimal-more : (n x : ℕ) → 10 ≤ x → decimal_of (suc n) x ≡ decimal_of n (x / 10) ++ (digit (x % 10) ∷ [])
unfolding decimal_of
decimal-more n x h = rw (le-ltb x 10 h)

-- one digit
pub decimal-last : (n x : ℕ) → x < 10 → decimal_of (suc n) x ≡ digit x ∷ []
unfolding decimal_of
decimal-last n x h = rw (lt-ltb x 10 h)

-- a number has a digit
pub decimal-some : (n x : ℕ) → 1 ≤ length (decimal_of (suc n) x)
unfolding decimal_of
decimal-some n x = go (ltb x 10)
  where
    go : (t : Bool) → 1 ≤ length (if t then digit x ∷ [] else decimal_of n (x / 10) ++ (digit (x % 10) ∷ []))
    go true = omega arith
    go false = simp length-append (omega arith)

-- one digit less is left before the last
pub less : (n x : ℕ) → x < 10 ^ suc n → x / 10 < 10 ^ n
less n x h = (div-lt_iff_lt-mul (lit< tt)).1 (rw (pow-suc 10 n) at h)

-- a number below 10 ^ (n + 1) has at most n + 1 digits
pub decimal-short : (n f x : ℕ) → x < 10 ^ suc n → length (decimal_of f x) ≤ suc n
unfolding decimal_of
decimal-short n zero x s = omega arith
decimal-short zero (suc f) x s = rw (decimal-last f x (omega arith)) (omega arith)
decimal-short (suc n) (suc f) x s = go (decimal-short n f (x / 10) (less (suc n) x s)) (ltb x 10)
  where
    go : length (decimal_of f (x / 10)) ≤ suc n → (t : Bool) → length (if t then digit x ∷ [] else decimal_of f (x / 10) ++ (digit (x % 10) ∷ [])) ≤ suc (suc n)
    go h true = omega arith
    go h false = simp length-append (omega arith)

-- at most as many digits as are asked for
pub decimal-most : (n x : ℕ) → length (decimal_of n x) ≤ n
unfolding decimal_of
decimal-most zero x = omega arith
decimal-most (suc n) x = go (decimal-most n (x / 10)) (ltb x 10)
  where
    go : length (decimal_of n (x / 10)) ≤ n → (t : Bool) → length (if t then digit x ∷ [] else decimal_of n (x / 10) ++ (digit (x % 10) ∷ [])) ≤ suc n
    go h true = omega arith
    go h false = simp length-append (omega arith)

-- ---- digits in a base

-- n digits
pub digits-length : (base n x : ℕ) → length (digits_of base n x) ≡ n
unfolding digits_of
digits-length base zero x = refl
digits-length base (suc n) x = simp length-append (omega (arith, digits-length base n (x / base)))

pub hex-length : (n x : ℕ) → length (hex_of n x) ≡ n
hex-length n x = digits-length 16 n x

no-digits : (x : ℕ) → decimal_of 0 x ≡ digits_of 10 (length (decimal_of 0 x)) x
unfolding digits_of decimal_of
no-digits x = refl

-- a decimal number has its last digits, as many as it has
pub decimal-digits : (n x : ℕ) → decimal_of n x ≡ digits_of 10 (length (decimal_of n x)) x
unfolding digits_of
decimal-digits zero x = no-digits x
decimal-digits (suc n) x = ⊎_elim
    (λ (l : x < 10). rw (decimal-last n x l) (rw (mod-eq_of_lt l) refl))
    (λ (m : 10 ≤ x).
    let q : length (decimal_of n (x / 10) ++ (digit (x % 10) ∷ [])) ≡ suc (length (decimal_of n (x / 10))) = simp length-append (omega arith) in
    rw (decimal-more n x m) (rw q (ap (λ l. l ++ (digit (x % 10) ∷ [])) (decimal-digits n (x / 10)))))
    (cases_lt x 10)
