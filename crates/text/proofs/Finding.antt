-- Digits counted, and digits found last first. Assumes nothing.
use mathlib.Core.Path.{◌≡◌, refl, sym, ap, ◌∙◌}
use mathlib.Core.List.{List, [], ◌∷◌, ◌++◌, append_assoc, append-nil}
use Prim.Native.Nat.{ℕ, zero, suc, ◌+◌, ◌-◌, ◌/◌, ◌%◌, ◌^◌, ◌<◌, ◌≤◌}
use native.Mathlib.Omega.{arith}
use lib.ListN.{length, drop, set, length-append, drop_of_length-le}
use lib.Seq.{drop-cons, drop-set-lt, get_or-set_same, lt-length-set}
use Rattle.text.specs.Digits.{digit, digits_of, decimal_of, decimal}
use Rattle.text.proofs.DigitLaws.{decimal-more, decimal-last, decimal-some, decimal-most, less}

-- ---- decimal numbers

-- the rest has at most n digits; with those that were found they make the number
pub record Rest (value n rest : ℕ) (found : List ℕ) : Type 0 where
  pub small : rest < 10 ^ n
  pub whole : decimal_of n rest ++ found ≡ decimal value

-- before the first digit
begin : (value : ℕ) → value < 2 ^ 64 → Rest value 20 value []
begin value h = record { small = omega arith; whole = append-nil (decimal value) }

module _ {value n rest : ℕ} {found : List ℕ} (l : Rest value (suc n) rest found) where
  -- a rest of several digits
  pub several : 10 ≤ rest → 1 ≤ n
  several h = go n l.small
    where
      go : (k : ℕ) → rest < 10 ^ suc k → 1 ≤ k
      go zero s = absurd (omega arith)
      go (suc k) s = omega arith

  -- after one digit of several
  pub more : 10 ≤ rest → Rest value n (rest / 10) (digit (rest % 10) ∷ found)
  more h =
      record {
        small = less n rest l.small;
        whole = sym (append_assoc (decimal_of n (rest / 10)) (digit (rest % 10) ∷ []) found) ∙ rw (decimal-more n rest h) at l.whole;
      }

  -- after the last digit
  pub last : rest < 10 → digit rest ∷ found ≡ decimal value
  last h = rw (decimal-last n rest h) at l.whole

  -- how many digits were found
  pub few : length found ≤ 19
  few = omega (arith, simp length-append at (ap length l.whole), decimal-some n rest, decimal-most 20 value)

-- the digits that were counted, and one more
pub record Counted (value width rest : ℕ) : Type 0 where
  pub n : ℕ
  pub found : List ℕ
  pub count : width ≡ suc (length found)
  pub part : Rest value (suc n) rest found

pub begin-count : (value : ℕ) → value < 2 ^ 64 → Counted value 1 value
begin-count value h = record { n = 19; found = []; count = refl; part = begin value h }

module _ {value width rest : ℕ} (l : Counted value width rest) where
  pub count-few : width ≤ 20
  count-few = omega (arith, l.count, few l.part)

  pub count-more : 10 ≤ rest → Counted value (width + 1) (rest / 10)
  count-more h = go l.n l.part
    where
      go : (k : ℕ) → Rest value (suc k) rest l.found → Counted value (width + 1) (rest / 10)
      go zero p = absurd (omega (arith, several p h))
      go (suc k) p = record { n = k; found = digit (rest % 10) ∷ l.found; count = omega (arith, l.count); part = more p h }

  pub count-last : rest < 10 → width ≡ length (decimal value)
  count-last h = l.count ∙ ap length (last l.part h)

-- ---- digits in a base, found last first: those of the rest, with those found, which stand from a place on, make the whole

-- a digit stored before those that were found
drop-stored : (l : List ℕ) (i a : ℕ) → i < length l → drop i (set l i a) ≡ a ∷ drop (suc i) l
drop-stored l i a h =
    drop-cons (set l i a) i 0 (lt-length-set l i a h)
    ∙ rw (get_or-set_same l i a 0 h, drop-set-lt (suc i) l i a (omega arith))

pub begin-found : (base value : ℕ) (digits : List ℕ) → digits_of base (length digits) value ++ drop (length digits) digits ≡ digits_of base (length digits) value
begin-found base value digits = rw (drop_of_length-le digits {i = length digits} (omega arith)) (append-nil (digits_of base (length digits) value))

module _ (base place rest : ℕ) (digits : List ℕ) {whole : List ℕ} (part : digits_of base place rest ++ drop place digits ≡ whole) where
  -- one digit more
  pub more-found : 0 < place → place ≤ length digits → digits_of base (place - 1) (rest / base) ++ drop (place - 1) (set digits (place - 1) (digit (rest % base))) ≡ whole
  unfolding digits_of
  more-found h inside =
      let n : ℕ = place - 1 in
      let d : ℕ = digit (rest % base) in
      let now : place ≡ suc n = omega arith in
      rw (drop-stored digits n d (omega arith)) (sym (append_assoc (digits_of base n (rest / base)) (d ∷ []) (drop (suc n) digits)) ∙ rw now at part)

  -- all digits
  pub last-found : place ≤ 0 → digits ≡ whole
  unfolding digits_of
  last-found h =
      let none : place ≡ 0 = omega arith in
      rw none at part
