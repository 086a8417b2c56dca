-- One number of those that are left to pass over, to take or to write. Assumes nothing.
use mathlib.Core.Path.{◌≡◌, refl, sym, ap}
use mathlib.Core.Bool.{Bool, true, false}
use mathlib.Core.List.{List, [], ◌∷◌, ◌++◌}
use Prim.Native.Nat.{ℕ, suc, ◌+◌, ◌-◌, ◌<◌, ◌≤◌}
use native.Mathlib.Omega.{arith}
use native.Mathlib.Numerals.{add-one}
use lib.Dec.{leb}
use lib.ListN.{length, drop, get_or, set, drop_of_length-le, length-append}
use lib.Seq.{sets, drop-cons}
use borrow.Author.Tests.{leb-true, leb-false, le-leb, lt-leb}
use Rattle.numbers.specs.Coding.{read_number, form}
use Rattle.numbers.specs.declared.Limit.{Limit}
use Rattle.std.specs.Prelude.{Ok, Err}
use Rattle.numbers.specs.Coding.{number_to}
use Rattle.forms.specs.Forms.{Outcome, got, refused, test_read, prepend, and_then, row, plain, place_of, then_numbers, numbers_at, forms}
pub use Rattle.numbers.proofs.Ends.{sets-out, sets-append}

-- where reading ends does not hang on the numbers before
pub place-prepend : (vs : List ℕ) (o : Outcome) → place_of (prepend vs o) ≡ place_of o
unfolding prepend
place-prepend vs (got ws next) = refl
place-prepend vs (refused r) = refl

module _ (limit : Limit) (bytes : List ℕ) (n i at : ℕ) where
  -- a number that is read is one less to pass over
  pub plain-number : {v next : ℕ} → i < n → read_number limit bytes at ≡ number_to v next → place_of (plain (n - i) limit bytes at) ≡ place_of (plain (n - (i + 1)) limit bytes next)
  unfolding row test_read and_then
  plain-number {v} {next} h e =
      let q : n - i ≡ suc (n - (i + 1)) = omega arith in
      rw (q, e) (place-prepend (v ∷ []) (plain (n - (i + 1)) limit bytes next))

  -- a refusal ends the reading
  pub plain-refused : {r : ℕ} → i < n → read_number limit bytes at ≡ Err r → place_of (plain (n - i) limit bytes at) ≡ Err r
  unfolding row test_read and_then
  plain-refused h e =
      let q : n - i ≡ suc (n - (i + 1)) = omega arith in
      rw (q, e)

  -- none is left to pass over
  pub plain-none : n ≤ i → place_of (plain (n - i) limit bytes at) ≡ Ok at
  unfolding row
  plain-none h =
      let q : n - i ≡ 0 = omega arith in
      rw q

  -- a number that is read is one less to take
  pub taken-number : {v next : ℕ} → i < n → read_number limit bytes at ≡ number_to v next → numbers_at (n - i) limit bytes at ≡ v ∷ numbers_at (n - (i + 1)) limit bytes next
  unfolding numbers_at then_numbers
  taken-number h e =
      let q : n - i ≡ suc (n - (i + 1)) = omega arith in
      rw (q, e)

  -- nothing is taken from a refusal on
  pub taken_refused : {r : ℕ} → i < n → read_number limit bytes at ≡ Err r → numbers_at (n - i) limit bytes at ≡ []
  unfolding numbers_at then_numbers
  taken_refused h e =
      let q : n - i ≡ suc (n - (i + 1)) = omega arith in
      rw (q, e)

  -- none is left to take
  pub taken_none : n ≤ i → numbers_at (n - i) limit bytes at ≡ []
  unfolding numbers_at
  taken_none h =
      let q : n - i ≡ 0 = omega arith in
      rw q

  -- a number that is read is stored, and then those after it
  pub stored-number : {v next : ℕ} (room : List ℕ) → i < n → read_number limit bytes at ≡ number_to v next
      → sets room i (numbers_at (n - i) limit bytes at) ≡ sets (set room i v) (i + 1) (numbers_at (n - (i + 1)) limit bytes next)
  stored-number {v} {next} room h e =
      let t = numbers_at (n - (i + 1)) limit bytes next in
      rw (taken-number h e) (ap (λ (k : ℕ). sets (set room i v) k t) (sym (add-one i)))

module _ (vs : List ℕ) (i : ℕ) where
  -- the number at a place, and those after it
  pub forms-next : i < length vs → forms (drop i vs) ≡ form (get_or vs i 0) ++ forms (drop (i + 1) vs)
  unfolding forms
  forms-next h = rw (drop-cons vs i 0 h, add-one i)

  -- how many bytes those take
  pub forms-next-length : i < length vs → length (forms (drop i vs)) ≡ length (form (get_or vs i 0)) + length (forms (drop (i + 1) vs))
  forms-next-length h = rw (forms-next h) (length-append (form (get_or vs i 0)) (forms (drop (i + 1) vs)))

  -- past the last number there is nothing to write
  pub forms-none : length vs ≤ i → forms (drop i vs) ≡ []
  unfolding forms
  forms-none h = rw (drop_of_length-le vs h)

-- what has been counted is taken off on both sides
pub leb-less : (a b l : ℕ) → a ≤ l → leb (a + b) l ≡ leb b (l - a)
leb-less a b l h = go (leb b (l - a)) refl
  where
    go : (t : Bool) → leb b (l - a) ≡ t → leb (a + b) l ≡ t
    go true e = le-leb (a + b) l (omega (arith, leb-true b (l - a) e))
    go false e = lt-leb (a + b) l (omega (arith, leb-false b (l - a) e))
