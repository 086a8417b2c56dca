-- Where checking a scan table ends, one number after the other and one scan after the other. Assumes nothing.
use mathlib.Core.Path.{◌≡◌, refl}
use mathlib.Core.List.{List, [], ◌∷◌}
use Prim.Native.Nat.{ℕ, zero, suc, ◌+◌, ◌-◌, ◌<◌, ◌≤◌}
use native.Mathlib.Omega.{arith}
use native.Mathlib.Nat.{suc-ne-zero}
use lib.Dec.{eqb}
use borrow.Author.Tests.{ne_eqb}
use Rattle.std.specs.Prelude.{Result, Ok, Err, if◌then◌else◌}
use Rattle.numbers.specs.Coding.{Read, read_number}
use Rattle.numbers.specs.declared.Limit.TheVariants.{Table}
use Rattle.numbers.specs.declared.Limit.{Limit}
use Rattle.numbers.specs.declared.Number.{Number}
use Rattle.forms.specs.Forms.{Outcome, got, refused, Test, test_read, and_then, row, rows, place_of}
use Rattle.forms.proofs.Steps.{place-prepend}
use Rattle.scan_table.specs.Table.{tag_no, shelf_no, device_no, time_no, scan_tests}

-- ---- the numbers of one scan

-- what follows, unless n refuses
abbrev pub unless_refused : ℕ → Result ℕ ℕ → Result ℕ ℕ
unless_refused zero rest = rest
unless_refused (suc n) rest = Err (suc n)

-- where reading goes on after a number that is tested
abbrev pub after_number : Test → (ℕ → Result ℕ ℕ) → Read → Result ℕ ℕ
after_number test rest (Ok n) = unless_refused (test n.value) (rest n.next)
after_number test rest (Err r) = Err r

-- the first number of a row, and then the rest
place-row : (test : Test) (tests : List Test) (bytes : List ℕ) (at : ℕ)
    → place_of (row (test ∷ tests) Table bytes at) ≡ after_number test (λ next. place_of (row tests Table bytes next)) (read_number Table bytes at)
unfolding row test_read and_then
place-row test tests bytes at = go (read_number Table bytes at)
  where
    tested : (n : Number) (k : ℕ) → place_of (and_then (if eqb k 0 then got (n.value ∷ []) n.next else refused k) (λ next. row tests Table bytes next))
        ≡ unless_refused k (place_of (row tests Table bytes n.next))
    tested n zero = place-prepend (n.value ∷ []) (row tests Table bytes n.next)
    tested n (suc k) = rw (ne_eqb (suc k) 0 (suc-ne-zero k))

    go : (r : Read) → place_of (and_then (test_read test r) (λ next. row tests Table bytes next)) ≡ after_number test (λ next. place_of (row tests Table bytes next)) r
    go (Ok n) = tested n (test n.value)
    go (Err r) = refl

-- the four numbers of a scan
pub place_scan : (bytes : List ℕ) (at : ℕ) → place_of (row scan_tests Table bytes at)
    ≡ after_number tag_no
    (λ a. after_number shelf_no
    (λ b. after_number device_no
    (λ c. after_number time_no (λ d. Ok d) (read_number Table bytes c))
    (read_number Table bytes b))
    (read_number Table bytes a))
    (read_number Table bytes at)
unfolding row
place_scan bytes at =
    simp (place-row tag_no (shelf_no ∷ device_no ∷ time_no ∷ []) bytes, place-row shelf_no (device_no ∷ time_no ∷ []) bytes, place-row device_no (time_no ∷ []) bytes, place-row time_no [] bytes)

-- ---- the scans

-- where a piece ends, the rest starts
place-then : (o : Outcome) (f : ℕ → Outcome) {m : ℕ} → place_of o ≡ Ok m → place_of (and_then o f) ≡ place_of (f m)
unfolding and_then
place-then (got vs next) f {m} e =
    let p : next ≡ m = cc in
    rw p (place-prepend vs (f m))
place-then (refused r) f e = absurd (let z : ◌≡◌ {A = ℕ} 0 1 = cc in omega arith)

-- a refusal stays
place-stops : (o : Outcome) (f : ℕ → Outcome) {r : ℕ} → place_of o ≡ Err r → place_of (and_then o f) ≡ Err r
unfolding and_then
place-stops (got vs next) f e = absurd (let z : ◌≡◌ {A = ℕ} 0 1 = cc in omega arith)
place-stops (refused r) f e = e

module _ (tests : List Test) (limit : Limit) (bytes : List ℕ) (n i at : ℕ) where
  -- a row that is read is one less to read
  pub rows_next : {m : ℕ} → i < n → place_of (row tests limit bytes at) ≡ Ok m → place_of (rows (n - i) tests limit bytes at) ≡ place_of (rows (n - (i + 1)) tests limit bytes m)
  unfolding rows
  rows_next h e =
      let q : n - i ≡ suc (n - (i + 1)) = omega arith in
      rw q (place-then (row tests limit bytes at) (λ k. rows (n - (i + 1)) tests limit bytes k) e)

  -- a refusal ends the reading
  pub rows-refused : {r : ℕ} → i < n → place_of (row tests limit bytes at) ≡ Err r → place_of (rows (n - i) tests limit bytes at) ≡ Err r
  unfolding rows
  rows-refused h e =
      let q : n - i ≡ suc (n - (i + 1)) = omega arith in
      rw q (place-stops (row tests limit bytes at) (λ k. rows (n - (i + 1)) tests limit bytes k) e)

  -- none is left to read
  pub rows_none : n ≤ i → place_of (rows (n - i) tests limit bytes at) ≡ Ok at
  unfolding rows
  rows_none h =
      let q : n - i ≡ 0 = omega arith in
      rw q
