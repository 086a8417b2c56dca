-- The tests of a scan's numbers, and of the scans of a table. Assumes nothing.
use mathlib.Core.Path.{◌≡◌, refl, sym, ap, ◌∙◌}
use mathlib.Core.Bool.{Bool, true, false}
use mathlib.Core.List.{List, [], ◌∷◌, ◌++◌}
use Prim.Native.Nat.{ℕ, zero, suc, ◌+◌, ◌*◌, ◌%◌, ◌<◌, ◌≤◌}
use native.Mathlib.Omega.{arith}
use lib.Dec.{eqb, leb}
use lib.ListN.{length, drop, get_or, drop_of_length-le}
use lib.Seq.{drop-cons}
use borrow.Author.Tests.{eqb-true, eq-eqb}
use Rattle.choice.specs.Tests.{◌unless◌, refusal, ◌⨾◌, ok}
use Rattle.choice.proofs.Tests.{and_l, and_r, test-passed, rest-passed, no-refusal, rest-unrefused}
use Rattle.sizes.specs.Sizes.{scans_in_range}
use Rattle.numbers.specs.Coding.{most_of, limit_no}
use Rattle.numbers.specs.declared.Limit.TheVariants.{Table}
use Rattle.forms.specs.Forms.{Test, row_no, rows_no, as_read}
use Rattle.scan_table.specs.declared.Scan.{Scan}
use Rattle.scan_table.specs.declared.Tests.{Tests}
use Rattle.scan_table.specs.declared.Tests.TheVariants.{Reading, Writing}
use Rattle.scan_table.specs.Table.{fields_of, scan_at, scans_in, whole_table, table_no, tests_of}

-- ---- one scan

-- a number is tested as the reader would: by the coding's limit, and then by its own test
pub as_read_lem : (test : Test) (v : ℕ) → as_read Table test v ≡ (refusal (limit_no Table v) ⨾ test v)
unfolding as_read limit_no
as_read_lem test v = go (leb v (most_of Table))
  where
    go : (t : Bool) → (12 unless t ⨾ test v) ≡ (refusal (12 unless t ⨾ ok) ⨾ test v)
    go true = refl
    go false = refl

-- there are four tests of a scan
pub four-tests : (tests : Tests) → length (tests_of tests) ≡ 4
four-tests Writing = refl
four-tests Reading = refl

-- ---- the scans of a table

-- one element, and then those after it
drop-next : (l : List ℕ) (i m : ℕ) → m ≡ suc i → i < length l → drop i l ≡ get_or l i 0 ∷ drop m l
drop-next l i m e h = rw e (drop-cons l i 0 h)

-- the scan whose numbers begin at a place
abbrev pub scan_from : List ℕ → ℕ → Scan
scan_from fields n = record { tag = get_or fields n 0; shelf = get_or fields (n + 1) 0; device = get_or fields (n + 2) 0; time = get_or fields (n + 3) 0 }

-- the numbers of a scan, and then those of the scans after it
scan-split : (fields : List ℕ) (n : ℕ) → n + 4 ≤ length fields → drop n fields ≡ fields_of (scan_from fields n) ++ drop (n + 4) fields
scan-split fields n h =
    let a = drop-next fields n (n + 1) (omega arith) (omega arith) in
    let b = drop-next fields (n + 1) (n + 2) (omega arith) (omega arith) in
    let c = drop-next fields (n + 2) (n + 3) (omega arith) (omega arith) in
    let d = drop-next fields (n + 3) (n + 4) (omega arith) (omega arith) in
    rw (a, b, c, d)

-- the tests of a row do not see what stands after it
row-alone : (tests : List Test) (vs rest : List ℕ) → length tests ≤ length vs → row_no tests (vs ++ rest) ≡ row_no tests vs
unfolding row_no
row-alone [] vs rest h = refl
row-alone (t ∷ ts) [] rest h = absurd (omega arith)
row-alone (t ∷ ts) (v ∷ vs) rest h = ap (λ (x : ℕ). refusal (t v) ⨾ x) (row-alone ts vs rest (omega arith))

module _ (tests : List Test) (four : length tests ≡ 4) where
  -- the first refusal of the numbers of a scan and those of the scans after it
  rows-of : (s : Scan) (rest : List ℕ) → rows_no (scans_in (fields_of s ++ rest)) tests (fields_of s ++ rest) ≡ (refusal (row_no tests (fields_of s)) ⨾ rows_no (scans_in rest) tests rest)
  unfolding rows_no
  rows-of s rest =
      let few : length tests ≤ 4 = omega (arith, four) in
      let q : scans_in (fields_of s ++ rest) ≡ suc (scans_in rest) = omega arith in
      rw (q, row-alone tests (fields_of s) rest few, four)

  -- the same, by what four numbers are split off
  pub rows-chunk : (x rest all : List ℕ) → all ≡ x ++ rest → length x ≡ 4
      → rows_no (scans_in all) tests all ≡ (refusal (row_no tests (fields_of (scan_from x 0))) ⨾ rows_no (scans_in rest) tests rest)
  rows-chunk x rest all p e =
      let q : x ≡ fields_of (scan_from x 0) = scan-split x 0 (omega arith) ∙ (let h : length x ≤ 4 = omega arith in rw (drop_of_length-le x h)) in
      ap (λ (l : List ℕ). rows_no (scans_in l) tests l) (p ∙ ap (λ (l : List ℕ). l ++ rest) q) ∙ rows-of (scan_from x 0) rest

module _ (tests : List Test) (four : length tests ≡ 4) (fields : List ℕ) where
  -- the first refusal of rows: that of the first scan, or of the scans after it
  rows-scan : (m n : ℕ) → n + 4 ≤ length fields
      → rows_no (suc m) tests (drop n fields) ≡ (refusal (row_no tests (fields_of (scan_from fields n))) ⨾ rows_no m tests (drop (n + 4) fields))
  unfolding rows_no
  rows-scan m n h =
      let s = scan_from fields n in
      let rest = drop (n + 4) fields in
      let few : length tests ≤ 4 = omega (arith, four) in
      rw (scan-split fields n h, row-alone tests (fields_of s) rest few, four)

  -- where rows pass, each of their scans does
  pub each-scan : (n i k : ℕ) → (i + n) * 4 ≤ length fields → rows_no n tests (drop (i * 4) fields) ≡ 0 → k < n → row_no tests (fields_of (scan_at fields (i + k))) ≡ 0
  unfolding scan_at
  each-scan zero i k h e l = absurd (omega arith)
  each-scan (suc n) i zero h e l =
      let z : i + 0 ≡ i = omega arith in
      let a = row_no tests (fields_of (scan_from fields (i * 4))) in
      rw z (no-refusal a (rows_no n tests (drop (i * 4 + 4) fields)) (sym (rows-scan n (i * 4) (omega arith)) ∙ e))
  each-scan (suc n) i (suc k) h e l =
      let z : i + suc k ≡ suc i + k = omega arith in
      let q : i * 4 + 4 ≡ suc i * 4 = omega arith in
      let a = row_no tests (fields_of (scan_from fields (i * 4))) in
      let r = rest-unrefused a (rows_no n tests (drop (i * 4 + 4) fields)) (sym (rows-scan n (i * 4) (omega arith)) ∙ e) in
      rw z (each-scan n (suc i) k (omega arith) (rw q at r) (omega arith))

-- ---- a table

-- a table whose numbers pass: whole scans, as many as a table may have, each of which passes
pub record Passes (tests : List Test) (fields : List ℕ) : Type 0 where
  pub scans : length fields ≡ scans_in fields * 4
  pub ranged : scans_in_range (scans_in fields) ≡ true
  pub records : rows_no (scans_in fields) tests fields ≡ 0

module _ (tests : List Test) (fields : List ℕ) where
  -- of whole scans in range it is as its scans are
  pub table-whole : length fields % 4 ≡ 0 → scans_in_range (scans_in fields) ≡ true → table_no tests fields ≡ rows_no (scans_in fields) tests fields
  unfolding table_no whole_table
  table-whole e h = rw (eq-eqb (length fields % 4) 0 e, h)

  -- numbers without a refusal are a table that passes
  pub table-passes : table_no tests fields ≡ 0 → Passes tests fields
  unfolding table_no whole_table
  table-passes e =
      let even = eqb (length fields % 4) 0 in
      let sized = scans_in_range (scans_in fields) in
      let w = test-passed 0 (whole_table fields) (rows_no (scans_in fields) tests fields) e in
      let z = eqb-true (length fields % 4) 0 (and_l even sized w) in
      record {
        scans = omega arith;
        ranged = and_r even sized w;
        records = rest-passed 0 (whole_table fields) (rows_no (scans_in fields) tests fields) e;
      }

  -- whole scans whose rows pass are without a refusal
  pub rows_pass : (s : ℕ) → length fields ≡ s * 4 → scans_in_range s ≡ true → rows_no s tests fields ≡ 0 → table_no tests fields ≡ 0
  rows_pass s l r e =
      let q : scans_in fields ≡ s = omega arith in
      table-whole (omega arith) (rw q r) ∙ rw q e
