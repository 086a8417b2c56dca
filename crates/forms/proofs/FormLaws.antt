-- The laws of the pieces of written forms. Assumes nothing.
use mathlib.Core.Path.{◌≡◌, refl, sym, ap, ◌∙◌}
use mathlib.Core.Bool.{true}
use mathlib.Core.List.{List, [], ◌∷◌, ◌++◌, map, append_assoc, append-nil}
use Prim.Native.Nat.{ℕ, zero, suc, ◌+◌, ◌*◌, ◌≤◌}
use native.Mathlib.Omega.{arith}
use native.Mathlib.Nat.{mul-suc, add-zero}
use lib.Dec.{leb}
use lib.ListN.{length, take, drop, length-append}
use lib.Seq.{take-add, drop-drop, take_all}
use borrow.Author.Tests.{leb-true, le-leb}
use Rattle.numbers.specs.Coding.{groups_of, most_of, read_number, form}
use Rattle.numbers.specs.declared.Limit.{Limit}
use Rattle.numbers.proofs.CodingLaws.{written-reads, read-form, form-groups, form-bytes}
use Rattle.forms.specs.Forms.{got, Test, test_read, prepend, row, rows, then_numbers, numbers_at, forms, row_no, rows_no, as_read, all_within}
use Rattle.choice.proofs.Tests.{and_l, and_r}
use Rattle.numbers.specs.Coding.{number_to}
use Rattle.forms.proofs.Outcomes.{row_cons, times, rows_row, times-length, times-map, rows-no-row, row-no-cons, cons-row-no, as-read-zero, zero-as-read}
pub use Rattle.numbers.proofs.CodingLaws.{Bytes}
pub use Rattle.forms.proofs.Outcomes.{Both, then-got, then-then, then_same, Passed, test-got}

-- ---- a row, number by number

-- the numbers vs stand from a place of the bytes up to the next, one for each test, and pass
pub data Run (limit : Limit) (bytes : List ℕ) : List Test → ℕ → List ℕ → ℕ → Type 0 where
  none : {at : ℕ} → Run limit bytes [] at [] at
  one : {test : Test} {tests : List Test} {at v mid next : ℕ} {vs : List ℕ} → read_number limit bytes at ≡ number_to v mid → test v ≡ 0 → Run limit bytes tests mid vs next → Run limit bytes (test ∷ tests) at (v ∷ vs) next

-- a row that was read is such a run
pub row-run : (tests : List Test) (limit : Limit) (bytes : List ℕ) (at : ℕ) {vs : List ℕ} {next : ℕ} → row tests limit bytes at ≡ got vs next → Run limit bytes tests at vs next
unfolding row
row-run [] limit bytes at {vs} {next} e =
    let p : at ≡ next = cc in
    let q : [] ≡ vs = cc in
    rw (← p, ← q) none
row-run (t ∷ ts) limit bytes at {vs} {next} e =
    let b = then-got (test_read t (read_number limit bytes at)) (λ n. row ts limit bytes n) e in
    let f = test-got t (read_number limit bytes at) b.first in
    let q : vs ≡ f.v ∷ b.ws = b.all ∙ ap (λ (l : List ℕ). l ++ b.ws) f.alone in
    rw q (one f.was f.passes (row-run ts limit bytes b.mid b.second))

-- and such a run is a row that is read
pub run_row : {limit : Limit} {bytes : List ℕ} {tests : List Test} {at : ℕ} {vs : List ℕ} {next : ℕ} → Run limit bytes tests at vs next → row tests limit bytes at ≡ got vs next
unfolding row prepend
run_row none = refl
run_row {limit = limit} {bytes = bytes} (one {test = test} {tests = tests} {at = at} {v = v} {mid = mid} e p r) = row_cons test tests limit bytes at e p ∙ ap (prepend (v ∷ [])) (run_row r)

-- ---- taking and passing over what was read

run-numbers : {limit : Limit} {bytes : List ℕ} {tests : List Test} {at : ℕ} {vs : List ℕ} {next : ℕ} → Run limit bytes tests at vs next → numbers_at (length vs) limit bytes at ≡ vs
unfolding numbers_at then_numbers
run-numbers none = refl
run-numbers (one {v = v} e p r) = rw e (ap {B = List ℕ} (λ l. v ∷ l) (run-numbers r))

-- a run of rows
rows_run : (n : ℕ) (tests : List Test) (limit : Limit) (bytes : List ℕ) (at : ℕ) {vs : List ℕ} {next : ℕ} → rows n tests limit bytes at ≡ got vs next → Run limit bytes (times n tests) at vs next
rows_run n tests limit bytes at e = row-run (times n tests) limit bytes at (sym (rows_row n tests limit bytes at) ∙ e)

-- the numbers of a row that was read are those that are taken
pub numbers-of-row : (tests : List Test) (limit : Limit) (bytes : List ℕ) (at : ℕ) {vs : List ℕ} {next : ℕ} → row tests limit bytes at ≡ got vs next → numbers_at (length vs) limit bytes at ≡ vs
numbers-of-row tests limit bytes at e = run-numbers (row-run tests limit bytes at e)

-- the numbers of rows that were read are those that are taken
pub numbers-of-rows : (n : ℕ) (tests : List Test) (limit : Limit) (bytes : List ℕ) (at : ℕ) {vs : List ℕ} {next : ℕ} → rows n tests limit bytes at ≡ got vs next → numbers_at (length vs) limit bytes at ≡ vs
numbers-of-rows n tests limit bytes at e = run-numbers (rows_run n tests limit bytes at e)

-- ---- what is written reads back

reads-run : (tests : List Test) (limit : Limit) (vs : List ℕ) → length vs ≡ length tests → row_no (map (as_read limit) tests) vs ≡ 0 → (before after : List ℕ)
    → Run limit (before ++ (forms vs ++ after)) tests (length before) vs (length before + length (forms vs))
unfolding forms
reads-run [] limit [] l z before after = rw (add-zero (length before)) none
reads-run [] limit (v ∷ vs) l z before after = absurd (omega arith)
reads-run (t ∷ ts) limit [] l z before after = absurd (omega arith)
reads-run (t ∷ ts) limit (v ∷ vs) l z before after =
    let p = row-no-cons (as_read limit t) (map (as_read limit) ts) v vs z in
    let w = as-read-zero limit t v p.0 in
    let e : before ++ (form v ++ forms vs ++ after) ≡ before ++ form v ++ (forms vs ++ after) = simp append_assoc in
    let n : length before + length (form v ++ forms vs) ≡ length (before ++ form v) + length (forms vs) = simp length-append (omega arith) in
    let r : read_number limit (before ++ form v ++ (forms vs ++ after)) (length before) ≡ number_to v (length (before ++ form v)) = rw (append_assoc before (form v) (forms vs ++ after), length-append before (form v)) (written-reads limit v before (forms vs ++ after) w.0) in
    rw (e, n) (one r w.1 (reads-run ts limit vs (omega arith) p.1 (before ++ form v) after))

-- the tests of rows, as those of one row
times-tested : (n : ℕ) (tests : List Test) (limit : Limit) (vs : List ℕ) → row_no (map (as_read limit) (times n tests)) vs ≡ rows_no n (map (as_read limit) tests) vs
times-tested n tests limit vs = ap (λ (ts : List Test). row_no ts vs) (times-map (as_read limit) n tests) ∙ sym (rows-no-row n (map (as_read limit) tests) vs)

-- the forms of numbers that pass a row's tests read as the row, wherever they stand
pub row_reads : (tests : List Test) (limit : Limit) (vs : List ℕ) → length vs ≡ length tests → row_no (map (as_read limit) tests) vs ≡ 0 → (before after : List ℕ)
    → row tests limit (before ++ (forms vs ++ after)) (length before) ≡ got vs (length before + length (forms vs))
row_reads tests limit vs l z before after = run_row (reads-run tests limit vs l z before after)

-- the forms of numbers that pass the tests of n rows read as the rows, wherever they stand
pub rows-reads : (n : ℕ) (tests : List Test) (limit : Limit) (vs : List ℕ) → length vs ≡ n * length tests → rows_no n (map (as_read limit) tests) vs ≡ 0 → (before after : List ℕ)
    → rows n tests limit (before ++ (forms vs ++ after)) (length before) ≡ got vs (length before + length (forms vs))
rows-reads n tests limit vs l z before after =
    rows_row n tests limit (before ++ (forms vs ++ after)) (length before)
    ∙ row_reads (times n tests) limit vs (l ∙ sym (times-length n tests)) (times-tested n tests limit vs ∙ z) before after

-- ---- forms one after the other

-- the forms of numbers and then of others
pub forms-append : (us vs : List ℕ) → forms (us ++ vs) ≡ forms us ++ forms vs
unfolding forms
forms-append [] vs = refl
forms-append (u ∷ us) vs = rw (forms-append us vs) (sym (append_assoc (form u) (forms us) (forms vs)))

-- the forms of numbers within a limit have at most the limit's groups each
pub forms-length : (limit : Limit) (vs : List ℕ) → all_within limit vs ≡ true → length (forms vs) ≤ groups_of limit * length vs
unfolding forms all_within
forms-length limit [] h = omega arith
forms-length limit (v ∷ vs) h =
    let w = leb-true v (most_of limit) (and_l (leb v (most_of limit)) (all_within limit vs) h) in
    let r = forms-length limit vs (and_r (leb v (most_of limit)) (all_within limit vs) h) in
    rw (mul-suc (groups_of limit) (length vs), length-append (form v) (forms vs)) (omega (arith, form-groups limit v w))

bytes-append : (s t : List ℕ) → Bytes s → Bytes t → Bytes (s ++ t)
bytes-append [] t h k i = k i
bytes-append (x ∷ s) t h k zero = h zero
bytes-append (x ∷ s) t h k (suc i) = bytes-append s t (λ (j : ℕ). h (suc j)) k i

-- forms are bytes
pub forms-bytes : (vs : List ℕ) → Bytes (forms vs)
unfolding forms
forms-bytes [] i = omega arith
forms-bytes (v ∷ vs) i = bytes-append (form v) (forms vs) (form-bytes v) (forms-bytes vs) i

-- numbers that pass a row's tests are within the limit
pub row_within : (tests : List Test) (limit : Limit) (vs : List ℕ) → length vs ≡ length tests → row_no (map (as_read limit) tests) vs ≡ 0 → all_within limit vs ≡ true
unfolding all_within
row_within [] limit [] l z = refl
row_within [] limit (v ∷ vs) l z = absurd (omega arith)
row_within (t ∷ ts) limit [] l z = refl
row_within (t ∷ ts) limit (v ∷ vs) l z =
    let p = row-no-cons (as_read limit t) (map (as_read limit) ts) v vs z in
    rw (le-leb v (most_of limit) (as-read-zero limit t v p.0).0) (row_within ts limit vs (omega arith) p.1)

-- numbers that pass the tests of rows are within the limit
pub rows-within : (n : ℕ) (tests : List Test) (limit : Limit) (vs : List ℕ) → length vs ≡ n * length tests → rows_no n (map (as_read limit) tests) vs ≡ 0 → all_within limit vs ≡ true
rows-within n tests limit vs l z = row_within (times n tests) limit vs (l ∙ sym (times-length n tests)) (times-tested n tests limit vs ∙ z)

-- ---- what a row that is read says of the bytes

-- the forms of vs stand at a place of s and end at the next
pub record Stands (s : List ℕ) (at : ℕ) (vs : List ℕ) (next : ℕ) : Type 0 where
  pub place : next ≡ at + length (forms vs)
  pub inside : at ≤ length s → next ≤ length s
  pub bytes : take (length (forms vs)) (drop at s) ≡ forms vs

-- no numbers stand at every place
pub stands-none : (s : List ℕ) (at : ℕ) → Stands s at [] at
unfolding forms
stands-none s at = record { place = sym (add-zero at); inside = λ h. h; bytes = refl }

-- numbers stand, and then others
pub stands-append : {s us ws : List ℕ} {at mid next : ℕ} → Stands s at us mid → Stands s mid ws next → Stands s at (us ++ ws) next
stands-append {s} {us} {ws} {at} {mid} {next} x y =
    let l : length (forms (us ++ ws)) ≡ length (forms us) + length (forms ws) = rw (forms-append us ws) (length-append (forms us) (forms ws)) in
    let b : take (length (forms ws)) (drop (length (forms us)) (drop at s)) ≡ forms ws = rw (drop-drop (length (forms us)) at s, ← x.place) y.bytes in
    record {
      place = omega (arith, x.place, y.place);
      inside = λ h. y.inside (x.inside h);
      bytes = rw (l, take-add (length (forms us)) (length (forms ws)) (drop at s), x.bytes, b) (sym (forms-append us ws));
    }

-- a number that is read stands there
pub stands_one : (limit : Limit) (s : List ℕ) (at v next : ℕ) → Bytes s → read_number limit s at ≡ number_to v next → Stands s at (v ∷ []) next
unfolding forms
stands_one limit s at v next b e =
    let f = read-form limit s at v next b e in
    record {
      place = rw (append-nil (form v)) f.place;
      inside = λ h. f.inside;
      bytes = rw (append-nil (form v)) f.bytes;
    }

-- a row that was read: a number for each test, all of them pass, and their forms stand there
pub record RowAt (tests : List Test) (limit : Limit) (s : List ℕ) (at : ℕ) (vs : List ℕ) (next : ℕ) : Type 0 where
  pub count : length vs ≡ length tests
  pub tested : row_no (map (as_read limit) tests) vs ≡ 0
  pub stands : Stands s at vs next

run-forms : {limit : Limit} {s : List ℕ} {tests : List Test} {at : ℕ} {vs : List ℕ} {next : ℕ} → Bytes s → Run limit s tests at vs next → RowAt tests limit s at vs next
unfolding row_no
run-forms {s = s} {at = at} b none = record { count = refl; tested = refl; stands = stands-none s at }
run-forms {limit = limit} {s = s} b (one {test = test} {tests = tests} {at = at} {v = v} {mid = mid} {vs = vs} e p r) =
    let i = run-forms b r in
    let w = (read-form limit s at v mid b e).within in
    record {
      count = ap suc i.count;
      tested = cons-row-no (as_read limit test) (map (as_read limit) tests) v vs (zero-as-read limit test v w p) i.tested;
      stands = stands-append (stands_one limit s at v mid b e) i.stands;
    }

-- a row is read only from the forms of numbers that pass its tests
pub row-forms : (tests : List Test) (limit : Limit) (s : List ℕ) (at : ℕ) {vs : List ℕ} {next : ℕ} → Bytes s → row tests limit s at ≡ got vs next → RowAt tests limit s at vs next
row-forms tests limit s at b e = run-forms b (row-run tests limit s at e)

-- n rows that were read
pub record RowsAt (n : ℕ) (tests : List Test) (limit : Limit) (s : List ℕ) (at : ℕ) (vs : List ℕ) (next : ℕ) : Type 0 where
  pub count : length vs ≡ n * length tests
  pub tested : rows_no n (map (as_read limit) tests) vs ≡ 0
  pub stands : Stands s at vs next

-- rows are read only from the forms of numbers that pass their tests
pub rows-forms : (n : ℕ) (tests : List Test) (limit : Limit) (s : List ℕ) (at : ℕ) {vs : List ℕ} {next : ℕ} → Bytes s → rows n tests limit s at ≡ got vs next → RowsAt n tests limit s at vs next
rows-forms n tests limit s at {vs} b e =
    let r = run-forms b (rows_run n tests limit s at e) in
    record {
      count = r.count ∙ times-length n tests;
      tested = sym (times-tested n tests limit vs) ∙ r.tested;
      stands = r.stands;
    }

-- ---- the whole of the bytes

-- the bytes are the forms that stand from their start to their end
pub stands-whole : {s vs : List ℕ} {next : ℕ} → Stands s 0 vs next → length s ≤ next → s ≡ forms vs
stands-whole {s} {vs} x h = sym (take_all (length (forms vs)) s (omega (arith, x.place))) ∙ x.bytes
