-- What reading a piece gives, one piece after the other, and a row of pieces as the tests that it makes. Assumes nothing.
use mathlib.Core.Path.{◌≡◌, refl, sym, ap, ◌∙◌}
use mathlib.Core.Bool.{Bool, true, false}
use mathlib.Core.List.{List, [], ◌∷◌, ◌++◌, map, append_assoc}
use Prim.Native.Nat.{ℕ, zero, suc, ◌*◌, ◌≤◌}
use native.Mathlib.Omega.{arith}
use native.Mathlib.Nat.{zero-mul, suc-mul}
use lib.Dec.{eqb, leb}
use lib.ListN.{length, drop, length-append}
use borrow.Author.Tests.{eqb-true, eq-eqb, leb-true, le-leb}
use Rattle.std.specs.Prelude.{if◌then◌else◌}
use Rattle.choice.specs.Tests.{refusal, ◌⨾◌}
use Rattle.choice.proofs.Tests.{test-passed, rest-passed, no-refusal, rest-unrefused}
use Rattle.numbers.specs.Coding.{most_of, read_number}
use Rattle.numbers.specs.declared.Limit.{Limit}
use Rattle.std.specs.Prelude.{Ok, Err}
use Rattle.numbers.specs.Coding.{number_to, Read}
use Rattle.forms.specs.Forms.{Outcome, got, refused, Test, test_read, prepend, and_then, row, rows, row_no, rows_no, as_read}

-- numbers and a refusal are not the same
pub refused-got : {r : ℕ} {vs : List ℕ} {next : ℕ} → refused r ≡ got vs next → ⊥
refused-got e = let z : ◌≡◌ {A = ℕ} 0 1 = cc in omega arith

-- ---- one piece and then another

-- no number before a piece
pub prepend-none : (o : Outcome) → prepend [] o ≡ o
unfolding prepend
prepend-none (got vs next) = refl
prepend-none (refused r) = refl

-- numbers before a piece, and others before these
pub prepend-prepend : (us vs : List ℕ) (o : Outcome) → prepend (us ++ vs) o ≡ prepend us (prepend vs o)
unfolding prepend
prepend-prepend us vs (got ws next) = rw append_assoc
prepend-prepend us vs (refused r) = refl

-- numbers before a piece do not change its refusal
pub refused-prepend : (vs : List ℕ) (o : Outcome) {r : ℕ} → prepend vs o ≡ refused r → o ≡ refused r
unfolding prepend
refused-prepend vs (got ws next) e = absurd (refused-got (sym e))
refused-prepend vs (refused s) e = e

-- numbers before a piece stand before what follows it too
pub then-prepend : (vs : List ℕ) (o : Outcome) (f : ℕ → Outcome) → and_then (prepend vs o) f ≡ prepend vs (and_then o f)
unfolding prepend and_then
then-prepend vs (got ws next) f = prepend-prepend vs ws (f next)
then-prepend vs (refused r) f = refl

-- what follows a piece may be told in other words
pub then_same : (o : Outcome) {f g : ℕ → Outcome} → ((n : ℕ) → f n ≡ g n) → and_then o f ≡ and_then o g
unfolding and_then
then_same (got vs next) h = ap (prepend vs) (h next)
then_same (refused r) h = refl

-- three pieces, one after the other
pub then-then : (o : Outcome) (f g : ℕ → Outcome) → and_then (and_then o f) g ≡ and_then o (λ n. and_then (f n) g)
unfolding and_then
then-then (got vs next) f g = then-prepend vs (f next) g
then-then (refused r) f g = refl

-- two pieces that were read: the numbers and the place of each
pub record Both (o : Outcome) (f : ℕ → Outcome) (vs : List ℕ) (next : ℕ) : Type 0 where
  pub us : List ℕ
  pub mid : ℕ
  pub ws : List ℕ
  pub first : o ≡ got us mid
  pub second : f mid ≡ got ws next
  pub all : vs ≡ us ++ ws

-- two pieces are read where each is
pub then-got : (o : Outcome) (f : ℕ → Outcome) {vs : List ℕ} {next : ℕ} → and_then o f ≡ got vs next → Both o f vs next
unfolding and_then prepend
then-got (refused r) f e = absurd (refused-got e)
then-got (got us mid) f {vs} {next} e = go (f mid) refl e
  where
    go : (p : Outcome) → f mid ≡ p → prepend us p ≡ got vs next → Both (got us mid) f vs next
    go (refused r) q h = absurd (refused-got h)
    go (got ws n) q h = record { us = us; mid = mid; ws = ws; first = refl; second = cc; all = cc }

-- a number that was read and passed its test
pub record Passed (test : Test) (r : Read) (vs : List ℕ) (next : ℕ) : Type 0 where
  pub v : ℕ
  pub was : r ≡ number_to v next
  pub passes : test v ≡ 0
  pub alone : vs ≡ v ∷ []

-- a tested number is read where it passes
pub test-got : (test : Test) (r : Read) {vs : List ℕ} {next : ℕ} → test_read test r ≡ got vs next → Passed test r vs next
unfolding test_read
test-got test (Err r) e = absurd (refused-got e)
test-got test (Ok n) {vs} {next} e = go (eqb (test n.value) 0) refl e
  where
    go : (t : Bool) → eqb (test n.value) 0 ≡ t → (if t then got (n.value ∷ []) n.next else refused (test n.value)) ≡ got vs next → Passed test (Ok n) vs next
    go true q h =
        let p : n.next ≡ next = cc in
        record { v = n.value; was = ap (λ (m : ℕ). number_to n.value m) p; passes = eqb-true (test n.value) 0 q; alone = cc }
    go false q h = absurd (refused-got h)

-- a number of a row is read and passes: it is the row's, with the rest from its next place
pub row_cons : (test : Test) (tests : List Test) (limit : Limit) (bytes : List ℕ) (at : ℕ) {v mid : ℕ} → read_number limit bytes at ≡ number_to v mid → test v ≡ 0
    → row (test ∷ tests) limit bytes at ≡ prepend (v ∷ []) (row tests limit bytes mid)
unfolding row test_read and_then
row_cons test tests limit bytes at {v} e p = rw (e, eq-eqb (test v) 0 p)

-- ---- rows as one row

-- the tests of n rows
unfoldable pub times : ℕ → List Test → List Test
times zero tests = []
times (suc n) tests = tests ++ times n tests

-- two rows are a row
pub row-append : (ts us : List Test) (limit : Limit) (bytes : List ℕ) (at : ℕ) → row (ts ++ us) limit bytes at ≡ and_then (row ts limit bytes at) (λ n. row us limit bytes n)
unfolding row and_then
row-append [] us limit bytes at = sym (prepend-none (row us limit bytes at))
row-append (t ∷ ts) us limit bytes at =
    then_same (test_read t (read_number limit bytes at)) (λ n. row-append ts us limit bytes n)
    ∙ sym (then-then (test_read t (read_number limit bytes at)) (λ n. row ts limit bytes n) (λ n. row us limit bytes n))

-- n rows are one row
pub rows_row : (n : ℕ) (tests : List Test) (limit : Limit) (bytes : List ℕ) (at : ℕ) → rows n tests limit bytes at ≡ row (times n tests) limit bytes at
unfolding rows row times
rows_row zero tests limit bytes at = refl
rows_row (suc n) tests limit bytes at =
    then_same (row tests limit bytes at) (λ k. rows_row n tests limit bytes k)
    ∙ sym (row-append tests (times n tests) limit bytes at)

-- how many tests n rows make
pub times-length : (n : ℕ) (tests : List Test) → length (times n tests) ≡ n * length tests
unfolding times
times-length zero tests = sym (zero-mul (length tests))
times-length (suc n) tests = length-append tests (times n tests) ∙ omega (arith, times-length n tests, suc-mul n (length tests))

map-append : (f : Test → Test) (ts us : List Test) → map f (ts ++ us) ≡ map f ts ++ map f us
map-append f [] us = refl
map-append f (t ∷ ts) us = ap {B = List Test} (λ r. f t ∷ r) (map-append f ts us)

-- each test of n rows may be changed in one row
pub times-map : (f : Test → Test) (n : ℕ) (tests : List Test) → map f (times n tests) ≡ times n (map f tests)
unfolding times
times-map f zero tests = refl
times-map f (suc n) tests = map-append f tests (times n tests) ∙ ap (λ (r : List Test). map f tests ++ r) (times-map f n tests)

-- no number is refused where there is none
row-no-nil : (tests : List Test) → row_no tests [] ≡ 0
unfolding row_no
row-no-nil [] = refl
row-no-nil (t ∷ ts) = refl

-- the first refusal of two rows
pub row-no-append : (ts us : List Test) (vs : List ℕ) → row_no (ts ++ us) vs ≡ (refusal (row_no ts vs) ⨾ row_no us (drop (length ts) vs))
unfolding row_no
row-no-append [] us vs = refl
row-no-append (t ∷ ts) us [] = sym (row-no-nil us)
row-no-append (t ∷ ts) us (v ∷ vs) = go (t v) (row-no-append ts us vs)
  where
    go : (n : ℕ) → row_no (ts ++ us) vs ≡ (refusal (row_no ts vs) ⨾ row_no us (drop (length ts) vs))
        → (refusal n ⨾ row_no (ts ++ us) vs) ≡ (refusal (refusal n ⨾ row_no ts vs) ⨾ row_no us (drop (length ts) vs))
    go zero h = h
    go (suc n) h = refl

-- the first refusal of n rows is that of one row
pub rows-no-row : (n : ℕ) (tests : List Test) (vs : List ℕ) → rows_no n tests vs ≡ row_no (times n tests) vs
unfolding rows_no row_no times
rows-no-row zero tests vs = refl
rows-no-row (suc n) tests vs = rw (rows-no-row n tests (drop (length tests) vs)) (sym (row-no-append tests (times n tests) vs))

-- ---- tests

-- a row's tests are passed where the first and the others are
pub row-no-cons : (t : Test) (ts : List Test) (v : ℕ) (vs : List ℕ) → row_no (t ∷ ts) (v ∷ vs) ≡ 0 → (t v ≡ 0) × (row_no ts vs ≡ 0)
unfolding row_no
row-no-cons t ts v vs e = (no-refusal (t v) (row_no ts vs) e, rest-unrefused (t v) (row_no ts vs) e)

-- and the other way round
pub cons-row-no : (t : Test) (ts : List Test) (v : ℕ) (vs : List ℕ) → t v ≡ 0 → row_no ts vs ≡ 0 → row_no (t ∷ ts) (v ∷ vs) ≡ 0
unfolding row_no
cons-row-no t ts v vs p q = rw p q

-- a number passes as the reader tests it where it is within the limit and passes its own test
pub as-read-zero : (limit : Limit) (t : Test) (v : ℕ) → as_read limit t v ≡ 0 → (v ≤ most_of limit) × (t v ≡ 0)
unfolding as_read
as-read-zero limit t v e =
    let within = leb v (most_of limit) in
    (leb-true v (most_of limit) (test-passed 11 within (t v) e), rest-passed 11 within (t v) e)

-- and the other way round
pub zero-as-read : (limit : Limit) (t : Test) (v : ℕ) → v ≤ most_of limit → t v ≡ 0 → as_read limit t v ≡ 0
unfolding as_read
zero-as-read limit t v w p = rw (le-leb v (most_of limit) w) p
