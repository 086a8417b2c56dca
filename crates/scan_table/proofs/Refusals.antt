-- What a reader of written forms refuses with, and what a row of tests gives: whatever holds of each of its refusals. Assumes nothing.
use mathlib.Core.Path.{◌≡◌, refl, sym}
use mathlib.Core.Bool.{Bool, true, false}
use mathlib.Core.List.{List, [], ◌∷◌, map}
use mathlib.Core.Logic.{⊎_elim}
use Prim.Native.Nat.{ℕ, zero, suc}
use lib.Dec.{eqb, ltb, leb}
use lib.ListN.{length, drop}
use borrow.Author.Tests.{eqb-false}
use Rattle.std.specs.Prelude.{Result, Ok, Err, if◌then◌else◌}
use Rattle.choice.specs.Tests.{◌unless◌, refusal, ◌⨾◌, ok}
use Rattle.numbers.specs.Coding.{most_of, read_number}
use Rattle.numbers.specs.declared.Limit.{Limit}
use Rattle.numbers.specs.declared.Number.{Number}
use Rattle.numbers.proofs.CodingLaws.{refusals}
use Rattle.forms.specs.Forms.{Outcome, got, refused, Test, test_read, prepend, and_then, row, rows, FormRead, read_as, unread, read_unless, whole, row_no, rows_no, as_read}
use Rattle.forms.proofs.Outcomes.{refused-got}
use Rattle.forms.proofs.Rooms.{unread-read}

-- every refusal of a test has P
abbrev pub Gives : (ℕ → Type 0) → Test → Type 0
Gives P test = (v : ℕ) → (test v ≡ 0 → ⊥) → P (test v)

-- every refusal of an outcome has P
abbrev pub Refuses : (ℕ → Type 0) → Outcome → Type 0
Refuses P o = (r : ℕ) → o ≡ refused r → P r

-- every refusal of a form has P
abbrev pub Unreads : {H : Type 0} → (ℕ → Type 0) → FormRead H → Type 0
Unreads P f = (r : ℕ) → f ≡ unread r → P r

-- every refusal of each test of a row has P
pub data All (P : ℕ → Type 0) : List Test → Type 0 where
  ended : All P []
  and : {test : Test} {tests : List Test} → Gives P test → All P tests → All P (test ∷ tests)

module _ (P : ℕ → Type 0) where
  -- ---- tests

  -- a test with its refusal, and the tests after it
  pub gives_then : (n : ℕ) (t : Bool) (rest : ℕ) → P n → ((rest ≡ 0 → ⊥) → P rest) → ((n unless t ⨾ rest) ≡ 0 → ⊥) → P (n unless t ⨾ rest)
  gives_then n true rest p q h = q h
  gives_then n false rest p q h = p

  -- one test
  pub gives_one : (n : ℕ) (t : Bool) → P n → ((n unless t ⨾ ok) ≡ 0 → ⊥) → P (n unless t ⨾ ok)
  gives_one n t p = gives_then n t 0 p (λ h. absurd (h refl))

  -- the first of two refusals
  pub gives-first : (a b : ℕ) → ((a ≡ 0 → ⊥) → P a) → ((b ≡ 0 → ⊥) → P b) → ((refusal a ⨾ b) ≡ 0 → ⊥) → P (refusal a ⨾ b)
  gives-first zero b p q h = q h
  gives-first (suc a) b p q h = p h

  -- a number that is tested as the reader would
  as-read-gives : (limit : Limit) (test : Test) → P 12 → Gives P test → Gives P (as_read limit test)
  unfolding as_read
  as-read-gives limit test p g v h = gives_then 12 (leb v (most_of limit)) (test v) p (g v) h

  -- a row that is tested as the reader would
  pub all-as-read : (limit : Limit) {tests : List Test} → P 12 → All P tests → All P (map (as_read limit) tests)
  all-as-read limit p ended = ended
  all-as-read limit p (and {test = test} g a) = and (as-read-gives limit test p g) (all-as-read limit p a)

  -- the first refusal of a row's numbers
  row_gives : {tests : List Test} → All P tests → (vs : List ℕ) → (row_no tests vs ≡ 0 → ⊥) → P (row_no tests vs)
  unfolding row_no
  row_gives ended vs h = absurd (h refl)
  row_gives (and g a) [] h = absurd (h refl)
  row_gives (and {test = test} {tests = tests} g a) (v ∷ vs) h = gives-first (test v) (row_no tests vs) (g v) (row_gives a vs) h

  -- the first refusal of rows
  pub rows-give : {tests : List Test} → All P tests → (n : ℕ) (vs : List ℕ) → (rows_no n tests vs ≡ 0 → ⊥) → P (rows_no n tests vs)
  unfolding rows_no
  rows-give a zero vs h = absurd (h refl)
  rows-give {tests} a (suc n) vs h = gives-first (row_no tests vs) (rows_no n tests (drop (length tests) vs)) (row_gives a vs) (rows-give a n (drop (length tests) vs)) h

  -- ---- reading

  -- numbers before a piece
  pub prepend-refuses : (vs : List ℕ) (o : Outcome) → Refuses P o → Refuses P (prepend vs o)
  unfolding prepend
  prepend-refuses vs (got ws next) h r e = absurd (refused-got (sym e))
  prepend-refuses vs (refused q) h r e = h r e

  -- a piece, and then another
  pub then-refuses : (o : Outcome) (f : ℕ → Outcome) → Refuses P o → ((n : ℕ) → Refuses P (f n)) → Refuses P (and_then o f)
  unfolding and_then
  then-refuses (got vs next) f a b = prepend-refuses vs (f next) (b next)
  then-refuses (refused q) f a b = a

  -- a number that cannot be read, or does not pass
  test-refuses : (test : Test) (x : Result Number ℕ) → ((q : ℕ) → x ≡ Err q → P q) → Gives P test → Refuses P (test_read test x)
  unfolding test_read
  test-refuses test (Err q) a g r e =
      let p : q ≡ r = cc in
      rw (← p) (a q refl)
  test-refuses test (Ok n) a g r e = go (eqb (test n.value) 0) refl r e
    where
      go : (t : Bool) → eqb (test n.value) 0 ≡ t → Refuses P (if t then got (n.value ∷ []) n.next else refused (test n.value))
      go true h r e = absurd (refused-got (sym e))
      go false h r e =
          let p : test n.value ≡ r = cc in
          rw (← p) (g n.value (eqb-false (test n.value) 0 h))

  module _ (limit : Limit) (bytes : List ℕ) (eleven : P 11) (twelve : P 12) where
    -- a number
    pub read-refuses : (at : ℕ) (q : ℕ) → read_number limit bytes at ≡ Err q → P q
    read-refuses at q e = ⊎_elim (λ (h : q ≡ 11). rw h eleven) (λ (h : q ≡ 12). rw h twelve) (refusals limit bytes at q e)

    -- a row
    pub row-refuses : {tests : List Test} → All P tests → (at : ℕ) → Refuses P (row tests limit bytes at)
    unfolding row
    row-refuses ended at r e = absurd (refused-got (sym e))
    row-refuses (and {test = test} {tests = tests} g a) at r e =
        let x = read_number limit bytes at in
        then-refuses (test_read test x) (λ n. row tests limit bytes n) (test-refuses test x (read-refuses at) g) (row-refuses a) r e

    -- rows
    pub rows-refuses : {tests : List Test} → All P tests → (n at : ℕ) → Refuses P (rows n tests limit bytes at)
    unfolding rows
    rows-refuses a zero at r e = absurd (refused-got (sym e))
    rows-refuses {tests} a (suc n) at r e = then-refuses (row tests limit bytes at) (λ k. rows n tests limit bytes k) (row-refuses a at) (rows-refuses a n) r e

  -- bytes that follow
  pub whole-refuses : {H : Type 0} (bytes : List ℕ) (header : H) (o : Outcome) → P 13 → Refuses P o → Unreads P (whole bytes header o)
  unfolding whole
  whole-refuses bytes header (refused q) p h r e =
      let t : q ≡ r = cc in
      rw (← t) (h q refl)
  whole-refuses bytes header (got vs next) p h r e = go (ltb next (length bytes)) r e
    where
      go : (t : Bool) → Unreads P (if t then unread 13 else read_as header vs)
      go false r e = absurd (unread-read (sym e))
      go true r e =
          let q : 13 ≡ r = cc in
          rw (← q) p

  -- a refusal, and then a form
  pub unless-refuses : {H : Type 0} (n : ℕ) (f : FormRead H) → ((n ≡ 0 → ⊥) → P n) → Unreads P f → Unreads P (read_unless n f)
  unless-refuses n f p h = go (eqb n 0) refl
    where
      go : (t : Bool) → eqb n 0 ≡ t → Unreads P (if t then f else unread n)
      go true z r e = h r e
      go false z r e =
          let q : n ≡ r = cc in
          rw (← q) (p (eqb-false n 0 z))
