-- The six numbers of a schedule, and numbers that are not tested. Assumes nothing.
use mathlib.Core.Path.{◌≡◌, refl, sym, ap, ◌∙◌}
use mathlib.Core.Bool.{true}
use mathlib.Core.List.{List, [], ◌∷◌, ◌++◌, map, append-nil}
use mathlib.Core.Logic.{◌⊎◌}
use Prim.Native.Nat.{ℕ, zero, suc, ◌+◌, ◌≤◌}
use native.Mathlib.Omega.{arith}
use lib.Dec.{leb}
use lib.ListN.{length, length-append, get_or, replicate, length-replicate, drop_of_length-le}
use lib.Seq.{sets, sets-eq}
use borrow.Author.Tests.{leb-true}
use Rattle.numbers.specs.Coding.{most_of, read_number, form}
use Rattle.numbers.specs.declared.Limit.{Limit}
use Rattle.numbers.proofs.CodingLaws.{refusals}
use Rattle.numbers.proofs.Forms.{form-in-most}
use Rattle.forms.specs.Forms.{got, refused, Test, test_read, and_then, row, untested, plain, numbers_at, forms, row_no, as_read, all_within}
use Rattle.choice.proofs.Tests.{and_l, and_r}
use Rattle.forms.proofs.Outcomes.{refused-got, refused-prepend, cons-row-no, zero-as-read}
use Rattle.forms.proofs.FormLaws.{Bytes, Run, none, one, row-run, numbers-of-row, row_reads, row-forms, row_within}
use Rattle.schedule.specs.Schedule.{header_of, numbers_of}
use Rattle.std.specs.Prelude.{Ok, Err}
use Rattle.numbers.specs.Coding.{Read}
use Rattle.schedule.specs.declared.Header.{Header}

-- a form has at most ten bytes
form-most : (v : ℕ) → length (form v) ≤ 10
unfolding form
form-most v = form-in-most 10 v

-- ---- numbers that are not tested

run-count : {limit : Limit} {bytes : List ℕ} {tests : List Test} {at : ℕ} {vs : List ℕ} {next : ℕ} → Run limit bytes tests at vs next → length vs ≡ length tests
run-count none = refl
run-count (one e p r) = ap suc (run-count r)

-- as many are read as are asked for
pub plain-count : (n : ℕ) (limit : Limit) (bytes : List ℕ) (at : ℕ) {vs : List ℕ} {next : ℕ} → plain n limit bytes at ≡ got vs next → length vs ≡ n
plain-count n limit bytes at e = run-count (row-run (replicate n untested) limit bytes at e) ∙ length-replicate n untested

-- and they are those that are taken
pub plain-numbers : (n : ℕ) (limit : Limit) (bytes : List ℕ) (at : ℕ) {vs : List ℕ} {next : ℕ} → plain n limit bytes at ≡ got vs next → numbers_at n limit bytes at ≡ vs
plain-numbers n limit bytes at e = rw (plain-count n limit bytes at e) at (numbers-of-row (replicate n untested) limit bytes at e)

-- they are within the limit
pub plain-within : (n : ℕ) (limit : Limit) (bytes : List ℕ) (at : ℕ) {vs : List ℕ} {next : ℕ} → Bytes bytes → plain n limit bytes at ≡ got vs next → all_within limit vs ≡ true
plain-within n limit bytes at {vs} b e =
    let r = row-forms (replicate n untested) limit bytes at b e in
    row_within (replicate n untested) limit vs r.count r.tested

-- each of numbers within the limit is
pub within-at : (limit : Limit) (vs : List ℕ) → all_within limit vs ≡ true → (k : ℕ) → get_or vs k 0 ≤ most_of limit
unfolding all_within
within-at limit [] h k = omega arith
within-at limit (v ∷ vs) h zero = leb-true v (most_of limit) (and_l (leb v (most_of limit)) (all_within limit vs) h)
within-at limit (v ∷ vs) h (suc k) = within-at limit vs (and_r (leb v (most_of limit)) (all_within limit vs) h) k

-- numbers within the limit pass as numbers that are not tested
within-tested : (limit : Limit) (vs : List ℕ) → all_within limit vs ≡ true → row_no (map (as_read limit) (replicate (length vs) untested)) vs ≡ 0
unfolding all_within row_no
within-tested limit [] h = refl
within-tested limit (v ∷ vs) h =
    let w = leb-true v (most_of limit) (and_l (leb v (most_of limit)) (all_within limit vs) h) in
    let r = within-tested limit vs (and_r (leb v (most_of limit)) (all_within limit vs) h) in
    cons-row-no (as_read limit untested) (map (as_read limit) (replicate (length vs) untested)) v vs (zero-as-read limit untested v w refl) r

-- the forms of numbers within the limit read as these numbers, wherever they stand
pub plain-reads : (limit : Limit) (vs : List ℕ) → all_within limit vs ≡ true → (before after : List ℕ)
    → plain (length vs) limit (before ++ (forms vs ++ after)) (length before) ≡ got vs (length before + length (forms vs))
plain-reads limit vs h before after =
    row_reads (replicate (length vs) untested) limit vs (sym (length-replicate (length vs) untested)) (within-tested limit vs h) before after

-- they are refused with 11 or 12
pub plain-refusals : (n : ℕ) (limit : Limit) (bytes : List ℕ) (at : ℕ) {r : ℕ} → plain n limit bytes at ≡ refused r → (r ≡ 11) ⊎ (r ≡ 12)
unfolding row and_then test_read
plain-refusals zero limit bytes at e = absurd (refused-got (sym e))
plain-refusals (suc n) limit bytes at {r} e = go (read_number limit bytes at) refl e (λ next. plain-refusals n limit bytes next)
  where
    go : (a : Read) → read_number limit bytes at ≡ a → and_then (test_read untested a) (λ next. plain n limit bytes next) ≡ refused r
        → ((next : ℕ) → plain n limit bytes next ≡ refused r → (r ≡ 11) ⊎ (r ≡ 12)) → (r ≡ 11) ⊎ (r ≡ 12)
    go (Ok m) q h more = more m.next (refused-prepend (m.value ∷ []) (plain n limit bytes m.next) h)
    go (Err s) q h more = let p : s ≡ r = cc in refusals limit bytes at r (rw p at q)

-- ---- the six

-- numbers that fill a room are all it holds after
pub sets-whole : (room vs : List ℕ) → length vs ≡ length room → sets room 0 vs ≡ vs
sets-whole room vs e = sets-eq vs room 0 (omega arith) ∙ rw (drop_of_length-le room {i = 0 + length vs} (omega arith)) (append-nil vs)

-- six numbers make a header of which they are the numbers
pub six-numbers : (six : List ℕ) → length six ≡ 6 → numbers_of (header_of six) ≡ six
unfolding numbers_of header_of
six-numbers (p ∷ a ∷ l ∷ m ∷ s ∷ e ∷ []) h = refl
six-numbers [] h = absurd (omega arith)
six-numbers (p ∷ []) h = absurd (omega arith)
six-numbers (p ∷ a ∷ []) h = absurd (omega arith)
six-numbers (p ∷ a ∷ l ∷ []) h = absurd (omega arith)
six-numbers (p ∷ a ∷ l ∷ m ∷ []) h = absurd (omega arith)
six-numbers (p ∷ a ∷ l ∷ m ∷ s ∷ []) h = absurd (omega arith)
six-numbers (p ∷ a ∷ l ∷ m ∷ s ∷ e ∷ x ∷ xs) h = absurd (omega arith)

-- the numbers of a header make it
pub header-numbers : (h : Header) → header_of (numbers_of h) ≡ h
unfolding numbers_of header_of
header-numbers h = refl

-- they are six
pub six-count : (h : Header) → length (numbers_of h) ≡ 6
unfolding numbers_of
six-count h = refl

-- their forms have at most ten bytes each
pub six-most : (h : Header) → length (forms (numbers_of h)) ≤ 60
unfolding forms numbers_of
six-most h =
    simp length-append (
    omega (
      arith,
      form-most h.sizes.proposers,
      form-most h.sizes.acceptors,
      form-most h.sizes.learners,
      form-most h.sizes.slots,
      form-most h.sizes.scans,
      form-most h.events,
    )
    )
