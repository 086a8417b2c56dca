-- The laws of the number coding. Assumes nothing.
use mathlib.Core.Path.{◌≡◌, refl, sym, ap, ◌∙◌}
use mathlib.Core.Bool.{Bool, true, false, ◌&&◌}
use mathlib.Core.List.{List, ◌++◌, append_assoc}
use mathlib.Core.Logic.{◌⊎◌, ⊎_elim, ⊎_map, ◌↔◌}
use Prim.Native.Nat.{ℕ, ◌+◌, ◌-◌, ◌*◌, ◌^◌, ◌<◌, ◌≤◌}
use native.Mathlib.Omega.{arith}
use lib.Dec.{eqb, leb, lit≤}
use lib.ListN.{length, take, drop, get_or, length-drop}
use lib.Seq.{sets, sets-eq, length-take-le, drop-append_seam, get_or-drop}
use borrow.Author.Tests.{leb-true, leb-false, lt-leb, le-leb}
use Rattle.std.specs.Prelude.{Ok, Err}
use Rattle.choice.proofs.Tests.{test-passed}
use Rattle.numbers.specs.declared.Limit.{Limit}
use Rattle.numbers.specs.declared.Limit.TheVariants.{Schedule, Table}
use Rattle.numbers.specs.Coding.{number_to, groups_of, most_of, groups_from, read_number, form_in, form, limit_no, number_written, after_number}
use Rattle.numbers.proofs.Forms.{form-in-some, form-short, form-in-bytes}
use Rattle.numbers.proofs.Groups.{groups-few}
use Rattle.numbers.proofs.Reading.{Reads, Found, reads, reads-form, found-form, reads-refusals, reads-cut, cut-reads}
use Rattle.numbers.proofs.Puts.{put_next, put-length, put-stays, put_refused, put-refusals}
pub use Rattle.numbers.proofs.Forms.{Bytes}
pub use Rattle.numbers.proofs.Reading.{Cut}

-- ---- forms

-- every byte of a form is below 256
pub form-bytes : (v : ℕ) → Bytes (form v)
unfolding form
form-bytes v = form-in-bytes 10 v

-- the form of a number within a limit has at most the limit's groups
pub form-groups : (limit : Limit) (v : ℕ) → v ≤ most_of limit → length (form v) ≤ groups_of limit
unfolding form groups_of most_of
form-groups Schedule v h = form-short 2 10 v (omega arith)
form-groups Table v h = form-short 6 10 v (omega arith)

-- ---- what is written reads back

first_group : (v : ℕ) → (eqb v 0 && false) ≡ false
first_group v = go (eqb v 0)
  where
    go : (t : Bool) → (t && false) ≡ false
    go true = refl
    go false = refl

form-reads : (limit : Limit) (v : ℕ) (after : List ℕ) (i : ℕ) → v ≤ most_of limit → groups_from (groups_of limit) false (most_of limit) 0 1 (form v ++ after) i ≡ number_to (0 + v * 1) (i + length (form v))
unfolding form groups_of most_of
form-reads Schedule v after i h = reads-form 2 9 false 65_535 0 1 v after i (lit≤ tt) (omega arith) (first_group v) (omega arith)
form-reads Table v after i h = reads-form 6 9 false (2 ^ 48 - 1) 0 1 v after i (lit≤ tt) (omega arith) (first_group v) (omega arith)

-- the form of a number within the limit reads as the number, wherever it stands
pub written-reads : (limit : Limit) (v : ℕ) (before after : List ℕ) → v ≤ most_of limit → read_number limit (before ++ (form v ++ after)) (length before) ≡ number_to v (length before + length (form v))
unfolding read_number
written-reads limit v before after h =
    let e : 0 + v * 1 ≡ v = omega arith in
    rw (drop-append_seam before (form v ++ after)) (form-reads limit v after (length before) h ∙ rw e)

-- ---- what a writer answers

-- a number within the limit, and one above it
pub limit-within : (limit : Limit) (v : ℕ) → v ≤ most_of limit → limit_no limit v ≡ 0
unfolding limit_no
limit-within limit v h = rw (le-leb v (most_of limit) h)

pub limit-above : (limit : Limit) (v : ℕ) → most_of limit < v → limit_no limit v ≡ 12
unfolding limit_no
limit-above limit v h = rw (lt-leb v (most_of limit) h)

-- and back
pub within-limit : (limit : Limit) (v : ℕ) → limit_no limit v ≡ 0 → v ≤ most_of limit
unfolding limit_no
within-limit limit v e = leb-true v (most_of limit) (test-passed 11 (leb v (most_of limit)) 0 e)

pub above-limit : (limit : Limit) (v : ℕ) → (limit_no limit v ≡ 0 → ⊥) → most_of limit < v
above-limit limit v h = go (leb v (most_of limit)) refl
  where
    go : (t : Bool) → leb v (most_of limit) ≡ t → most_of limit < v
    go true e = absurd (h (limit-within limit v (leb-true v (most_of limit) e)))
    go false e = leb-false v (most_of limit) e

-- a place n as the answer: the number is within the limit, n is past its form, and the form has been stored
pub record Stored (limit : Limit) (v : ℕ) (d : List ℕ) (at n : ℕ) : Type 0 where
  pub within : v ≤ most_of limit
  pub place : n ≡ at + length (form v)
  pub room : n ≤ length d
  pub buffer : after_number limit v d at ≡ sets d at (form v)

-- what a writer says by a next place
pub write-next : (limit : Limit) (v : ℕ) (d : List ℕ) (at n : ℕ) → number_written limit v d at ≡ Ok n → Stored limit v d at n
write-next limit v d at n e =
    let s = put_next (limit_no limit v) (form v) d at n e in
    record { within = within-limit limit v s.passes; place = s.place; room = s.room; buffer = s.buffer }

-- a number that is written into a buffer reads back there, to the same next place
pub write-then-read : (limit : Limit) (v : ℕ) (d : List ℕ) (at n : ℕ) → number_written limit v d at ≡ Ok n → read_number limit (after_number limit v d at) at ≡ number_to v n
write-then-read limit v d at n e =
    let s = write-next limit v d at n e in
    let room : at + length (form v) ≤ length d = omega (arith, s.place, s.room) in
    let t : length (take at d) ≡ at = length-take-le at d (omega arith) in
    let q = written-reads limit v (take at d) (drop (at + length (form v)) d) s.within in
    rw (s.buffer, sets-eq (form v) d at room, append_assoc, s.place) (rw t at q)

-- writing keeps the length of the buffer
pub write-length : (limit : Limit) (v : ℕ) (d : List ℕ) (at : ℕ) → length (after_number limit v d at) ≡ length d
write-length limit v d at = put-length (limit_no limit v) (form v) d at

-- bytes before the place and from the next place on stay as they were
pub write-stays : (limit : Limit) (v : ℕ) (d : List ℕ) (at n i : ℕ) → number_written limit v d at ≡ Ok n → (i < at) ⊎ (n ≤ i) → get_or (after_number limit v d at) i 0 ≡ get_or d i 0
write-stays limit v d at n i e h = put-stays (limit_no limit v) (form v) d at n i e h

-- a refusal leaves the buffer as it was
pub write-refused : (limit : Limit) (v : ℕ) (d : List ℕ) (at : ℕ) (r : ℕ) → number_written limit v d at ≡ Err r → after_number limit v d at ≡ d
write-refused limit v d at r e = put_refused (limit_no limit v) (form v) d at r e

-- a writer refuses with 12, for a number above the limit, or with 8, for one within it that has no room
pub write-refusals : (limit : Limit) (v : ℕ) (d : List ℕ) (at : ℕ) (r : ℕ) → number_written limit v d at ≡ Err r
    → ((r ≡ 12) × (most_of limit < v)) ⊎ ((r ≡ 8) × (v ≤ most_of limit) × (length d < at + length (form v)))
write-refusals limit v d at r e = ⊎_map above short (put-refusals (limit_no limit v) (form v) d at r e)
  where
    above : (r ≡ limit_no limit v) × (limit_no limit v ≡ 0 → ⊥) → (r ≡ 12) × (most_of limit < v)
    above (p, h) = let l = above-limit limit v h in (p ∙ limit-above limit v l, l)

    short : (r ≡ 8) × (limit_no limit v ≡ 0) × (length d < at + length (form v)) → (r ≡ 8) × (v ≤ most_of limit) × (length d < at + length (form v))
    short (p, z, l) = (p, within-limit limit v z, l)

-- ---- what a number that is read says of the bytes

reading : (limit : Limit) (s : List ℕ) (at : ℕ) → Reads (most_of limit) (groups_of limit) false 0 1 (drop at s) at (read_number limit s at)
unfolding read_number
reading limit s at = reads (groups_of limit) false (most_of limit) 0 1 (drop at s) at

-- the shortest form of v stands at a place of s and ends at n, and v is within the limit
pub record FormAt (limit : Limit) (s : List ℕ) (at v n : ℕ) : Type 0 where
  pub place : n ≡ at + length (form v)
  pub inside : n ≤ length s
  pub bytes : take (length (form v)) (drop at s) ≡ form v
  pub within : v ≤ most_of limit

-- a number is read only from its shortest form
pub read-form : (limit : Limit) (s : List ℕ) (at v n : ℕ) → Bytes s → read_number limit s at ≡ number_to v n → FormAt limit s at v n
unfolding form
read-form limit s at v n b e =
    let h : Bytes (drop at s) = λ (k : ℕ). rw (get_or-drop at s k 0) (b (at + k)) in
    let f : Found 10 false (most_of limit) 0 1 (drop at s) at v n = found-form (reading limit s at) 10 (omega (arith, groups-few limit)) h v n e in
    let x : f.x ≡ v = omega (arith, f.value) in
    let p : n ≡ at + length (form_in 10 v) = rw x at f.place in
    let i : length (form_in 10 v) ≤ length s - at = simp (x, length-drop) at f.inside in
    record { place = p; inside = omega (arith, form-in-some 9 v); bytes = rw x at f.bytes; within = f.within }

-- the bytes of s from i up to n are those of t from j up to m
pub record SameBytes (s : List ℕ) (i n : ℕ) (t : List ℕ) (j m : ℕ) : Type 0 where
  pub size : n - i ≡ m - j
  pub bytes : take (n - i) (drop i s) ≡ take (m - j) (drop j t)

-- a number has one form: where two byte strings read to the same number, they have the same bytes
pub one_form : (limit limit' : Limit) (s t : List ℕ) (i j v n m : ℕ) → Bytes s → Bytes t → read_number limit s i ≡ number_to v n → read_number limit' t j ≡ number_to v m → SameBytes s i n t j m
one_form limit limit' s t i j v n m b c e f =
    let p = read-form limit s i v n b e in
    let q = read-form limit' t j v m c f in
    let a : n - i ≡ length (form v) = omega (arith, p.place) in
    let d : m - j ≡ length (form v) = omega (arith, q.place) in
    record { size = a ∙ sym d; bytes = rw (a, d) (p.bytes ∙ sym q.bytes) }

-- ---- what a reader refuses

-- a reader refuses with 11 or 12
pub refusals : (limit : Limit) (s : List ℕ) (at : ℕ) (r : ℕ) → read_number limit s at ≡ Err r → (r ≡ 11) ⊎ (r ≡ 12)
refusals limit s at r e = reads-refusals (reading limit s at) r e

-- 11 exactly where fewer bytes are left than a number may have groups and each of them has its top bit set
pub eleven : (limit : Limit) (s : List ℕ) (at : ℕ) → (read_number limit s at ≡ Err 11) ↔ Cut (groups_of limit) (drop at s)
eleven limit s at = (reads-cut (reading limit s at), cut-reads (reading limit s at))

-- every other refusal is 12
pub twelve : (limit : Limit) (s : List ℕ) (at : ℕ) (r : ℕ) → read_number limit s at ≡ Err r → (Cut (groups_of limit) (drop at s) → ⊥) → r ≡ 12
twelve limit s at r e h = ⊎_elim (λ (z : r ≡ 11). absurd (h ((eleven limit s at).0 (e ∙ ap Err z)))) (λ (z : r ≡ 12). z) (refusals limit s at r e)
