-- What bytes that follow change in what a schedule is read as, and how many bytes decide it. Assumes nothing.
use mathlib.Core.Path.{◌≡◌, refl, sym, ap, ◌∙◌}
use mathlib.Core.Bool.{Bool, true, false}
use mathlib.Core.List.{List, [], ◌∷◌, ◌++◌}
use mathlib.Core.Logic.{◌⊎◌, inl, inr}
use Prim.Native.Nat.{ℕ, zero, suc, ◌*◌, ◌≤◌, ◌<◌}
use native.Mathlib.Omega.{arith}
use lib.Dec.{eqb, ltb}
use lib.ListN.{length, take, drop, replicate, length-append, take-append-drop}
use lib.Seq.{take_all, length-take-le}
use borrow.Author.Tests.{ltb-true, ltb-false, lt-ltb, eq-eqb}
use Rattle.std.specs.Prelude.{if◌then◌else◌}
use Rattle.numbers.specs.Coding.{groups_of}
use Rattle.numbers.specs.declared.Limit.TheVariants as limit
use Rattle.forms.specs.Forms.{Outcome, got, refused, untested, plain, FormRead, read_as, unread, whole, forms}
use Rattle.forms.proofs.Outcomes.{refused-got}
use Rattle.forms.proofs.FormLaws.{Bytes, row-forms}
use Rattle.forms.proofs.Rooms.{unread-read}
use Rattle.forms.proofs.Following.{row_more, plain-short}
use Rattle.schedule.specs.Schedule.{header_of, header_no, after_six, read_schedule}
use Rattle.schedule.specs.declared.Header.{Header}
use Rattle.schedule.proofs.Sixes.{plain-count, six-numbers}
use Rattle.schedule.proofs.Parts.{Reading, no_six, no_header, no-events, follows, right, reading}
use Rattle.schedule.proofs.Valid.{header-refusals, no-right}
use Rattle.schedule.specs.Steps.{Checked}
use Rattle.schedule.proofs.ScheduleLaws.{header-bytes, longest, refused-no}

-- ---- bytes that follow

whole-more : {H : Type 0} (s t : List ℕ) (header : H) (o : Outcome) {r : ℕ} → whole s header o ≡ unread r → whole (s ++ t) header o ≡ unread r
unfolding whole
whole-more s t header (refused q) e = e
whole-more {H} s t header (got vs next) {r} e = go (ltb next (length s)) refl e
  where
    go : (rest : Bool) → ltb next (length s) ≡ rest → (if rest then unread 13 else read_as header vs) ≡ unread r
        → ◌≡◌ {A = FormRead H} (if ltb next (length (s ++ t)) then unread 13 else read_as header vs) (unread r)
    go true q h = rw (lt-ltb next (length (s ++ t)) (omega (arith, ltb-true next (length s) q, length-append s t))) h
    go false q h = absurd (unread-read (sym h))

-- the events after six numbers, where they are not refused with 11
events-more : (s t six : List ℕ) (first : ℕ) {r : ℕ} → (r ≡ 11 → ⊥)
    → whole s (header_of six) (plain ((header_of six).events * 3) limit.Schedule s first) ≡ unread r
    → whole (s ++ t) (header_of six) (plain ((header_of six).events * 3) limit.Schedule (s ++ t) first) ≡ unread r
unfolding whole
events-more s t six first {r} n e =
    let k : plain ((header_of six).events * 3) limit.Schedule s first ≡ refused 11 → ⊥ = λ q. n (refused-no (sym (ap (whole s (header_of six)) q) ∙ e)) in
    ap (whole (s ++ t) (header_of six)) (row_more (replicate ((header_of six).events * 3) untested) limit.Schedule s t first k)
    ∙ whole-more s t (header_of six) (plain ((header_of six).events * 3) limit.Schedule s first) e

after_more : (s t : List ℕ) (o : Outcome) {r : ℕ} → (r ≡ 11 → ⊥) → after_six s o ≡ unread r → after_six (s ++ t) o ≡ unread r
unfolding after_six
after_more s t (refused q) n e = e
after_more s t (got six first) {r} n e = go (eqb (header_no (header_of six)) 0) e
  where
    go : (fine : Bool) → (if fine then whole s (header_of six) (plain ((header_of six).events * 3) limit.Schedule s first) else unread (header_no (header_of six))) ≡ unread r
        → (if fine then whole (s ++ t) (header_of six) (plain ((header_of six).events * 3) limit.Schedule (s ++ t) first) else unread (header_no (header_of six))) ≡ unread r
    go true k = events-more s t six first n k
    go false k = k

-- a refusal other than 11 stands, whatever bytes follow
pub refused-more : (s t : List ℕ) {r : ℕ} → read_schedule s ≡ unread r → (r ≡ 11 → ⊥) → read_schedule (s ++ t) ≡ unread r
unfolding read_schedule after_six
refused-more s t {r} e n =
    let k : plain 6 limit.Schedule s 0 ≡ refused 11 → ⊥ = λ q. n (refused-no (sym (ap (after_six s) q) ∙ e)) in
    ap (after_six (s ++ t)) (row_more (replicate 6 untested) limit.Schedule s t 0 k) ∙ after_more s t (plain 6 limit.Schedule s 0) n e

-- bytes that follow a schedule that is read give 13
pub read_more : (s t : List ℕ) {h : Header} {fields : List ℕ} → Bytes s → read_schedule s ≡ read_as h fields → 0 < length t → read_schedule (s ++ t) ≡ unread 13
unfolding read_schedule after_six whole
read_more s t {h} {fields} b e l = go (reading s) e
  where
    go : {k : Checked} {o : FormRead Header} → Reading s k o → o ≡ read_as h fields → read_schedule (s ++ t) ≡ unread 13
    go (no_six a) q = absurd (unread-read q)
    go (no_header a n) q = absurd (unread-read q)
    go (no-events a n d) q = absurd (unread-read q)
    go (follows a n d m) q = absurd (unread-read q)
    go (right {six = six} {ws = ws} {first = first} {next = next} a n d m) q =
        let x : plain 6 limit.Schedule (s ++ t) 0 ≡ got six first = row_more (replicate 6 untested) limit.Schedule s t 0 (λ p. refused-got (sym p ∙ a)) ∙ a in
        let y : plain ((header_of six).events * 3) limit.Schedule (s ++ t) first ≡ got ws next = row_more (replicate ((header_of six).events * 3) untested) limit.Schedule s t first (λ p. refused-got (sym p ∙ d)) ∙ d in
        let i = (row-forms (replicate 6 untested) limit.Schedule s 0 b a).stands.inside (omega arith) in
        let j = (row-forms (replicate ((header_of six).events * 3) untested) limit.Schedule s first b d).stands.inside i in
        rw (x, eq-eqb (header_no (header_of six)) 0 n, y, lt-ltb next (length (s ++ t)) (omega (arith, length-append s t)))

-- ---- where the bytes end

unread-one : {q r : ℕ} → ◌≡◌ {A = FormRead Header} (unread q) (unread r) → q ≡ r
unread-one e = cc

not-eleven : {n : ℕ} → (n ≡ 1) ⊎ (n ≡ 3) ⊎ (n ≡ 13) → ◌≡◌ {A = FormRead Header} (unread n) (unread 11) → ⊥
not-eleven h e = go h (refused-no e)
  where
    go : {n : ℕ} → (n ≡ 1) ⊎ (n ≡ 3) ⊎ (n ≡ 13) → 11 ≡ n → ⊥
    go (inl p) q = omega arith
    go (inr (inl p)) q = omega arith
    go (inr (inr p)) q = omega arith

-- 11 is given only to fewer bytes than the longest schedule has
pub eleven-short : (s : List ℕ) → Bytes s → read_schedule s ≡ unread 11 → length s < 36_872
unfolding groups_of
eleven-short s b e = go (reading s) e
  where
    go : {k : Checked} {o : FormRead Header} → Reading s k o → o ≡ unread 11 → length s < 36_872
    go (no_six a) q = omega (arith, plain-short 6 limit.Schedule s 0 b (a ∙ ap refused (unread-one q)))
    go (no_header {six = six} a h) q = absurd (not-eleven (elim (header-refusals (header_of six) h) [ inl p ↦ inl p | inr p ↦ inr (inl p) ]) q)
    go (no-events {six = six} {first = first} a h d) q =
        let right = no-right (header_of six) h in
        let start = (row-forms (replicate 6 untested) limit.Schedule s 0 b a).stands.place in
        let few : length (forms six) ≤ 8 = rw (six-numbers six (plain-count 6 limit.Schedule s 0 a)) at (header-bytes (header_of six) right) in
        omega (arith, plain-short ((header_of six).events * 3) limit.Schedule s first b (d ∙ ap refused (unread-one q)), right.count)
    go (follows a h d l) q = absurd (not-eleven (inr (inr refl)) q)
    go (right a h d l) q = absurd (unread-read (sym q))

-- ---- every file

bytes_take : (n : ℕ) (s : List ℕ) → Bytes s → Bytes (take n s)
bytes_take zero s h k = omega arith
bytes_take (suc n) [] h k = omega arith
bytes_take (suc n) (x ∷ s) h zero = h zero
bytes_take (suc n) (x ∷ s) h (suc k) = bytes_take n s (λ (j : ℕ). h (suc j)) k

-- what the bytes up to one past the longest schedule read as, where there are more
beginning : (s t : List ℕ) → Bytes s → 36_873 ≤ length s → read_schedule (s ++ t) ≡ read_schedule s
beginning s t b l = go (read_schedule s) refl
  where
    go : (o : FormRead Header) → read_schedule s ≡ o → read_schedule (s ++ t) ≡ o
    go (read_as h fields) e = absurd (omega (arith, longest s b e))
    go (unread r) e = refused-more s t e (λ n. omega (arith, eleven-short s b (e ∙ ap unread n)))

-- one byte past the longest schedule decides what is read, and a reader may leave out all that stands behind it
pub schedule-decided : (n : ℕ) (bytes : List ℕ) → 36_873 ≤ n → Bytes bytes → read_schedule (take n bytes) ≡ read_schedule bytes
schedule-decided n bytes l b = go (ltb n (length bytes)) refl
  where
    go : (more : Bool) → ltb n (length bytes) ≡ more → read_schedule (take n bytes) ≡ read_schedule bytes
    go true e =
        let size = length-take-le n bytes (omega (arith, ltb-true n (length bytes) e)) in
        sym (beginning (take n bytes) (drop n bytes) (bytes_take n bytes b) (omega arith)) ∙ ap read_schedule (take-append-drop n bytes)
    go false e = ap read_schedule (take_all n bytes (ltb-false n (length bytes) e))
