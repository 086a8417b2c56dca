-- The laws of the schedule's written form. Assumes nothing.
use mathlib.Core.Path.{◌≡◌, refl, sym, ap, ◌∙◌}
use mathlib.Core.Bool.{true}
use mathlib.Core.List.{List, [], ◌++◌, append-nil}
use mathlib.Core.Logic.{◌⊎◌, inl, inr, ⊎_elim}
use Prim.Native.Nat.{ℕ, zero, suc, ◌+◌, ◌*◌, ◌≤◌, ◌<◌}
use native.Mathlib.Omega.{arith}
use native.Mathlib.Nat.{zero-mul, suc-mul}
use lib.ListN.{length, take, drop, replicate, length-append, length-replicate}
use lib.Seq.{sets-eq, take_at}
use borrow.Author.Tests.{eq-eqb, le-ltb, le-leb}
use Rattle.sets.specs.Scans.{most_scans}
use Rattle.sets.specs.Acceptors.{most_acceptors}
use Rattle.sizes.specs.Sizes.{scans_in_range, sizes_in_range}
use Rattle.sizes.specs.declared.Sizes.{Sizes}
use Rattle.numbers.specs.Coding.{groups_of, most_of, form_in, form}
use Rattle.numbers.specs.declared.Limit.TheVariants as limit
use Rattle.numbers.proofs.Forms.{form-short}
use Rattle.numbers.proofs.Puts.{put-refusals, put_refused, put_next}
use Rattle.forms.specs.Forms.{got, untested, plain, FormRead, read_as, unread, whole, form_no, into_room, after_room, forms, all_within}
use Rattle.forms.proofs.Rooms as rooms
use Rattle.forms.proofs.Rooms.{unread-read}
use Rattle.forms.proofs.FormLaws.{row-forms, stands-append, stands-whole, forms-append, forms-length, forms-bytes}
use Rattle.schedule.specs.Schedule.{header_of, numbers_of, header_no, after_six, read_schedule, schedule_answer, event_count, header_for, schedule_no, schedule_form, schedule_written, after_schedule}
use Rattle.schedule.specs.declared.Header.{Header}
use Rattle.schedule.proofs.Sixes.{plain-count, plain-within, plain-reads, plain-refusals, six-numbers, header-numbers}
use Rattle.schedule.proofs.Parts.{Reading, no_six, no_header, no-events, follows, right, reading}
use Rattle.sizes.proofs.SizeLaws.{bounds}
use Rattle.schedule.proofs.Valid.{Right, header-refusals, no-right, right-no, six-within, Valid, no-valid, valid-no, schedule-refusals}
use Rattle.std.specs.Prelude.{Ok, Err}
use Rattle.schedule.specs.Steps.{Checked}
use Rattle.schedule.proofs.Answers.{form-length}
pub use Rattle.forms.proofs.FormLaws.{Bytes}

-- ---- one form

-- what the bytes of a schedule that is read are: the form of its sizes and events, which may be written
pub record OneForm (bytes : List ℕ) (h : Header) (fields : List ℕ) : Type 0 where
  pub written : bytes ≡ schedule_form h.sizes fields
  pub accepted : schedule_no h.sizes fields ≡ 0
  pub count : event_count fields ≡ h.events

-- the same of six numbers and those after them
parts-one-form : (bytes six fields : List ℕ) (first next : ℕ) → Bytes bytes → plain 6 limit.Schedule bytes 0 ≡ got six first → header_no (header_of six) ≡ 0
    → plain ((header_of six).events * 3) limit.Schedule bytes first ≡ got fields next → length bytes ≤ next → OneForm bytes (header_of six) fields
unfolding schedule_form
parts-one-form bytes six fields first next b e h f l =
    let n = (header_of six).events * 3 in
    let six-count = plain-count 6 limit.Schedule bytes 0 e in
    let count : length fields ≡ (header_of six).events * 3 = plain-count n limit.Schedule bytes first f in
    let es : event_count fields ≡ (header_of six).events = omega arith in
    let hf : header_for (header_of six).sizes fields ≡ header_of six = rw es in
    let stand = stands-append (row-forms (replicate 6 untested) limit.Schedule bytes 0 b e).stands (row-forms (replicate n untested) limit.Schedule bytes first b f).stands in
    let all : bytes ≡ forms (six ++ fields) = stands-whole stand l in
    record {
      written = rw (hf, six-numbers six six-count) (all ∙ forms-append six fields);
      accepted = valid-no (header_of six).sizes fields (record { header = rw hf (no-right (header_of six) h); three = omega arith; within = plain-within n limit.Schedule bytes first b f });
      count = es;
    }

-- what is read is right: its header, and as many numbers after it as its events have
pub record Whole (h : Header) (fields : List ℕ) : Type 0 where
  pub right : Right h
  pub count : length fields ≡ h.events * 3

pub schedule-whole : (bytes : List ℕ) {h : Header} {fields : List ℕ} → read_schedule bytes ≡ read_as h fields → Whole h fields
schedule-whole bytes {h} {fields} e = go (reading bytes) e
  where
    go : {k : Checked} {o : FormRead Header} → Reading bytes k o → o ≡ read_as h fields → Whole h fields
    go (no_six a) q = absurd (unread-read q)
    go (no_header a b) q = absurd (unread-read q)
    go (no-events a b d) q = absurd (unread-read q)
    go (follows a b d l) q = absurd (unread-read q)
    go (right {six = six} {ws = ws} {first = first} a b d l) q =
        let p : header_of six ≡ h = cc in
        let v : ws ≡ fields = cc in
        rw (← p, ← v) (record { right = no-right (header_of six) b; count = plain-count ((header_of six).events * 3) limit.Schedule bytes first d })

-- a schedule is read only from its one form
pub schedule-one-form : (bytes : List ℕ) {h : Header} {fields : List ℕ} → Bytes bytes → read_schedule bytes ≡ read_as h fields → OneForm bytes h fields
schedule-one-form bytes {h} {fields} y e = go (reading bytes) e
  where
    go : {k : Checked} {o : FormRead Header} → Reading bytes k o → o ≡ read_as h fields → OneForm bytes h fields
    go (no_six a) q = absurd (unread-read q)
    go (no_header a b) q = absurd (unread-read q)
    go (no-events a b d) q = absurd (unread-read q)
    go (follows a b d l) q = absurd (unread-read q)
    go (right {six = six} {ws = ws} {first = first} {next = n} a b d l) q =
        let p : header_of six ≡ h = cc in
        let v : ws ≡ fields = cc in
        rw (← p, ← v) (parts-one-form bytes six ws first n y a b d l)

-- ---- what is written reads back

six-reads : (z : Sizes) (fields : List ℕ) → Valid z fields
    → plain 6 limit.Schedule (schedule_form z fields) 0 ≡ got (numbers_of (header_for z fields)) (length (forms (numbers_of (header_for z fields))))
unfolding schedule_form numbers_of
six-reads z fields v =
    let six = numbers_of (header_for z fields) in
    let n : 0 + length (forms six) ≡ length (forms six) = omega arith in
    rw n at (plain-reads limit.Schedule six (six-within (header_for z fields) v.header) [] (forms fields))

events-read : (z : Sizes) (fields : List ℕ) → Valid z fields
    → plain (event_count fields * 3) limit.Schedule (schedule_form z fields) (length (forms (numbers_of (header_for z fields)))) ≡ got fields (length (schedule_form z fields))
unfolding schedule_form
events-read z fields v =
    let n : event_count fields * 3 ≡ length fields = omega (arith, v.three) in
    rw (n, form-length z fields) (rw (append-nil (forms fields)) at (plain-reads limit.Schedule fields v.within (forms (numbers_of (header_for z fields))) []))

-- the form of sizes and events that may be written reads as these
pub schedule-reads-back : (z : Sizes) (fields : List ℕ) → schedule_no z fields ≡ 0 → read_schedule (schedule_form z fields) ≡ read_as (header_for z fields) fields
unfolding read_schedule after_six whole
schedule-reads-back z fields e =
    let bytes = schedule_form z fields in
    let h = header_for z fields in
    let v = no-valid z fields e in
    let first = six-reads z fields v in
    let rest = events-read z fields v in
    let ends = le-ltb (length bytes) (length bytes) (omega arith) in
    rw (first, header-numbers h, eq-eqb (header_no h) 0 (right-no h v.header), rest, ends)

-- ---- the longest schedule

form-one : (v : ℕ) → v < 128 → length (form v) ≤ 1
unfolding form
form-one v h = form-short 0 10 v (omega arith)

form-two : (v : ℕ) → v < 16_384 → length (form v) ≤ 2
unfolding form
form-two v h = form-short 1 10 v (omega arith)

-- the six numbers of a right header take at most 8 bytes
pub header-bytes : (h : Header) → Right h → length (forms (numbers_of h)) ≤ 8
unfolding forms numbers_of
header-bytes h r =
    let z = h.sizes in
    let s = bounds z r.sizes in
    let n = r.count in
    simp length-append (
    omega (
      arith,
      form-one z.proposers (omega arith),
      form-one z.acceptors (omega arith),
      form-one z.learners (omega arith),
      form-two z.slots (omega arith),
      form-one z.scans (omega arith),
      form-two h.events (omega arith),
    )
    )

-- a schedule that may be written takes at most 36,872 bytes
pub longest-form : (z : Sizes) (fields : List ℕ) → schedule_no z fields ≡ 0 → length (schedule_form z fields) ≤ 36_872
unfolding groups_of
longest-form z fields e =
    let v = no-valid z fields e in
    let n = v.header.count in
    omega (arith, form-length z fields, header-bytes (header_for z fields) v.header, forms-length limit.Schedule fields v.within, v.three)

-- a schedule that is read has at most 36,872 bytes
pub longest : (bytes : List ℕ) {h : Header} {fields : List ℕ} → Bytes bytes → read_schedule bytes ≡ read_as h fields → length bytes ≤ 36_872
longest bytes {h} {fields} b e =
    let f = schedule-one-form bytes b e in
    omega (arith, ap length f.written, longest-form h.sizes fields f.accepted)

-- a schedule of so many bytes that may be written and is read
pub record Longest : Type 0 where
  pub sizes : Sizes
  pub fields : List ℕ
  pub accepted : schedule_no sizes fields ≡ 0
  pub size : length (schedule_form sizes fields) ≡ 36_872
  pub bytes : Bytes (schedule_form sizes fields)
  pub read : read_schedule (schedule_form sizes fields) ≡ read_as (header_for sizes fields) fields

replicate-forms : (n v : ℕ) → length (forms (replicate n v)) ≡ n * length (form v)
unfolding forms
replicate-forms zero v = sym (zero-mul (length (form v)))
replicate-forms (suc n) v = length-append (form v) (forms (replicate n v)) ∙ omega (arith, replicate-forms n v, suc-mul n (length (form v)))

replicate-within : (n v : ℕ) → v ≤ most_of limit.Schedule → all_within limit.Schedule (replicate n v) ≡ true
unfolding all_within
replicate-within zero v h = refl
replicate-within (suc n) v h = rw (le-leb v (most_of limit.Schedule) h) (replicate-within n v h)

forms-two-bytes : (us vs : List ℕ) → Bytes (forms us ++ forms vs)
forms-two-bytes us vs = rw (← forms-append us vs) (forms-bytes (us ++ vs))

-- sizes of two bytes at M alone
wide : Sizes
wide = record { proposers = 1; acceptors = 1; learners = 1; slots = 128; scans = 1 }

wide-bytes : length (forms (numbers_of (record { sizes = wide; events = 4_096 }))) ≡ 8
unfolding wide numbers_of forms form form_in
wide-bytes = refl

wide-right : Right (record { sizes = wide; events = 4_096 })
unfolding wide sizes_in_range scans_in_range most_scans most_acceptors
wide-right = record { sizes = refl; count = omega arith }

three-bytes : length (form 16_384) ≡ 3
unfolding form form_in
three-bytes = refl

-- 4,096 events of numbers of three bytes
longest-of : (n : ℕ) → n ≡ 12_288 → Longest
unfolding most_of schedule_form
longest-of n e =
    let fields : List ℕ = replicate n 16_384 in
    let count : length fields ≡ 12_288 = length-replicate n 16_384 ∙ e in
    let es : event_count fields ≡ 4_096 = omega arith in
    let v : Valid wide fields = record { header = rw es wide-right; three = omega arith; within = replicate-within n 16_384 (omega arith) } in
    let six : length (forms (numbers_of (header_for wide fields))) ≡ 8 = rw es wide-bytes in
    let rest : length (forms fields) ≡ n * 3 = replicate-forms n 16_384 ∙ ap (λ (k : ℕ). n * k) three-bytes in
    let size : length (schedule_form wide fields) ≡ 36_872 = omega (arith, form-length wide fields) in
    let accepted = valid-no wide fields v in
    record {
      sizes = wide;
      fields = fields;
      accepted = accepted;
      size = size;
      bytes = forms-two-bytes (numbers_of (header_for wide fields)) fields;
      read = schedule-reads-back wide fields accepted;
    }

-- there is such a schedule
pub longest-stands : Longest
longest-stands = longest-of 12_288 refl

-- ---- refusals

-- a refusal by its number
pub refused-no : {n : ℕ} {r : ℕ} → ◌≡◌ {A = FormRead Header} (unread n) (unread r) → r ≡ n
unfolding form_no
refused-no e = sym (ap form_no e)

-- the refusals of the form
abbrev pub ReadNo : ℕ → Type 0
ReadNo n = (n ≡ 1) ⊎ (n ≡ 3) ⊎ (n ≡ 11) ⊎ (n ≡ 12) ⊎ (n ≡ 13)

-- the refusals of the writer
abbrev pub WriteNo : ℕ → Type 0
WriteNo n = (n ≡ 1) ⊎ (n ≡ 3) ⊎ (n ≡ 8) ⊎ (n ≡ 12)

-- a reader refuses a form with 1, 3, 11, 12 or 13
pub read-refusals : (bytes : List ℕ) (r : ℕ) → read_schedule bytes ≡ unread r → ReadNo r
read-refusals bytes r e = go (reading bytes) e
  where
    number : {s : ℕ} → (s ≡ 11) ⊎ (s ≡ 12) → ◌≡◌ {A = FormRead Header} (unread s) (unread r) → ReadNo r
    number (inl p) q = inr (inr (inl (refused-no q ∙ p)))
    number (inr p) q = inr (inr (inr (inl (refused-no q ∙ p))))

    header : {n : ℕ} → (n ≡ 1) ⊎ (n ≡ 3) → ◌≡◌ {A = FormRead Header} (unread n) (unread r) → ReadNo r
    header (inl p) q = inl (refused-no q ∙ p)
    header (inr p) q = inr (inl (refused-no q ∙ p))

    go : {k : Checked} {o : FormRead Header} → Reading bytes k o → o ≡ unread r → ReadNo r
    go (no_six a) q = number (plain-refusals 6 limit.Schedule bytes 0 a) q
    go (no_header {six = six} a h) q = header (header-refusals (header_of six) h) q
    go (no-events {six = six} {first = first} a h d) q = number (plain-refusals ((header_of six).events * 3) limit.Schedule bytes first d) q
    go (follows a h d l) q = inr (inr (inr (inr (refused-no q))))
    go (right a h d l) q = absurd (unread-read (sym q))

-- what is answered by a refusal was refused
answer-refused : (o : FormRead Header) {r : ℕ} → schedule_answer o ≡ Err r → o ≡ unread r
unfolding schedule_answer
answer-refused (unread s) e = cc
answer-refused (read_as h fields) e = absurd (let z : ◌≡◌ {A = ℕ} 0 1 = cc in omega arith)

-- reading into room refuses as the form does, or with 8 where the room is smaller than the events' numbers
pub room-refusals : (o : FormRead Header) (room : List ℕ) (r : ℕ) → schedule_answer (into_room o room) ≡ Err r → (o ≡ unread r) ⊎ ((r ≡ 8) × rooms.Narrow o room)
room-refusals o room r e = rooms.room-refusals o room r (answer-refused (into_room o room) e)

-- a refusal leaves the room as it was
pub read-refused : (o : FormRead Header) (room : List ℕ) (r : ℕ) → schedule_answer (into_room o room) ≡ Err r → after_room o room ≡ room
read-refused o room r e = rooms.room-refused o room r (answer-refused (into_room o room) e)

-- a writer refuses with 1, 3, 8 or 12
pub write-refusals : (z : Sizes) (fields d : List ℕ) (r : ℕ) → schedule_written z fields d ≡ Err r → WriteNo r
write-refusals z fields d r e = ⊎_elim own (λ p. inr (inr (inl p.0))) (put-refusals (schedule_no z fields) (schedule_form z fields) d 0 r e)
  where
    value : (schedule_no z fields ≡ 1) ⊎ (schedule_no z fields ≡ 3) ⊎ (schedule_no z fields ≡ 12) → r ≡ schedule_no z fields → WriteNo r
    value (inl p) q = inl (q ∙ p)
    value (inr (inl p)) q = inr (inl (q ∙ p))
    value (inr (inr p)) q = inr (inr (inr (q ∙ p)))

    own : (r ≡ schedule_no z fields) × (schedule_no z fields ≡ 0 → ⊥) → WriteNo r
    own (p, h) = value (schedule-refusals z fields h) p

-- a place n as the answer: the values may be written, n is past their form, and the form has been stored; bytes past it are as they were
pub record Stored (z : Sizes) (fields d : List ℕ) (n : ℕ) : Type 0 where
  pub accepted : schedule_no z fields ≡ 0
  pub place : n ≡ length (schedule_form z fields)
  pub room : n ≤ length d
  pub buffer : after_schedule z fields d ≡ schedule_form z fields ++ drop n d

-- what a writer says by a next place
pub write-next : (z : Sizes) (fields d : List ℕ) (n : ℕ) → schedule_written z fields d ≡ Ok n → Stored z fields d n
write-next z fields d n e =
    let s = put_next (schedule_no z fields) (schedule_form z fields) d 0 n e in
    let l = s.place in
    let m = s.room in
    record {
      accepted = s.passes;
      place = omega arith;
      room = m;
      buffer = s.buffer ∙ sets-eq (schedule_form z fields) d 0 (omega arith) ∙ rw (sym l);
    }

-- a schedule that is written into a buffer reads back from it
pub write-reads-back : (z : Sizes) (fields d : List ℕ) (n : ℕ) → schedule_written z fields d ≡ Ok n → read_schedule (take n (after_schedule z fields d)) ≡ read_as (header_for z fields) fields
write-reads-back z fields d n e =
    let s = write-next z fields d n e in
    rw (s.buffer, take_at (schedule_form z fields) (drop n d) n (sym s.place)) (schedule-reads-back z fields s.accepted)

-- a refusal leaves the buffer as it was
pub write-refused : (z : Sizes) (fields d : List ℕ) (r : ℕ) → schedule_written z fields d ≡ Err r → after_schedule z fields d ≡ d
write-refused z fields d r e = put_refused (schedule_no z fields) (schedule_form z fields) d 0 r e
