-- The laws of the scan table. Assumes nothing.
use mathlib.Core.Path.{◌≡◌, refl, sym, ap, ◌∙◌}
use mathlib.Core.List.{List, [], ◌++◌, append-nil}
use mathlib.Core.Logic.{◌⊎◌, inl, inr, ⊎_elim, ⊎_map}
use Prim.Native.Nat.{ℕ, ◌+◌, ◌-◌, ◌*◌, ◌^◌, ◌<◌, ◌≤◌}
use native.Mathlib.Omega.{arith}
use lib.Dec.{leb}
use Rattle.std.specs.Prelude.{Result, Ok, Err}
use lib.ListN.{length, drop, take, get_or, length-append}
use lib.Seq.{sets, sets-eq, take_at}
use borrow.Author.Tests.{le-ltb}
use Rattle.sizes.specs.Sizes.{between, scans_in_range}
use Rattle.numbers.specs.Coding.{read_number, form}
use Rattle.numbers.specs.declared.Limit.TheVariants.{Table}
use Rattle.numbers.specs.declared.Number.{Number}
use Rattle.numbers.proofs.Puts.{put-refusals, put_refused, put_next, put-stays}
use Rattle.numbers.proofs.CodingLaws.{Bytes, written-reads}
use Rattle.forms.specs.Forms.{Test, rows, read_as, unread, whole, into_room, after_room, forms, row_no, rows_no}
use Rattle.forms.proofs.FormLaws.{rows-reads, rows-forms, stands_one, stands-append, stands-whole}
use Rattle.forms.proofs.Rooms as rooms
use Rattle.forms.proofs.Rooms.{room-refusals, room-refused, room-filled, room-stays}
use Rattle.scan_table.specs.Table.{size_no, tag_no, shelf_no, device_no, time_no, scan_tests, whole_table, written_tests, fields_of, scan_at, after_size, read_table, table_answer, scans_in, table_no, table_form, table_written, after_table}
use Rattle.scan_table.proofs.Testing.{each-scan, table-passes, rows_pass}
use Rattle.scan_table.proofs.Tables.{table_got, table-sized, answer-scans, answer-refused}
use Rattle.scan_table.proofs.Refusals.{All, ended, and, Unreads, gives_then, gives_one, all-as-read, rows-give, read-refuses, rows-refuses, whole-refuses, unless-refuses}
use Rattle.scan_table.proofs.Writing.{size-within}
pub use Rattle.scan_table.proofs.Tables.{table-tested, table-count}

-- ---- one written form

-- what bytes that read as a table say: they are the form of its numbers, which a writer would not refuse
pub record OneForm (bytes : List ℕ) (scans : ℕ) (fields : List ℕ) : Type 0 where
  pub written : bytes ≡ table_form fields
  pub passes : table_no written_tests fields ≡ 0
  pub size : scans ≡ scans_in fields

-- a table is read only from its written form
pub table-one-form : (bytes : List ℕ) {scans : ℕ} {fields : List ℕ} → Bytes bytes → read_table bytes ≡ read_as scans fields → OneForm bytes scans fields
unfolding table_form
table-one-form bytes {scans} {fields} b e =
    let t = table_got bytes e in
    let r = rows-forms scans scan_tests Table bytes t.mid b t.body in
    let s = stands-append (stands_one Table bytes 0 scans t.mid b t.size) r.stands in
    let c = r.count in
    let n : scans ≡ scans_in fields = omega arith in
    record {
      written = stands-whole s t.ends ∙ rw n;
      passes = rows_pass written_tests fields scans r.count t.ranged r.tested;
      size = n;
    }

-- ---- what is written reads back

-- the form of a table that a writer does not refuse reads as the table
pub table-reads-back : (fields : List ℕ) → table_no written_tests fields ≡ 0 → read_table (table_form fields) ≡ read_as (scans_in fields) fields
unfolding table_form forms whole
table-reads-back fields e =
    let s = scans_in fields in
    let n = length (form s) in
    let m = length (forms fields) in
    let p = table-passes written_tests fields e in
    let z : 0 + n ≡ n = omega arith in
    let a : read_number Table (form s ++ forms fields) 0 ≡ Ok (record { value = s; next = n }) = rw z at (written-reads Table s [] (forms fields) (size-within s p.ranged)) in
    let r = rw (append-nil (forms fields)) at (rows-reads s scan_tests Table fields p.scans p.records (form s) []) in
    table-sized (form s ++ forms fields) a p.ranged ∙ rw (r, length-append (form s) (forms fields), le-ltb (n + m) (n + m) (omega arith))

-- ---- what was read is in range

-- each scan that was read is in range
pub table-in-range : (bytes : List ℕ) {scans : ℕ} {fields : List ℕ} → read_table bytes ≡ read_as scans fields → (i : ℕ) → i < scans → row_no scan_tests (fields_of (scan_at fields i)) ≡ 0
table-in-range bytes {scans} {fields} e i h =
    let t = table-tested bytes e in
    let c = t.0 in
    let z : 0 + i ≡ i = omega arith in
    rw z at (each-scan scan_tests refl fields scans 0 i (omega arith) t.1 h)

-- ---- refusals

-- a scan's tests give 3, 10 or 12
pub scan-gives : (P : ℕ → Type 0) → P 3 → P 10 → P 12 → All P scan_tests
unfolding tag_no shelf_no device_no time_no
scan-gives P three ten twelve =
    and (λ v. gives_one P 3 (leb v (2 ^ 32 - 1)) three)
    (and (λ v. gives_one P 3 (leb v 65_535) three)
    (and (λ v. gives_one P 10 (between 1 255 v) ten)
    (and (λ v. gives_one P 12 (leb v (2 ^ 48 - 1)) twelve) ended)))

-- the first refusal of a table
pub table-gives : (P : ℕ → Type 0) {tests : List Test} → P 1 → All P tests → (fields : List ℕ) → (table_no tests fields ≡ 0 → ⊥) → P (table_no tests fields)
unfolding table_no
table-gives P {tests} size a fields h = gives_then P 1 (whole_table fields) (rows_no (scans_in fields) tests fields) size (rows-give P a (scans_in fields) fields) h

-- what a reader of the form refuses with: 1 for the size, 3 for tag or shelf, 10 for the device, 11 where the bytes end too soon, 12 for a
-- number or a time, 13 where bytes follow
abbrev pub ReadRefusal : ℕ → Type 0
ReadRefusal n = (n ≡ 1) ⊎ (n ≡ 3) ⊎ (n ≡ 10) ⊎ (n ≡ 11) ⊎ (n ≡ 12) ⊎ (n ≡ 13)

-- the size, and then the scans
size-refuses : (bytes : List ℕ) (a : Result Number ℕ) → ((r : ℕ) → a ≡ Err r → ReadRefusal r) → Unreads ReadRefusal (after_size bytes a)
unfolding after_size size_no
size-refuses bytes (Err q) h r e =
    let p : q ≡ r = cc in
    rw (← p) (h q refl)
size-refuses bytes (Ok size) h r e =
    let s = size.value in
    let next = size.next in
    let three = inr (inl refl) in
    let ten = inr (inr (inl refl)) in
    let eleven = inr (inr (inr (inl refl))) in
    let twelve = inr (inr (inr (inr (inl refl)))) in
    let scans = rows-refuses ReadRefusal Table bytes eleven twelve (scan-gives ReadRefusal three ten twelve) s next in
    unless-refuses ReadRefusal (size_no s) (whole bytes s (rows s scan_tests Table bytes next)) (gives_one ReadRefusal 1 (scans_in_range s) (inl refl))
    (whole-refuses ReadRefusal bytes s (rows s scan_tests Table bytes next) (inr (inr (inr (inr (inr refl))))) scans) r e

-- a table that is refused is refused so
pub table-refusals : (bytes : List ℕ) (r : ℕ) → read_table bytes ≡ unread r → ReadRefusal r
unfolding read_table
table-refusals bytes r e =
    size-refuses bytes (read_number Table bytes 0) (read-refuses ReadRefusal Table bytes (inr (inr (inr (inl refl)))) (inr (inr (inr (inr (inl refl))))) 0) r e

-- what a writer refuses with: 1 for the size, 3 for tag or shelf, 10 for the device, 12 for a number too large for the coding, 8 for the room
abbrev pub WriteRefusal : ℕ → Type 0
WriteRefusal n = (n ≡ 1) ⊎ (n ≡ 3) ⊎ (n ≡ 10) ⊎ (n ≡ 12) ⊎ (n ≡ 8)

-- the first refusal of a table to be written
table-no-gives : (fields : List ℕ) → (table_no written_tests fields ≡ 0 → ⊥) → WriteRefusal (table_no written_tests fields)
table-no-gives fields h =
    let twelve = inr (inr (inr (inl refl))) in
    table-gives WriteRefusal (inl refl) (all-as-read WriteRefusal Table twelve (scan-gives WriteRefusal (inr (inl refl)) (inr (inr (inl refl))) twelve)) fields h

module _ (fields d : List ℕ) where
  -- a table that is not written is refused so
  pub write-refusals : (r : ℕ) → table_written fields d ≡ Err r → WriteRefusal r
  write-refusals r e = ⊎_elim own room (put-refusals (table_no written_tests fields) (table_form fields) d 0 r e)
    where
      own : (r ≡ table_no written_tests fields) × (table_no written_tests fields ≡ 0 → ⊥) → WriteRefusal r
      own (p, h) = rw p (table-no-gives fields h)

      room : (r ≡ 8) × (table_no written_tests fields ≡ 0) × (length d < 0 + length (table_form fields)) → WriteRefusal r
      room (p, z, l) = inr (inr (inr (inr p)))

  -- a refusal leaves the buffer as it was
  pub write-refused : (r : ℕ) → table_written fields d ≡ Err r → after_table fields d ≡ d
  write-refused r e = put_refused (table_no written_tests fields) (table_form fields) d 0 r e

  -- a place n as the answer: no number is refused, n is past the form, and the form stands at the start of the buffer
  pub record Stored (n : ℕ) : Type 0 where
    pub passes : table_no written_tests fields ≡ 0
    pub place : n ≡ length (table_form fields)
    pub room : n ≤ length d
    pub buffer : after_table fields d ≡ sets d 0 (table_form fields)

  -- what a writer says by a next place
  pub write-next : (n : ℕ) → table_written fields d ≡ Ok n → Stored n
  write-next n e =
      let s = put_next (table_no written_tests fields) (table_form fields) d 0 n e in
      record { passes = s.passes; place = omega (arith, s.place); room = s.room; buffer = s.buffer }

  -- bytes from the next place on stay as they were
  pub write-stays : (n i : ℕ) → table_written fields d ≡ Ok n → n ≤ i → get_or (after_table fields d) i 0 ≡ get_or d i 0
  write-stays n i e h = put-stays (table_no written_tests fields) (table_form fields) d 0 n i e (inr h)

  -- a table that is written into a buffer reads back from the bytes up to the next place
  pub write-then-read : (n : ℕ) → table_written fields d ≡ Ok n → read_table (take n (after_table fields d)) ≡ read_as (scans_in fields) fields
  write-then-read n e =
      let s = write-next n e in
      let f = table_form fields in
      let l : 0 + length f ≤ length d = omega (arith, s.place, s.room) in
      let t : take n (after_table fields d) ≡ f = ap (take n) (s.buffer ∙ sets-eq f d 0 l) ∙ take_at f (drop (0 + length f) d) n (sym s.place) in
      rw t (table-reads-back fields s.passes)

-- ---- reading into room

module _ (bytes room : List ℕ) where
  -- a table that was read, and its room is smaller than its scans
  pub record Narrow : Type 0 where
    pub scans : ℕ
    pub fields : List ℕ
    pub accepted : read_table bytes ≡ read_as scans fields
    pub short : length room < scans * 4

  -- a table that is not read into room is refused by its form, or with 8, after all else, where the room is smaller than its scans
  pub read-refusals : (r : ℕ) → table_answer (into_room (read_table bytes) room) ≡ Err r → (read_table bytes ≡ unread r) ⊎ ((r ≡ 8) × Narrow)
  read-refusals r e = ⊎_map (λ q. q) small (room-refusals (read_table bytes) room r (answer-refused (into_room (read_table bytes) room) e))
    where
      small : (r ≡ 8) × rooms.Narrow (read_table bytes) room → (r ≡ 8) × Narrow
      small (p, n) =
          let c = table-count bytes n.accepted in
          let s = n.short in
          (p, record { scans = n.header; fields = n.numbers; accepted = n.accepted; short = omega arith })

  -- a refusal leaves the room as it was
  pub read-refused : (r : ℕ) → table_answer (into_room (read_table bytes) room) ≡ Err r → after_room (read_table bytes) room ≡ room
  read-refused r e = room-refused (read_table bytes) room r (answer-refused (into_room (read_table bytes) room) e)

  -- a number n as the answer: the form is accepted and has n scans, which have room, and their numbers fill its first places
  pub record Filled (n : ℕ) : Type 0 where
    pub fields : List ℕ
    pub accepted : read_table bytes ≡ read_as n fields
    pub fits : n * 4 ≤ length room
    pub filled : after_room (read_table bytes) room ≡ sets room 0 fields

  -- what a reader says by a number of scans
  pub read-scans : (n : ℕ) → table_answer (into_room (read_table bytes) room) ≡ Ok n → Filled n
  read-scans n e =
      let k = answer-scans (into_room (read_table bytes) room) e in
      let f = room-filled (read_table bytes) room n k.fields k.was in
      let c = table-count bytes f.accepted in
      let l = f.fits in
      record { fields = k.fields; accepted = f.accepted; fits = omega arith; filled = f.filled }

  -- places past those of the scans stay as they were
  pub read_stays : (n i : ℕ) → table_answer (into_room (read_table bytes) room) ≡ Ok n → n * 4 ≤ i → get_or (after_room (read_table bytes) room) i 0 ≡ get_or room i 0
  read_stays n i e h =
      let k = answer-scans (into_room (read_table bytes) room) e in
      let f = room-filled (read_table bytes) room n k.fields k.was in
      let c = table-count bytes f.accepted in
      room-stays (read_table bytes) room n k.fields i k.was (omega arith)
