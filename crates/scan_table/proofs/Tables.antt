-- What reading a scan table comes to: its size, and then its scans. Assumes nothing.
use mathlib.Core.Path.{◌≡◌, refl, sym, ap, ◌∙◌}
use mathlib.Core.Bool.{Bool, true, false}
use mathlib.Core.List.{List}
use Prim.Native.Nat.{ℕ, zero, suc, ◌*◌, ◌<◌, ◌≤◌}
use native.Mathlib.Omega.{arith}
use lib.Dec.{eqb}
use lib.ListN.{length}
use lib.Seq.{sets}
use native.Mathlib.Nat.{suc-ne-zero}
use lib.Dec.{ltb}
use borrow.Author.Tests.{eqb-true, ne_eqb}
use Rattle.std.specs.Prelude.{Result, Ok, Err, if◌then◌else◌}
use Rattle.choice.specs.Refusals.{no_in}
use Rattle.choice.proofs.Tests.{test-passed}
use Rattle.sizes.specs.Sizes.{scans_in_range}
use Rattle.numbers.specs.Coding.{Read, read_number, form}
use Rattle.numbers.specs.declared.Limit.{Limit}
use Rattle.numbers.specs.declared.Limit.TheVariants.{Table}
use Rattle.numbers.specs.declared.Number.{Number}
use Rattle.numbers.proofs.CodingLaws.{Bytes, read-form}
use Rattle.forms.specs.Forms.{Outcome, Test, got, refused, rows, FormRead, read_as, unread, read_unless, whole, form_no, room_no, into_room, after_room, place_of, ended_at, numbers_at, row_no, rows_no}
use Rattle.forms.proofs.Outcomes.{times, rows_row, times-length, rows-no-row, cons-row-no}
use Rattle.forms.proofs.FormLaws.{Run, none, one, row-run, numbers-of-rows}
use Rattle.forms.proofs.Rooms.{unread-read, whole-got, Fills, form-refused, room-short, room-enough}
use Rattle.scan_table.proofs.Checking.{unless_refused}
use Rattle.scan_table.specs.Table.{size_no, scan_tests, after_size, read_table, table_answer}

-- ---- checking

-- the answer to what was read has its number
pub answer-number : (f : FormRead ℕ) → no_in (table_answer f) ≡ form_no f
unfolding table_answer form_no
answer-number (read_as s fields) = refl
answer-number (unread r) = refl

module _ (bytes : List ℕ) where
  -- the size is read and in range: what follows are its scans
  pub table-sized : {s mid : ℕ} → read_number Table bytes 0 ≡ Ok (record { value = s; next = mid }) → scans_in_range s ≡ true → read_table bytes ≡ whole bytes s (rows s scan_tests Table bytes mid)
  unfolding read_table after_size size_no
  table-sized e h = rw (e, h)

-- a form's header where it ends, or its refusal
abbrev pub header_or : ℕ → Result ℕ ℕ → Result ℕ ℕ
header_or header (Ok next) = Ok header
header_or header (Err r) = Err r

-- the answer to a form with the header s
answer-whole : (bytes : List ℕ) (s : ℕ) (o : Outcome) → table_answer (whole bytes s o) ≡ header_or s (ended_at (length bytes) (place_of o))
unfolding whole table_answer
answer-whole bytes s (refused r) = refl
answer-whole bytes s (got vs next) = go (ltb next (length bytes))
  where
    go : (t : Bool) → table_answer (if t then unread 13 else read_as s vs) ≡ header_or s (if t then Err 13 else Ok next)
    go true = refl
    go false = refl

-- the answer, by the size that is read: it is tested, and then its scans and the end are
abbrev pub sized : List ℕ → Read → Result ℕ ℕ
sized bytes (Ok n) = unless_refused (size_no n.value) (header_or n.value (ended_at (length bytes) (place_of (rows n.value scan_tests Table bytes n.next))))
sized bytes (Err r) = Err r

pub table_checked : (bytes : List ℕ) → table_answer (read_table bytes) ≡ sized bytes (read_number Table bytes 0)
unfolding read_table after_size table_answer
table_checked bytes = go (read_number Table bytes 0)
  where
    tested : (n : Number) (k : ℕ) → table_answer (read_unless k (whole bytes n.value (rows n.value scan_tests Table bytes n.next)))
        ≡ unless_refused k (header_or n.value (ended_at (length bytes) (place_of (rows n.value scan_tests Table bytes n.next))))
    tested n zero = answer-whole bytes n.value (rows n.value scan_tests Table bytes n.next)
    tested n (suc k) = rw (ne_eqb (suc k) 0 (suc-ne-zero k))

    go : (r : Read) → table_answer (after_size bytes r) ≡ sized bytes r
    go (Ok n) = tested n (size_no n.value)
    go (Err r) = refl

-- and its number
pub table_number : (bytes : List ℕ) → form_no (read_table bytes) ≡ no_in (sized bytes (read_number Table bytes 0))
table_number bytes = sym (answer-number (read_table bytes)) ∙ ap no_in (table_checked bytes)

-- ---- what was read

-- a table that was read: its size in range, then its scans, then the end
pub record TableAt (bytes : List ℕ) (scans : ℕ) (fields : List ℕ) : Type 0 where
  pub mid : ℕ
  pub next : ℕ
  pub size : read_number Table bytes 0 ≡ Ok (record { value = scans; next = mid })
  pub ranged : scans_in_range scans ≡ true
  pub body : rows scans scan_tests Table bytes mid ≡ got fields next
  pub ends : length bytes ≤ next

-- a size that passes is in range
size-ranged : (s : ℕ) → size_no s ≡ 0 → scans_in_range s ≡ true
unfolding size_no
size-ranged s e = test-passed 0 (scans_in_range s) 0 e

-- a table is read only so
pub table_got : (bytes : List ℕ) {scans : ℕ} {fields : List ℕ} → read_table bytes ≡ read_as scans fields → TableAt bytes scans fields
unfolding read_table after_size
table_got bytes {scans} {fields} e = go (read_number Table bytes 0) refl e
  where
    sized-so : (s mid : ℕ) → read_number Table bytes 0 ≡ Ok (record { value = s; next = mid }) → (t : Bool) → eqb (size_no s) 0 ≡ t
        → (if t then whole bytes s (rows s scan_tests Table bytes mid) else unread (size_no s)) ≡ read_as scans fields → TableAt bytes scans fields
    sized-so s mid q false z h = absurd (unread-read h)
    sized-so s mid q true z h =
        let w = whole-got bytes s (rows s scan_tests Table bytes mid) h in
        let a : read_as scans fields ≡ read_as s w.numbers = w.reads in
        let p : scans ≡ s = cc in
        let f : fields ≡ w.numbers = cc in
        rw (p, f) (record {
          mid = mid;
          next = w.next;
          size = q;
          ranged = size-ranged s (eqb-true (size_no s) 0 z);
          body = w.body;
          ends = w.ends;
        })

    go : (a : Result Number ℕ) → read_number Table bytes 0 ≡ a → after_size bytes a ≡ read_as scans fields → TableAt bytes scans fields
    go (Err r) q h = absurd (unread-read h)
    go (Ok n) q h = sized-so n.value n.next q (eqb (size_no n.value) 0) refl h

-- numbers that were read are one for each test, and pass
run-passes : {limit : Limit} {bytes : List ℕ} {tests : List Test} {at : ℕ} {vs : List ℕ} {next : ℕ} → Run limit bytes tests at vs next → (length vs ≡ length tests) × (row_no tests vs ≡ 0)
unfolding row_no
run-passes none = (refl, refl)
run-passes (one {test = test} {tests = tests} {v = v} {vs = vs} e p r) =
    let i = run-passes r in
    (ap suc i.0, cons-row-no test tests v vs p i.1)

-- a table that was read has four numbers for each scan, and they pass
pub table-tested : (bytes : List ℕ) {scans : ℕ} {fields : List ℕ} → read_table bytes ≡ read_as scans fields → (length fields ≡ scans * 4) × (rows_no scans scan_tests fields ≡ 0)
table-tested bytes {scans} {fields} e =
    let t = table_got bytes e in
    let p = run-passes (row-run (times scans scan_tests) Table bytes t.mid (sym (rows_row scans scan_tests Table bytes t.mid) ∙ t.body)) in
    (p.0 ∙ times-length scans scan_tests, rows-no-row scans scan_tests fields ∙ p.1)

-- a table that was read has four numbers for each scan
pub table-count : (bytes : List ℕ) {scans : ℕ} {fields : List ℕ} → read_table bytes ≡ read_as scans fields → length fields ≡ scans * 4
table-count bytes e = (table-tested bytes e).0

-- the numbers of the scans are those that stand after the size
pub table-numbers : (bytes : List ℕ) {scans : ℕ} {fields : List ℕ} → Bytes bytes → read_table bytes ≡ read_as scans fields → numbers_at (scans * 4) Table bytes (length (form scans)) ≡ fields
table-numbers bytes {scans} b e =
    let t = table_got bytes e in
    let p : length (form scans) ≡ t.mid = omega (arith, (read-form Table bytes 0 scans t.mid b t.size).place) in
    rw (← table-count bytes e, p) (numbers-of-rows scans scan_tests Table bytes t.mid t.body)

-- ---- what reading into room answers

-- reading o into room answers w, with its number, and leaves e
abbrev pub Reads : FormRead ℕ → List ℕ → Result ℕ ℕ → List ℕ → Type 0
Reads o room w e = (w ≡ table_answer (into_room o room)) × (e ≡ after_room o room) × (no_in w ≡ room_no o room)

-- by what fills the room
reads : (o f : FormRead ℕ) (room : List ℕ) {e : List ℕ} {w : Result ℕ ℕ} → w ≡ table_answer f → Fills o room f e → Reads o room w e
reads o f room a h = (a ∙ ap table_answer h.0, h.1, ap no_in a ∙ answer-number f ∙ h.2)

-- checking gave n scans: the form was read and has n
pub record Checked (o : FormRead ℕ) (n : ℕ) : Type 0 where
  pub fields : List ℕ
  pub was : o ≡ read_as n fields

-- what an answer says by a number of scans
pub answer-scans : (o : FormRead ℕ) {n : ℕ} → table_answer o ≡ Ok n → Checked o n
unfolding table_answer
answer-scans (read_as s fields) {n} e = let p : s ≡ n = cc in record { fields = fields; was = ap (λ (k : ℕ). read_as k fields) p }
answer-scans (unread r) e = absurd (let z : ◌≡◌ {A = ℕ} 0 1 = cc in omega arith)

-- what an answer says by a refusal
pub answer-refused : (o : FormRead ℕ) {r : ℕ} → table_answer o ≡ Err r → o ≡ unread r
unfolding table_answer
answer-refused (read_as s fields) e = absurd (let z : ◌≡◌ {A = ℕ} 0 1 = cc in omega arith)
answer-refused (unread r) e = cc

module _ (bytes room : List ℕ) where
  -- the form is refused
  pub table-unread : (r : ℕ) → table_answer (read_table bytes) ≡ Err r → Reads (read_table bytes) room (Err r) room
  table-unread r e = let q = answer-refused (read_table bytes) e in reads (read_table bytes) (unread r) room (sym e ∙ ap table_answer q) (rw q (form-refused ℕ room r))

  -- the room is smaller than the scans
  pub table-narrow : (n : ℕ) → table_answer (read_table bytes) ≡ Ok n → length room < n * 4 → Reads (read_table bytes) room (Err 8) room
  unfolding table_answer
  table-narrow n e l =
      let k = answer-scans (read_table bytes) e in
      let c = table-count bytes k.was in
      reads (read_table bytes) (unread 8) room refl (rw k.was (room-short ℕ room n k.fields (omega arith)))

  -- the scans have room, and their numbers were taken from after the size
  pub table_taken : (n : ℕ) {w : ℕ} {e : List ℕ} → Bytes bytes → table_answer (read_table bytes) ≡ Ok n → n * 4 ≤ length room → w ≡ length (form n)
      → e ≡ sets room 0 (numbers_at (n * 4) Table bytes w) → Reads (read_table bytes) room (Ok n) e
  table_taken n {w} {e} b q l p t = let k = answer-scans (read_table bytes) q in go k.fields k.was
    where
      go : (fields : List ℕ) → read_table bytes ≡ read_as n fields → Reads (read_table bytes) room (Ok n) e
      go fields h =
          let c = table-count bytes h in
          let f : e ≡ sets room 0 fields = t ∙ rw (p, table-numbers bytes b h) in
          reads (read_table bytes) (read_as n fields) room (sym q ∙ ap table_answer h) (rw (h, f) (room-enough ℕ room n fields (omega arith)))
