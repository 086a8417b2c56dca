-- The steps of the shelf question: one scan more, a table's size, the tests of a question, and a table that was read into room. Assumes nothing.
use mathlib.Core.Path.{◌≡◌, refl, sym, ap, ◌∙◌}
use mathlib.Core.Bool.{Bool, true, false}
use mathlib.Core.List.{List}
use mathlib.Core.Logic.{⊎_elim}
use Prim.Native.Nat.{ℕ, ◌+◌, ◌-◌, ◌*◌, ◌^◌, ◌<◌, ◌≤◌}
use native.Mathlib.Omega.{arith}
use native.Mathlib.Numerals.{add-one}
use lib.Dec.{eqb}
use lib.ListN.{length, drop, take}
use lib.Seq.{sets-eq, take_at}
use borrow.Author.Tests.{le-leb, eqb-true, ne_eqb}
use Rattle.std.specs.Prelude.{Option, Some, None, Ok, Err, if◌then◌else◌}
use Rattle.choice.specs.Refusals.{no_in}
use Rattle.sets.specs.Scans.{most_scans, fits}
use Rattle.sets.specs.declared.scans.Scans.{Scans}
use Rattle.choice.proofs.Tests.{stands}
use Rattle.forms.specs.Forms.{FormRead, read_as, unread, into_room, after_room}
use Rattle.scan_table.specs.Table.{tag_no, scan_tests, scan_at, scans_in, table_no, read_table, table_answer}
use Rattle.sizes.proofs.SizeLaws.{scans-ranged}
use Rattle.scan_table.proofs.Testing.{table-passes}
use Rattle.scan_table.proofs.Tables.{table_got, table-count}
use Rattle.scan_table.proofs.TableLaws.{Narrow, read-refusals, read-scans}
use Rattle.shelf.specs.declared.Seen.{Seen}
use Rattle.shelf.specs.Shelf.{Shelf, seen_at, is_candidate, better, newest, shown, question_no, asked_with, ask, where_is, where_is_no, where_is_written, where_is_written_no}

-- ---- one scan more

-- what is found with one scan more, where that scan was considered
pub newest-next : (fields : List ℕ) (set : Scans) (tag i : ℕ) {found : Option Seen}
    → found ≡ (if is_candidate (seen_at fields i) set tag then better (newest i fields set tag) (seen_at fields i) else newest i fields set tag)
    → found ≡ newest (i + 1) fields set tag
unfolding newest
newest-next fields set tag i e = rw (add-one i) e

-- the same, by what was found before it
pub newest-considered : (fields : List ℕ) (set : Scans) (tag i : ℕ) {before after found : Option Seen} → before ≡ newest i fields set tag
    → after ≡ (if is_candidate (seen_at fields i) set tag then better before (seen_at fields i) else before) → found ≡ after
    → found ≡ newest (i + 1) fields set tag
newest-considered fields set tag i b e f = newest-next fields set tag i (f ∙ e ∙ rw b)

-- a scan of another tag is passed over
pub newest-other : (fields : List ℕ) (set : Scans) (tag i : ℕ) {found : Option Seen} → found ≡ newest i fields set tag → ((scan_at fields i).tag ≡ tag → ⊥)
    → found ≡ newest (i + 1) fields set tag
unfolding newest is_candidate
newest-other fields set tag i e h = rw (add-one i, ne_eqb (scan_at fields i).tag tag h) e

-- ---- the table

-- without a refusal it has no more scans than their numbers reach
pub table_small : (fields : List ℕ) → 0 ≡ table_no scan_tests fields → scans_in fields < 65_536
unfolding most_scans
table_small fields e = omega (arith, (scans-ranged (scans_in fields) (table-passes scan_tests fields (sym e)).ranged).1)

-- ---- the question

module _ (n : ℕ) (fields : List ℕ) (set : Scans) (tag : ℕ) where
  -- the newest is shown
  pub ask-newest : tag ≤ 2 ^ 32 - 1 → fits set n ≡ true → ask n fields set tag ≡ shown (newest n fields set tag)
  unfolding ask asked_with question_no tag_no
  ask-newest h e = rw (le-leb tag (2 ^ 32 - 1) h, e)

module _ (fields : List ℕ) (set : Scans) (tag : ℕ) where
  -- the table is refused
  pub where-refused : (table_no scan_tests fields ≡ 0 → ⊥) → where_is fields set tag ≡ Err (table_no scan_tests fields)
  unfolding where_is where_is_no asked_with
  where-refused h = rw (stands (table_no scan_tests fields) (question_no (scans_in fields) set tag) h, ne_eqb (table_no scan_tests fields) 0 h)

  -- the question is asked
  pub where-asked : table_no scan_tests fields ≡ 0 → where_is fields set tag ≡ ask (scans_in fields) fields set tag
  unfolding where_is where_is_no ask
  where-asked h = rw h

-- ---- the number of an answer

-- the newest, or none, is no refusal
shown-number : (found : Option Seen) → no_in (shown found) ≡ 0
unfolding shown
shown-number None = refl
shown-number (Some seen) = refl

answer-number : (r n : ℕ) (fields : List ℕ) (set : Scans) (tag : ℕ) → no_in (asked_with r n fields set tag) ≡ r
unfolding asked_with
answer-number r n fields set tag = go (eqb r 0) refl
  where
    go : (t : Bool) → eqb r 0 ≡ t → no_in (if t then shown (newest n fields set tag) else Err r) ≡ r
    go true e = shown-number (newest n fields set tag) ∙ sym (eqb-true r 0 e)
    go false e = refl

-- the question on a table has the number of its refusal
pub where-number : (fields : List ℕ) (set : Scans) (tag : ℕ) → no_in (where_is fields set tag) ≡ where_is_no fields set tag
unfolding where_is
where-number fields set tag = answer-number (where_is_no fields set tag) (scans_in fields) fields set tag

-- and so has the question on the written form
pub written-number : (o : FormRead ℕ) (set : Scans) (tag : ℕ) → no_in (where_is_written o set tag) ≡ where_is_written_no o set tag
unfolding where_is_written where_is_written_no ask
written-number (read_as n fields) set tag = answer-number (question_no n set tag) n fields set tag
written-number (unread r) set tag = refl

-- an answer to the question on the written form, with its number
pub asked-written : (o : FormRead ℕ) (set : Scans) (tag : ℕ) {w : Shelf} → w ≡ where_is_written o set tag → (w ≡ where_is_written o set tag) × (no_in w ≡ where_is_written_no o set tag)
asked-written o set tag e = (e, ap no_in e ∙ written-number o set tag)

-- ---- a table that was read into room

-- so it is with a table that was read
pub scans-most : (bytes : List ℕ) {n : ℕ} {fields : List ℕ} → read_table bytes ≡ read_as n fields → n ≤ most_scans
unfolding most_scans
scans-most bytes {n} e = (scans-ranged n (table_got bytes e).ranged).1

-- and with one that was read into room
pub written-most : (bytes room : List ℕ) {n : ℕ} → table_answer (into_room (read_table bytes) room) ≡ Ok n → n ≤ most_scans
written-most bytes room {n} e = scans-most bytes (read-scans bytes room n e).accepted

module _ (bytes room : List ℕ) (set : Scans) (tag : ℕ) where
  -- the table is read: its numbers stand at the start of the room, and the question on them is the question on the table
  pub written-asked : (n : ℕ) (s : List ℕ) → table_answer (into_room (read_table bytes) room) ≡ Ok n → s ≡ take (n * 4) (after_room (read_table bytes) room)
      → ask (scans_in s) s set tag ≡ where_is_written (read_table bytes) set tag
  unfolding where_is_written
  written-asked n s e t =
      let f = read-scans bytes room n e in
      let l = table-count bytes f.accepted in
      let fit = f.fits in
      let q : s ≡ f.fields = t ∙ ap (take (n * 4)) (f.filled ∙ sets-eq f.fields room 0 (omega arith)) ∙ take_at f.fields (drop (0 + length f.fields) room) (n * 4) l in
      let m : scans_in f.fields ≡ n = omega arith in
      let w : where_is_written (read_table bytes) set tag ≡ ask n f.fields set tag = ap (λ (o : FormRead ℕ). where_is_written o set tag) f.accepted in
      rw (q, m, w)

  -- the table is refused: room of four numbers for each scan is enough for every table
  pub written-refused : (r : ℕ) → 4 * most_scans ≤ length room → table_answer (into_room (read_table bytes) room) ≡ Err r → Err r ≡ where_is_written (read_table bytes) set tag
  unfolding where_is_written
  written-refused r h e =
      ⊎_elim
      (λ (q : read_table bytes ≡ unread r). rw q)
      (λ (q : (r ≡ 8) × Narrow bytes room). absurd (omega (arith, q.1.short, scans-most bytes q.1.accepted)))
      (read-refusals bytes room r e)
