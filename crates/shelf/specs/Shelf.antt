-- The shelf question of document 01, "Clock and shelf".
use Rattle.std.specs.Prelude.{Bool, ◌&&◌, ◌||◌, Option, Some, None, Result, Ok, Err, List, [], ◌∷◌, ℕ, zero, suc, eqb, ltb}
use Rattle.std.specs.Prelude.{if◌then◌else◌}
use Rattle.choice.specs.Tests.{◌unless◌, refusal, ◌⨾◌, ok}
use Rattle.sets.specs.Scans.{holds, fits}
use Rattle.sets.specs.declared.ScanId.{ScanId}
use Rattle.sets.specs.declared.scans.Scans.{Scans}
use Rattle.forms.specs.Forms.{FormRead, read_as, unread}
use Rattle.scan_table.specs.Table.{tag_no, scan_tests, scan_at, scans_in, table_no}
use Rattle.shelf.specs.declared.Seen.{Seen}
use Rattle.shelf.specs.declared.Shown.{Shown}

-- after the table: a tag above 2 ^ 32 - 1, or a set holding a scan not below n, gives 3
unfoldable pub question_no : ℕ → Scans → ℕ → ℕ
question_no n set tag =
    refusal (tag_no tag)
    ⨾ 3 unless fits set n
    ⨾ ok

-- scan i of a table, with its number
abbrev pub seen_at : List ℕ → ℕ → Seen
seen_at fields i = record { number = record { 0 = i }; scan = scan_at fields i }

-- the order: by time, and on equal times by scan number
unfoldable pub comes_before : Seen → Seen → Bool
comes_before a b =
    ltb a.scan.time b.scan.time
    || eqb a.scan.time b.scan.time && ltb a.number.0 b.number.0

-- a scan of the set that has the tag
unfoldable pub is_candidate : Seen → Scans → ℕ → Bool
is_candidate seen set tag = eqb seen.scan.tag tag && holds set seen.number.0

-- the later of what was found and one scan more
unfoldable pub better : Option Seen → Seen → Option Seen
better None seen = Some seen
better (Some shown) seen = if comes_before shown seen then Some seen else Some shown

-- the last in the order, of the candidates among the first n scans
unfoldable pub newest : ℕ → List ℕ → Scans → ℕ → Option Seen
newest zero fields set tag = None
newest (suc n) fields set tag =
    if is_candidate (seen_at fields n) set tag
    then better (newest n fields set tag) (seen_at fields n)
    else newest n fields set tag

-- the answer: no scan of the tag in the set, the scan to show, or the number of a refusal
abbrev pub Shelf : Type 0
Shelf = Result (Option Shown) ℕ

-- the answer that shows a scan: its number, shelf and time
abbrev pub shows : ScanId → ℕ → ℕ → Shelf
shows number place time = Ok (Some (record { scan = number; shelf = place; time = time }))

-- what is shown of a scan: its number, shelf and time
abbrev pub shown_of : Seen → Shown
shown_of seen = record { scan = seen.number; shelf = seen.scan.shelf; time = seen.scan.time }

-- "none", or scan number, shelf and time
unfoldable pub shown : Option Seen → Shelf
shown None = Ok None
shown (Some seen) = Ok (Some (shown_of seen))

-- the answer on a table of n scans, unless r refuses the question
unfoldable pub asked_with : ℕ → ℕ → List ℕ → Scans → ℕ → Shelf
asked_with r n fields set tag = if eqb r 0 then shown (newest n fields set tag) else Err r

unfoldable pub ask : ℕ → List ℕ → Scans → ℕ → Shelf
ask n fields set tag = asked_with (question_no n set tag) n fields set tag

-- on a table that has been read, tested first is the table, in its reader's order
unfoldable pub where_is_no : List ℕ → Scans → ℕ → ℕ
where_is_no fields set tag =
    refusal (table_no scan_tests fields)
    ⨾ question_no (scans_in fields) set tag

unfoldable pub where_is : List ℕ → Scans → ℕ → Shelf
where_is fields set tag = asked_with (where_is_no fields set tag) (scans_in fields) fields set tag

-- on the written form, by what reading it gave: its refusal, or the question's
unfoldable pub where_is_written_no : FormRead ℕ → Scans → ℕ → ℕ
where_is_written_no (read_as n fields) set tag = question_no n set tag
where_is_written_no (unread r) set tag = r

unfoldable pub where_is_written : FormRead ℕ → Scans → ℕ → Shelf
where_is_written (read_as n fields) set tag = ask n fields set tag
where_is_written (unread r) set tag = Err r

-- whether a scan is shown, its number, its shelf and its time; a refusal leaves what stood there before
abbrev pub shelf_numbers : Shelf → List ℕ → List ℕ
shelf_numbers (Ok None) old = 0 ∷ 0 ∷ 0 ∷ 0 ∷ []
shelf_numbers (Ok (Some s)) old = 1 ∷ s.scan.0 ∷ s.shelf ∷ s.time ∷ []
shelf_numbers (Err r) old = old
