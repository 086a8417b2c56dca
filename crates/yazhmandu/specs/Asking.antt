-- The shelf question as a C program has it: what a call of ymd_where_is gives, and what it shows by its four numbers.
use Rattle.std.specs.Prelude.{◌≡◌, List, ℕ, get_or}
use Rattle.choice.specs.Refusals.{no_in}
use Rattle.shelf.specs.Shelf.{shelf_numbers}
use Rattle.yazhmandu.specs.Calls.{where_is_bytes}

-- a call on a table, a set and a tag, that gave r and left `found` where `old` stood: the promise of ymd_where_is
abbrev pub WhereIsCall : List ℕ → List ℕ → ℕ → List ℕ → ℕ → List ℕ → Type 0
WhereIsCall table set tag old r found =
    (r ≡ no_in (where_is_bytes table set tag))
    × (found ≡ shelf_numbers (where_is_bytes table set tag) old)

-- it was not refused, and a scan is shown
abbrev pub ShowsScan : ℕ → List ℕ → Type 0
ShowsScan r found = (r ≡ 0) × (get_or found 0 0 ≡ 1)

-- the time of the scan that is shown
abbrev pub time_in : List ℕ → ℕ
time_in found = get_or found 3 0
