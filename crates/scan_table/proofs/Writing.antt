-- What writing a scan table answers, each answer with the buffer after it. Assumes nothing.
use mathlib.Core.Path.{◌≡◌}
use mathlib.Core.Bool.{true}
use mathlib.Core.List.{List}
use Prim.Native.Nat.{ℕ, ◌+◌, ◌<◌, ◌≤◌}
use native.Mathlib.Omega.{arith}
use lib.ListN.{length, length-append}
use Rattle.sizes.specs.Sizes.{scans_in_range}
use Rattle.numbers.specs.Coding.{most_of, form}
use Rattle.numbers.specs.declared.Limit.TheVariants.{Table}
use Rattle.std.specs.Prelude.{Result, Ok, Err}
use Rattle.numbers.proofs.Ends.{Ends, ends-append}
use Rattle.numbers.proofs.Puts.{Puts, refuses, no_room, put-wrote}
use Rattle.forms.specs.Forms.{forms}
use Rattle.scan_table.specs.Table.{scans_in, table_no, written_tests, table_form}
use Rattle.sizes.proofs.SizeLaws.{scans-ranged}

-- how long the form of a table is
pub form-length : (fields : List ℕ) → length (table_form fields) ≡ length (form (scans_in fields)) + length (forms fields)
unfolding table_form forms
form-length fields = length-append (form (scans_in fields)) (forms fields)

-- a size in range is within the coding's limit
pub size-within : (s : ℕ) → scans_in_range s ≡ true → s ≤ most_of Table
unfolding most_of
size-within s h = omega (arith, scans-ranged s h)

module _ (fields d : List ℕ) where
  -- writing the table into d answers w and leaves e; w has its number
  abbrev pub Writes : Result ℕ ℕ → List ℕ → Type 0
  Writes w e = Puts (table_no written_tests fields) (table_form fields) d 0 w e

  -- a number is refused
  pub table-refused : (table_no written_tests fields ≡ 0 → ⊥) → Writes (Err (table_no written_tests fields)) d
  table-refused h = refuses (table_no written_tests fields) (table_form fields) d 0 h

  -- the form has no room
  pub table-short : table_no written_tests fields ≡ 0 → length d < length (table_form fields) → Writes (Err 8) d
  table-short e h = no_room (table_no written_tests fields) (table_form fields) d 0 e (omega arith)

  -- the size is put, and then the numbers after it
  pub wrote-both : {m n : ℕ} {b e : List ℕ} → table_no written_tests fields ≡ 0 → length (table_form fields) ≤ length d
      → Ends (form (scans_in fields)) d 0 m b → Ends (forms fields) b m n e → Writes (Ok n) e
  unfolding table_form forms
  wrote-both z h p q = put-wrote (table_no written_tests fields) (table_form fields) d 0 z (omega arith) (ends-append (form (scans_in fields)) (forms fields) d 0 p q)
