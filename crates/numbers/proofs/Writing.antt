-- The refusals of a writer of a number. Assumes nothing.
use mathlib.Core.List.{List}
use Prim.Native.Nat.{ℕ, ◌+◌, ◌<◌, ◌≤◌}
use native.Mathlib.Omega.{arith}
use lib.ListN.{length}
use Rattle.std.specs.Prelude.{Err}
use Rattle.numbers.specs.declared.Limit.{Limit}
use Rattle.numbers.specs.Coding.{most_of, form, limit_no}
use Rattle.numbers.proofs.CodingLaws.{limit-within, limit-above}
use Rattle.numbers.proofs.Puts as put
use Rattle.numbers.proofs.Puts.{Puts}

module _ (limit : Limit) (v : ℕ) (d : List ℕ) (at : ℕ) where
  -- a number above the limit
  pub too_large : most_of limit < v → Puts (limit_no limit v) (form v) d at (Err 12) d
  too_large h = rw (limit-above limit v h) (put.refuses 12 (form v) d at (λ z. omega arith))

  -- no room for the form
  pub no_room : v ≤ most_of limit → length d < at + length (form v) → Puts (limit_no limit v) (form v) d at (Err 8) d
  no_room h l = put.no_room (limit_no limit v) (form v) d at (limit-within limit v h) l
