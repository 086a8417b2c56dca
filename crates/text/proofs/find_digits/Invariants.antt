-- The digits of the rest, with those found, make the whole.
use Rattle.std.proofs.Common.{◌≡◌, ◌++◌, length, drop}
use Rattle.text.specs.Digits.{digits_of}
use Rattle.text.proofs.find_digits.Given as goal

abbrev pub invariant-loop-place : goal.invariant-loop-place
invariant-loop-place g l = digits_of g.row.BASE l.place l.rest ++ drop l.place l.digits ≡ digits_of g.row.BASE (length l.fn.digits) l.value
