-- The loop's invariant: the widths so far and those of the numbers that are left make the whole.
use Rattle.std.proofs.Common.{◌≡◌, ◌+◌, length, drop}
use Rattle.forms.specs.Forms.{forms}
use Rattle.schedule.specs.Schedule.{numbers_of}
use Rattle.schedule.proofs.header_width.Given as goal

abbrev pub invariant-loop-number : goal.invariant-loop-number
invariant-loop-number l = l.width + length (forms (drop l.number-index (numbers_of l.fn.header))) ≡ length (forms (numbers_of l.fn.header))
