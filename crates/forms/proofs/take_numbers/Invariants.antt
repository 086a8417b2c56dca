-- The loop's invariant: storing the numbers that are left makes what storing all of them makes.
use Rattle.std.proofs.Common.{◌≡◌, ◌-◌}
use lib.Seq.{sets}
use Rattle.forms.specs.Forms.{numbers_at}
use Rattle.forms.proofs.take_numbers.Given as goal

abbrev pub invariant-loop-i : goal.invariant-loop-i
invariant-loop-i l = sets l.initial.room 0 (numbers_at l.count l.limit l.bytes l.at) ≡ sets l.room l.i (numbers_at (l.count - l.i) l.limit l.bytes l.next)
