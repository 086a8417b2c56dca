-- The loop's invariant: all the forms have room where those of the numbers that are left have the room that is left.
use Rattle.std.proofs.Common.{◌≡◌}
use lib.Dec.{leb}
use lib.ListN.{length, drop}
use Rattle.forms.specs.Forms.{forms}
use Rattle.forms.proofs.fit_in.Given as goal

abbrev pub invariant-loop-value : goal.invariant-loop-value
invariant-loop-value l = leb (length (forms l.fn.values)) l.fn.room ≡ leb (length (forms (drop l.value-index l.fn.values))) l.left
