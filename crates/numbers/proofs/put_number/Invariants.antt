-- The loop's invariant: what is left, put from `i` on, makes the whole.
use Rattle.numbers.proofs.Forms.{Left}
use Rattle.numbers.proofs.put_number.Given as goal

abbrev pub invariant-loop-i : goal.invariant-loop-i
invariant-loop-i l = Left l.initial.buffer l.at l.value l.buffer l.i l.rest
