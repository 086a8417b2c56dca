-- The loop's invariant: the numbers that are left, put from `next` on, make the whole.
use Rattle.forms.proofs.Putting.{Left}
use Rattle.forms.proofs.put_numbers.Given as goal

abbrev pub invariant-loop-number : goal.invariant-loop-number
invariant-loop-number l = Left l.fn.values l.initial.buffer l.fn.at l.buffer l.next l.number-index
