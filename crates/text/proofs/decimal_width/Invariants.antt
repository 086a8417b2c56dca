-- `text::decimal_width` meets its contract. The loop's invariant: the digits of the rest, with those that were counted, make the number. The
-- measure is the rest. Assumes nothing.
use Rattle.text.proofs.Finding.{Counted}
use Rattle.text.proofs.decimal_width.Given as goal

-- measure is the rest. Assumes nothing.
abbrev pub invariant-loop-rest : goal.invariant-loop-rest
invariant-loop-rest l = Counted l.value l.width l.rest

abbrev pub decreases-loop-rest : goal.decreases-loop-rest
decreases-loop-rest l = l.rest
