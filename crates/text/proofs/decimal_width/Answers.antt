use native.Mathlib.Omega.{arith}
use borrow.Author.Rules.{rules}
use Rattle.text.proofs.Finding.{begin-count, count-few, count-more, count-last}
use Rattle.text.proofs.decimal_width.Goals as goal

pub loop-rest-init : goal.loop-rest-init
loop-rest-init c = begin-count c.args.value (search rules)

pub overflow_add-width : goal.overflow_add-width
overflow_add-width c = omega (arith, count-few c.loop-rest.invariant)

pub loop-rest-preserved : goal.loop-rest-preserved
loop-rest-preserved c = count-more c.loop-rest.invariant (omega arith)

pub returns : goal.returns
returns c = count-last c.loop-rest.invariant (omega arith)
