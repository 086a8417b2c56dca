use native.Mathlib.Omega.{arith}
use Rattle.forms.proofs.Putting.{more, last}
use Rattle.forms.proofs.put_numbers.Goals as goal

pub loop-number-preserved : goal.loop-number-preserved
loop-number-preserved c = more c.loop-number.invariant c.loop-number-test.true c.put_number-next.ensures

pub returns : goal.returns
returns c = last c.loop-number.invariant (omega arith)
