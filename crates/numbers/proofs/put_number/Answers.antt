use Rattle.std.proofs.Common.{rules}
use native.Mathlib.Omega.{arith}
use Rattle.numbers.specs.Coding.{put_end}
use Rattle.numbers.proofs.Forms.{begin, more, last, full}
use Rattle.numbers.proofs.put_number.Goals as goal

pub loop-i-init : goal.loop-i-init
loop-i-init c = begin c.args.buffer.now c.args.at c.args.value (search rules)

pub returns-then-rest-lt128 : goal.returns-then-rest-lt128
returns-then-rest-lt128 c = last c.loop-i.invariant (omega arith) (omega arith)

pub loop-i-preserved : goal.loop-i-preserved
loop-i-preserved c = more c.loop-i.invariant (omega arith) (omega arith)

pub returns : goal.returns
unfolding put_end
returns c = let f = full c.loop-i.invariant (omega arith) in (omega (arith, f.0), f.1)
