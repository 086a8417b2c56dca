-- `text::find_digits` meets its contract. Assumes nothing.
use Rattle.std.proofs.Common.{arith}
use Rattle.text.proofs.Finding.{begin-found, more-found, last-found}
use Rattle.text.proofs.find_digits.Goals as goal

pub loop-place-init : goal.loop-place-init
loop-place-init g c = begin-found g.row.BASE c.args.value c.args.digits.now

pub loop-place-preserved : goal.loop-place-preserved
loop-place-preserved g c = let l = c.loop-place in
    rw c.digit_byte.ensures (more-found g.row.BASE l.place l.rest l.digits l.invariant c.loop-place-test.true (omega (arith, l.auto.digits, l.auto.place)))

pub returns : goal.returns
returns g c = let l = c.loop-place in
    last-found g.row.BASE l.place l.rest l.digits l.invariant c.loop-place-test.false
