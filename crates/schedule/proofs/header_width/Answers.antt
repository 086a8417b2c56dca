use Rattle.std.proofs.Common.{◌≡◌, ap, ◌+◌, length, drop, arith}
use lib.ListN.{get_or}
use Rattle.numbers.specs.Coding.{form}
use Rattle.forms.specs.Forms.{forms}
use Rattle.forms.proofs.Steps.{forms-next-length, forms-none}
use Rattle.schedule.specs.Schedule.{numbers_of}
use Rattle.schedule.proofs.Sixes.{six-count, six-most}
use Rattle.schedule.proofs.header_width.Goals as goal
use Rattle.schedule.proofs.header_width.Goals.{After-width-width}

-- the next number's form and those that are left
next : (c : After-width-width)
    → let six = numbers_of c.args.header in
    length (forms (drop c.loop-number.number-index six)) ≡ c.width-width.result + length (forms (drop (c.loop-number.number-index + 1) six))
next c =
    let six = numbers_of c.args.header in
    let i = c.loop-number.number-index in
    let w : c.width-width.result ≡ length (form (get_or six i 0)) = rw (← c.from-number-items.ensures) c.width-width.ensures in
    omega (arith, w, forms-next-length six i (omega (arith, six-count c.args.header)))

pub overflow_add-width : goal.overflow_add-width
overflow_add-width c = omega (arith, next (goal.at.overflow_add-width c).After-width-width, six-most c.args.header)

pub loop-number-preserved : goal.loop-number-preserved
loop-number-preserved c = omega (arith, next (goal.at.loop-number-preserved c).After-width-width)

pub returns : goal.returns
returns c =
    let six = numbers_of c.args.header in
    omega (arith, ap length (forms-none six c.loop-number.number-index (omega (arith, six-count c.args.header))))
