-- `number` of a page meets its contract. Assumes nothing.
use Rattle.text.specs.Digits.{decimal}
use Rattle.printer.specs.Sinking.{added}
use Rattle.printer.proofs.sinks.PageSink.number.Goals as goal

pub returns : goal.returns
returns c = let p = c.pass in added (decimal c.args.value) c.args.self.now p.new.self c.decimal_width.ensures c.put_decimal.ensures p.ensures.same p.ensures.bytes p.ensures.place
