-- `word` of a page meets its contract. Assumes nothing.
use Rattle.std.proofs.Common.{refl}
use Rattle.printer.specs.Sinking.{added}
use Rattle.printer.proofs.sinks.PageSink.word.Goals as goal

pub returns : goal.returns
returns c = let p = c.pass in added c.args.word.now c.args.self.now p.new.self refl c.put_word.ensures p.ensures.same p.ensures.bytes p.ensures.place
