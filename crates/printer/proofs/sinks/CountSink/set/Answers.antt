-- `set` of a count meets its contract. Assumes nothing.
use Rattle.std.proofs.Common.{arith}
use Rattle.printer.proofs.Lengths.{set-length}
use Rattle.printer.proofs.sinks.CountSink.set.Goals as goal

pub returns : goal.returns
returns c h = omega (arith, h, c.add.ensures, c.set_width.ensures, set-length c.args.scans c.args.set)
