-- The lines of the first k events stand there, and so many of them are counted as ok.
use Rattle.std.proofs.Common.{◌≡◌}
use Rattle.machine.specs.Log.{answers_in}
use Rattle.printer.specs.Text.{lines_from, ok_count}
use Rattle.printer.proofs.RunText.add.Given as goal

abbrev pub invariant-loop-k : goal.invariant-loop-k
invariant-loop-k g l =
    let ws = answers_in l.self.log.now l.k in
    g.S.Sink.adds (lines_from l.self.scans 1 ws) l.initial.to l.to × (l.ok ≡ ok_count ws)
