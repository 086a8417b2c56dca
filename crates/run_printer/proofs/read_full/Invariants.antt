use Rattle.std.proofs.Common.{length, ◌-◌, ◌≤◌, take}
use Rattle.std.specs.Io.KnownBytes.{Consumes}
use Rattle.run_printer.proofs.read_full.Given as goal

abbrev pub invariant-loop-got : goal.invariant-loop-got
invariant-loop-got g l = (l.got ≤ length l.buffer) × Consumes (g.R.Read.remaining l.fn.input) (g.R.Read.remaining l.input) (take l.got l.buffer)

abbrev pub decreases-loop-got : goal.decreases-loop-got
decreases-loop-got g l = length l.buffer - l.got
