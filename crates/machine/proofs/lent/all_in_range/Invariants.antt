use Rattle.std.proofs.Common.{◌≡◌, ◌&&◌, drop}
use Rattle.model.specs.Ranges.{all}
use Rattle.machine.proofs.lent.all_in_range.Given as goal

-- what was found and what is left come to the answer
abbrev pub invariant-loop-x : goal.invariant-loop-x
invariant-loop-x g l = let f = g.R.Record.is_in_range l.z in (l.sound && all f (drop l.x-index l.t)) ≡ all f l.t
