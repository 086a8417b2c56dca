use Rattle.std.proofs.Common.{◌≡◌, ◌-◌, length}
use Rattle.machine.specs.Slots.{lowest_from}
use Rattle.machine.proofs.lent.next_free.Given as goal

-- the lowest free slot lies from `at` on
abbrev pub invariant-loop-at : goal.invariant-loop-at
invariant-loop-at l = lowest_from l.at l.t ≡ lowest_from l.from l.t

abbrev pub decreases-loop-at : goal.decreases-loop-at
decreases-loop-at l = length l.t - l.at
