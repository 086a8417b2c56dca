use Rattle.std.proofs.Common.{◌≡◌}
use Rattle.machine.specs.Running.{Ran, ran_to}
use Rattle.machine.proofs.running.drive.Given as goal

-- what is left is that of the first k events
abbrev pub invariant-loop-k : goal.invariant-loop-k
invariant-loop-k l =
    ◌≡◌ {A = Ran} (record { proposers = l.ps; acceptors = l.acs; learners = l.ls; slots = l.t; log = l.log })
    (ran_to l.z l.events (record { proposers = l.initial.ps; acceptors = l.initial.acs; learners = l.initial.ls; slots = l.initial.t; log = l.initial.log }) l.k)
