use Rattle.std.proofs.Common.{◌≡◌, drop}
use Rattle.decisions.specs.Sending.{lacking}
use Rattle.machine.proofs.lent.room.Given as goal

-- the slots still to be searched lack as many of `left` as the table lacks of `need`
abbrev pub invariant-loop-m : goal.invariant-loop-m
invariant-loop-m l = lacking l.left (drop l.m-index l.t) ≡ lacking l.need l.t
