use Rattle.machine.proofs.Posting.{Sends}
use Rattle.machine.proofs.lent.send_all.Given as goal

abbrev pub invariant-loop-j : goal.invariant-loop-j
invariant-loop-j l = Sends l.s l.initial.t l.j l.at l.t
