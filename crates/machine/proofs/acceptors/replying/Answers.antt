use Rattle.std.proofs.Common.{sym, ◌∙◌}
use Rattle.model.specs.Rules.{accepting, answering}
use Rattle.machine.proofs.acceptors.replying.Goals as goal

pub returns-then-accepts : goal.returns-then-accepts
unfolding answering accepting
returns-then-accepts c = let f = sym c.accepts.ensures ∙ c.if-accepts.true in simp (f, c.answer.ensures)

pub returns-else-accepts : goal.returns-else-accepts
unfolding answering
returns-else-accepts c = let f = sym c.accepts.ensures ∙ c.if-accepts.false in simp (f, c.answer.ensures)
