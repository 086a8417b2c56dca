use Rattle.std.proofs.Common.{sym, subst, ℕ, ◌<◌, arith}
use Rattle.machine.proofs.Readiness.{small-in}
use Rattle.machine.proofs.step.number_of.Goals as goal

pub overflow_cast-result : goal.overflow_cast-result
overflow_cast-result c = let h = subst (λ (k : ℕ). k < 256) (sym c.index_in.ensures) (small-in _ c.args.n 256 c.requires (omega arith)) in omega arith
