use Rattle.std.proofs.Common.{sym, ◌∙◌, arith}
use Rattle.choice.specs.Tests.{ok}
use Rattle.choice.proofs.Tests.{test-passed}
use Rattle.sizes.proofs.SizeLaws.{scans-ranged}
use Rattle.machine.proofs.acceptors.check_answer.Goals as goal

pub overflow_cast-scans : goal.overflow_cast-scans
overflow_cast-scans c = let h = test-passed 0 c.scans_in_range.result ok (sym c.in_ok-refuse_unless.ensures) in omega (arith, scans-ranged _ (sym c.scans_in_range.ensures ∙ h))
