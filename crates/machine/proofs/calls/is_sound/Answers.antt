use Rattle.std.proofs.Common.{◌&&◌}
use Rattle.machine.proofs.calls.is_sound.Goals as goal

pub returns : goal.returns
returns c = λ i. c.sized.ensures i && c.all_in_range.ensures i && c.all_in_range-2.ensures i && c.all_in_range-3.ensures i && c.all_in_range-4.ensures i
