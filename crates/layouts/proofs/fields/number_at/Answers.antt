use mathlib.Core.Path.{◌∙◌}
use Rattle.layouts.proofs.Words.{two-read}
use Rattle.layouts.proofs.fields.number_at.Goals as goal

pub returns : goal.returns
returns c = c.from_le_bytes.ensures ∙ two-read c.args.bytes.now c.read.result c.args.at c.read.ensures
