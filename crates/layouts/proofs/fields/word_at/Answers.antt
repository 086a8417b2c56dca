use mathlib.Core.Path.{◌∙◌}
use Rattle.layouts.proofs.Words.{eight-read}
use Rattle.layouts.proofs.fields.word_at.Goals as goal

pub returns : goal.returns
returns c = c.from_le_bytes.ensures ∙ eight-read c.args.bytes.now c.read.result c.args.at c.read.ensures
