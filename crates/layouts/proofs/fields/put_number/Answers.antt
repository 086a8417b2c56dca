use mathlib.Core.List.{List}
use mathlib.Core.Path.{ap, ◌∙◌}
use Prim.Native.Nat.{ℕ}
use lib.Seq.{sets}
use Rattle.layouts.proofs.Words.{bytes-written}
use Rattle.layouts.proofs.fields.put_number.Goals as goal

pub returns : goal.returns
returns c = c.put.ensures ∙ ap (λ (l : List ℕ). sets c.args.bytes.now c.args.at l) (c.to_le_bytes.ensures ∙ bytes-written 2 c.args.number)
