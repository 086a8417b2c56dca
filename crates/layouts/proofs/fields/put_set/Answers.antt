use mathlib.Core.List.{List}
use mathlib.Core.Path.{ap, ◌∙◌}
use Prim.Native.Nat.{ℕ}
use lib.Seq.{sets}
use Rattle.layouts.specs.Layout.{word_bytes}
use Rattle.layouts.proofs.Words.{bytes-written}
use Rattle.layouts.proofs.fields.put_set.Goals as goal

pub returns : goal.returns
returns c = let a = c.args in
    c.put.ensures
    ∙ ap (λ (l : List ℕ). sets a.bytes.now a.at l) (c.to_le_bytes.ensures ∙ bytes-written 8 c.from-word.result ∙ ap (λ (w : ℕ). word_bytes 8 w) c.from-word.ensures)
