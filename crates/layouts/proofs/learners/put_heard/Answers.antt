use mathlib.Core.Path.{ap, ◌∙◌}
use Prim.Native.Nat.{ℕ}
use lib.Seq.{sets}
use Rattle.layouts.specs.Layout.{heard_bytes}
use Rattle.layouts.proofs.Places.{put-heard-fields}
use Rattle.layouts.proofs.learners.put_heard.Goals as goal

pub returns : goal.returns
returns c = let a = c.args in
    put-heard-fields a.kept.now c.place_of-at.result a.heard c.put_number.ensures c.put_set.ensures c.put_acceptors.ensures
    ∙ ap (λ (k : ℕ). sets a.kept.now k (heard_bytes a.heard)) c.place_of-at.ensures
