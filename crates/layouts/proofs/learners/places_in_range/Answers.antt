use mathlib.Core.Path.{refl, ◌∙◌}
use borrow.Author.Rules.{rules}
use Rattle.std.proofs.lemmas.Iterator.{YieldsList-from_range}
use Rattle.std.proofs.lemmas.Iterator.Search.{all_from_yields_List}
use Rattle.model.specs.Ranges.{heard_in_range}
use Rattle.layouts.specs.Layout.{heard_place, heard_at}
use Rattle.layouts.proofs.Places.{places-tested}
use Rattle.layouts.proofs.learners.places_in_range.Goals as goal

pub returns : goal.returns
returns c = let a = c.args in
    all_from_yields_List (λ i. heard_in_range a.z (heard_at a.kept.now (heard_place i))) _ _ c.all.result c.all.ensures.ran (YieldsList-from_range 0 a.count a.count refl (search rules)) (λ x b q k. search rules)
    ∙ places-tested a.z a.count a.kept.now
