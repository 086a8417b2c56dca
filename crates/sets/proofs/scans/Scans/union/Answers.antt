use mathlib.Core.Path.{refl}
use Rattle.sets.specs.Scans.{◌∪◌, wordwise, word}
use Rattle.sets.proofs.scans.Scans.union.Goals as goal

pub returns : goal.returns
unfolding ◌∪◌ wordwise word
returns c = refl
