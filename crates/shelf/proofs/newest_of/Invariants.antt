-- What is found so far is the newest of the scans passed.
use mathlib.Core.Path.{◌≡◌}
use Rattle.shelf.specs.Shelf.{newest}
use Rattle.shelf.proofs.newest_of.Given as goal

abbrev pub invariant-loop-i : goal.invariant-loop-i
invariant-loop-i l = l.found ≡ newest l.i l.fields l.set l.tag
