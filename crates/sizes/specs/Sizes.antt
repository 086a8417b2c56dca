-- The sizes of a run: proposers P 1 to 8, acceptors A 1 to 7, learners L 1 to 8, message slots M 16 to 512, scans S 1 to 64.
use Rattle.std.specs.Prelude.{Bool, ◌&&◌, ℕ, leb}
use Rattle.sets.specs.Scans.{most_scans}
use Rattle.sets.specs.Acceptors.{most_acceptors}
use Rattle.sizes.specs.declared.Sizes.{Sizes}

abbrev pub between : ℕ → ℕ → ℕ → Bool
between least greatest n = leb least n && leb n greatest

unfoldable pub scans_in_range : ℕ → Bool
scans_in_range s = between 1 most_scans s

unfoldable pub sizes_in_range : Sizes → Bool
sizes_in_range z =
    between 1 8 z.proposers
    && between 1 most_acceptors z.acceptors
    && between 1 8 z.learners
    && between 16 512 z.slots
    && scans_in_range z.scans
