-- The ranges of a run's sizes, as facts on numbers.
use mathlib.Core.Path.{◌≡◌}
use mathlib.Core.Bool.{true}
use Prim.Native.Nat.{ℕ, ◌≤◌}
use borrow.Author.Tests.{leb-true}
use Rattle.choice.proofs.Tests.{and_l, and_r}
use Rattle.sets.specs.Acceptors.{most_acceptors}
use Rattle.sets.specs.Scans.{most_scans}
use Rattle.sizes.specs.Sizes.{scans_in_range, sizes_in_range}
use Rattle.sizes.specs.declared.Sizes.{Sizes}

pub record Bounds (z : Sizes) : Type 0 where
  pub some-proposers : 1 ≤ z.proposers
  pub few-proposers : z.proposers ≤ 8
  pub some-acceptors : 1 ≤ z.acceptors
  pub few-acceptors : z.acceptors ≤ 7
  pub some-learners : 1 ≤ z.learners
  pub few-learners : z.learners ≤ 8
  pub some-slots : 16 ≤ z.slots
  pub few-slots : z.slots ≤ 512
  pub some-scans : 1 ≤ z.scans
  pub few-scans : z.scans ≤ 64

pub bounds : (z : Sizes) → sizes_in_range z ≡ true → Bounds z
unfolding sizes_in_range scans_in_range most_scans most_acceptors
bounds z h = record {
  some-proposers = search (and_l, and_r, leb-true) depth 9;
  few-proposers = search (and_l, and_r, leb-true) depth 9;
  some-acceptors = search (and_l, and_r, leb-true) depth 9;
  few-acceptors = search (and_l, and_r, leb-true) depth 9;
  some-learners = search (and_l, and_r, leb-true) depth 9;
  few-learners = search (and_l, and_r, leb-true) depth 9;
  some-slots = search (and_l, and_r, leb-true) depth 9;
  few-slots = search (and_l, and_r, leb-true) depth 9;
  some-scans = search (and_l, and_r, leb-true) depth 9;
  few-scans = search (and_l, and_r, leb-true) depth 9;
}

-- how many scans a table may have
pub scans-ranged : (s : ℕ) → scans_in_range s ≡ true → (1 ≤ s) × (s ≤ 64)
unfolding scans_in_range most_scans
scans-ranged s h = (search (and_l, and_r, leb-true) depth 9, search (and_l, and_r, leb-true) depth 9)
