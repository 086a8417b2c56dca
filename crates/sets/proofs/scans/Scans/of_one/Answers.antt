use borrow.Author.Rules.{rules}
use Rattle.sets.specs.Scans.{only, wordwise}
use mathlib.Core.Path.{◌≡◌}
use Prim.Native.Nat.{◌/◌, ◌%◌}
use native.Mathlib.Omega.{arith}
use borrow.Author.Tests.{ne_eqb}
use Rattle.sets.proofs.Masks.{one_shifted}
use Rattle.sets.proofs.scans.Scans.of_one.Goals as goal

pub returns-then-k-lt-MOST_SCANS : goal.returns-then-k-lt-MOST_SCANS
unfolding only wordwise
returns-then-k-lt-MOST_SCANS c = let k = c.args.scan.0 in
    let z : k / 64 ≡ 0 = omega arith in
    let r : k % 64 ≡ k = omega arith in
    simp (z, r, one_shifted 64 k (search rules))

pub returns-else-k-lt-MOST_SCANS : goal.returns-else-k-lt-MOST_SCANS
unfolding only wordwise
returns-else-k-lt-MOST_SCANS c = let k = c.args.scan.0 in
    simp (ne_eqb (k / 64) 0 (λ z. omega arith))
