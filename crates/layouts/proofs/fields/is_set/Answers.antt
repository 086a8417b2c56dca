use Prim.Native.Nat.{◌<◌, ◌^◌}
use native.Mathlib.Omega.{arith}
use borrow.Author.Tests.{eq-eqb, ne_eqb}
use Rattle.sets.specs.Scans.{most_scans}
use Rattle.sets.proofs.ScanLaws.{fits-first}
use Rattle.layouts.specs.Layout.{word_at, set_at, is_set}
use Rattle.layouts.proofs.Words.{word_small}
use Rattle.layouts.proofs.Wide.{fits-min}
use Rattle.layouts.proofs.fields.is_set.Goals as goal

pub returns-then-bytes : goal.returns-then-bytes
unfolding is_set
returns-then-bytes c = simp (ne_eqb _ _ c.if-bytes.true)

pub returns : goal.returns
unfolding is_set most_scans
returns c = let bytes = c.args.bytes.now in
    let small : word_at 8 bytes 0 < 2 ^ 64 = word_small bytes (λ k. omega (arith, c.type_inv.bytes k)) 8 0 in
    simp (eq-eqb _ _ c.if-bytes.false) (simp (c.fits.ensures, c.set_at.ensures, c.from.ensures, c.at_most-scans.ensures) (fits-min (set_at bytes 0) c.args.scans most_scans (fits-first (word_at 8 bytes 0) most_scans small (omega arith))))
