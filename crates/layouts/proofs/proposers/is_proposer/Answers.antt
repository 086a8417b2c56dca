use borrow.Author.Tests.{eq-eqb, ne_eqb}
use Rattle.layouts.specs.Layout.{is_proposer}
use Rattle.layouts.proofs.Parts.{passed, failed}
use Rattle.layouts.proofs.Wide.{sizes-tested, narrowed-same}
use Rattle.layouts.proofs.proposers.is_proposer.Goals as goal

pub returns-then-not-in_range : goal.returns-then-not-in_range
unfolding is_proposer
returns-then-not-in_range c = let z = c.sizes_of-z.ensures in
    let e = failed (sizes-tested 1 c.args.acceptors c.args.scans z c.in_range.ensures) c.if-not-in_range.true in
    simp e

pub returns-then-kept : goal.returns-then-kept
unfolding is_proposer
returns-then-kept c = let z = c.sizes_of-z.ensures in
    let e = passed (sizes-tested 1 c.args.acceptors c.args.scans z c.in_range.ensures) c.if-not-in_range.false in
    simp (e, ne_eqb _ _ c.if-kept.true)

pub returns-then-not-is_flag : goal.returns-then-not-is_flag
unfolding is_proposer
returns-then-not-is_flag c = let z = c.sizes_of-z.ensures in
    let e = passed (sizes-tested 1 c.args.acceptors c.args.scans z c.in_range.ensures) c.if-not-in_range.false in
    simp (e, eq-eqb _ _ c.if-kept.false, failed c.is_flag.ensures c.if-not-is_flag.true)

pub returns-then-not-is_flag-2 : goal.returns-then-not-is_flag-2
unfolding is_proposer
returns-then-not-is_flag-2 c = let z = c.sizes_of-z.ensures in
    let e = passed (sizes-tested 1 c.args.acceptors c.args.scans z c.in_range.ensures) c.if-not-in_range.false in
    simp (e, eq-eqb _ _ c.if-kept.false, passed c.is_flag.ensures c.if-not-is_flag.false, failed c.is_flag-2.ensures c.if-not-is_flag-2.true)

pub returns : goal.returns
unfolding is_proposer
returns c = let z = c.sizes_of-z.ensures in
    let e = passed (sizes-tested 1 c.args.acceptors c.args.scans z c.in_range.ensures) c.if-not-in_range.false in
    simp (e, eq-eqb _ _ c.if-kept.false, passed c.is_flag.ensures c.if-not-is_flag.false, passed c.is_flag-2.ensures c.if-not-is_flag-2.false) (simp (c.in_range-2.ensures, c.proposer_at.ensures, z, narrowed-same 1 c.args.acceptors c.args.scans e))
