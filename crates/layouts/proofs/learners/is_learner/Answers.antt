use mathlib.Core.Path.{sym, ap, ◌∙◌}
use native.Mathlib.Omega.{arith}
use borrow.Author.Tests.{eq-eqb, ne_eqb}
use Rattle.sets.specs.Scans.{fits}
use Rattle.sizes.specs.declared.Sizes.{Sizes}
use Rattle.model.specs.Ranges.{all, heard_in_range}
use Rattle.layouts.specs.Layout.{places_at, is_learner}
use Rattle.layouts.proofs.Parts.{passed, failed, few-proposers}
use Rattle.layouts.proofs.Places.{learner-left}
use Rattle.layouts.proofs.Wide.{sizes-tested, narrowed-same}
use Rattle.layouts.proofs.learners.is_learner.Goals as goal

pub returns-then-not-in_range : goal.returns-then-not-in_range
unfolding is_learner
returns-then-not-in_range c = let z = c.sizes_of-z.ensures in
    let e = failed (sizes-tested c.args.proposers c.args.acceptors c.args.scans z c.in_range.ensures) c.if-not-in_range.true in
    simp e

pub overflow_mul-proposers : goal.overflow_mul-proposers
overflow_mul-proposers c = let e = passed (sizes-tested c.args.proposers c.args.acceptors c.args.scans c.sizes_of-z.ensures c.in_range.ensures) c.if-not-in_range.false in
    omega (arith, few-proposers c.args.proposers c.args.acceptors c.args.scans e)

pub overflow_add-proposers : goal.overflow_add-proposers
overflow_add-proposers c = let e = passed (sizes-tested c.args.proposers c.args.acceptors c.args.scans c.sizes_of-z.ensures c.in_range.ensures) c.if-not-in_range.false in
    omega (arith, few-proposers c.args.proposers c.args.acceptors c.args.scans e)

pub returns-then-kept-proposers : goal.returns-then-kept-proposers
unfolding is_learner
returns-then-kept-proposers c = let z = c.sizes_of-z.ensures in
    let e = passed (sizes-tested c.args.proposers c.args.acceptors c.args.scans z c.in_range.ensures) c.if-not-in_range.false in
    simp (e, ne_eqb _ _ c.if-kept-proposers.true)

pub returns-then-not-is_flag : goal.returns-then-not-is_flag
unfolding is_learner
returns-then-not-is_flag c = let z = c.sizes_of-z.ensures in
    let e = passed (sizes-tested c.args.proposers c.args.acceptors c.args.scans z c.in_range.ensures) c.if-not-in_range.false in
    simp (e, eq-eqb _ _ c.if-kept-proposers.false, failed c.is_flag.ensures c.if-not-is_flag.true)

pub returns-then-not-fits : goal.returns-then-not-fits
returns-then-not-fits c = let a = c.args in
    let z = c.sizes_of-z.ensures in
    let e = passed (sizes-tested a.proposers a.acceptors a.scans z c.in_range.ensures) c.if-not-in_range.false in
    let w = z ∙ narrowed-same a.proposers a.acceptors a.scans e in
    let v = c.set_at.ensures in
    let g = failed (c.fits.ensures ∙ λ i. fits (v i) (w i).scans) c.if-not-fits.true in
    sym (learner-left a.proposers a.acceptors a.scans a.kept.now e c.if-kept-proposers.false (passed c.is_flag.ensures c.if-not-is_flag.false) g)

pub overflow_cast-count : goal.overflow_cast-count
overflow_cast-count c = let a = c.args in
    let z = c.sizes_of-z.ensures in
    let e = passed (sizes-tested a.proposers a.acceptors a.scans z c.in_range.ensures) c.if-not-in_range.false in
    omega (arith, ap (λ (x : Sizes). x.proposers) (z ∙ narrowed-same a.proposers a.acceptors a.scans e), few-proposers a.proposers a.acceptors a.scans e)

pub returns : goal.returns
returns c = let a = c.args in
    let z = c.sizes_of-z.ensures in
    let e = passed (sizes-tested a.proposers a.acceptors a.scans z c.in_range.ensures) c.if-not-in_range.false in
    let w = z ∙ narrowed-same a.proposers a.acceptors a.scans e in
    let v = c.set_at.ensures in
    let g = passed (c.fits.ensures ∙ λ i. fits (v i) (w i).scans) c.if-not-fits.false in
    c.places_in_range.ensures
    ∙ (λ i. all (heard_in_range (w i)) (places_at (w i).proposers a.kept.now))
    ∙ sym (learner-left a.proposers a.acceptors a.scans a.kept.now e c.if-kept-proposers.false (passed c.is_flag.ensures c.if-not-is_flag.false) g)
