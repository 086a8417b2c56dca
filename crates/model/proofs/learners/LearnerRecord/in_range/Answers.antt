use Rattle.std.proofs.Common.{sym, ap, ◌∙◌}
use native.Mathlib.Omega.{arith}
use lib.ListN.{take, length-take}
use lib.Seq.{get_or-take}
use Rattle.sets.specs.Acceptors.{none}
use Rattle.sets.specs.Scans.{empty}
use Rattle.model.specs.Ranges.{heard_in_range, learner_in_range}
use Rattle.model.specs.Records.{unheard}
use Rattle.model.proofs.Everywhere.{past, passes, fails}
use Rattle.model.proofs.learners.LearnerRecord.in_range.Goals as goal

pub returns-then-not-fits : goal.returns-then-not-fits
unfolding learner_in_range
returns-then-not-fits c = simp (sym c.fits.ensures ∙ c.if-not-fits.true)

pub loop-place-init : goal.loop-place-init
unfolding learner_in_range
loop-place-init c = simp (sym c.fits.ensures ∙ c.if-not-fits.false)

pub returns-then-z-place : goal.returns-then-z-place
returns-then-z-place c = let a = c.args in
    let l = c.loop-place in
    let own = take a.z.proposers a.self.heard in
    sym (l.invariant ∙ past (heard_in_range a.z) own l.place (simp length-take (omega arith)))

pub returns-then-not-in_range : goal.returns-then-not-in_range
unfolding empty none
returns-then-not-in_range c = let a = c.args in
    let l = c.loop-place in
    let own = take a.z.proposers a.self.heard in
    let e = ap (heard_in_range a.z) (get_or-take a.z.proposers a.self.heard l.place unheard (omega arith)) ∙ sym c.in_range.ensures ∙ c.if-not-in_range.true in
    sym (l.invariant ∙ fails (heard_in_range a.z) own l.place unheard (simp length-take (omega arith)) e)

pub loop-place-preserved : goal.loop-place-preserved
unfolding empty none
loop-place-preserved c = let a = c.args in
    let l = c.loop-place in
    let own = take a.z.proposers a.self.heard in
    let e = ap (heard_in_range a.z) (get_or-take a.z.proposers a.self.heard l.place unheard (omega arith)) ∙ sym c.in_range.ensures ∙ c.if-not-in_range.false in
    l.invariant ∙ passes (heard_in_range a.z) own l.place unheard (simp length-take (omega arith)) e

pub returns : goal.returns
returns c = let a = c.args in
    let l = c.loop-place in
    let own = take a.z.proposers a.self.heard in
    sym (l.invariant ∙ past (heard_in_range a.z) own l.place (simp length-take (omega arith)))
