use Rattle.std.proofs.Common.{◌≡◌, refl, sym, ◌∙◌, ap, subst, replicate, drop, ◌++◌, length, Bool}
use Rattle.choice.specs.Tests.{◌unless◌, ◌⨾◌, ok}
use Rattle.choice.proofs.Tests.{test-passed}
use Rattle.model.specs.Records.{State, free_slot}
use Rattle.machine.specs.Slots.{taken_slot}
use Rattle.machine.specs.Calls.{lent, whole_run_no}
use Rattle.machine.specs.Counting.{events_no}
use Rattle.machine.proofs.Longer.{FreshFirst, slots-few, most-fresh-first, passed, whole-run-drives, whole-run-log}
use Rattle.machine.proofs.calls.whole_run.Goals as goal
use Rattle.machine.proofs.calls.whole_run.Goals.{In_ok-check_events, After-free_first}

-- nothing is refused
unrefused : (c : In_ok-check_events) → whole_run_no c.args.z c.args.events.now c.args.n c.args.log.now ≡ 0
unrefused c =
    let a = c.args in
    ap (λ (b : Bool). 1 unless b ⨾ events_no (length a.events.now) (length a.log.now) a.n) (sym c.in_range.ensures ∙ test-passed 0 c.in_range.result ok (sym c.in_ok-refuse_unless.ensures))
    ∙ sym c.in_ok-check_events.ensures

-- where nothing is refused, the records are as fresh ones, and so are the slots of the run
first : (c : After-free_first) → whole_run_no c.args.z c.args.events.now c.args.n c.args.log.now ≡ 0
    → FreshFirst c.args.z (replicate 8 c.fresh-ps.result) (replicate 7 c.fresh-acs.result) (replicate 8 c.fresh-ls.result) c.free_first.new.t
first c h =
    let a = c.args in
    let made : ◌≡◌ {A = State} (lent (replicate 8 c.fresh-ps.result) (replicate 7 c.fresh-acs.result) (replicate 8 c.fresh-ls.result) c.free_first.new.t) _ =
    λ i. lent (replicate 8 (c.fresh-ps.ensures i)) (replicate 7 (c.fresh-acs.ensures i)) (replicate 8 (c.fresh-ls.ensures i))
    ((c.free_first.ensures ∙ ap (λ x. replicate a.z.slots free_slot ++ drop a.z.slots (replicate 512 x)) c.taken_slot-t.ensures) i) in
    subst (λ (s : State). FreshFirst a.z s.proposers s.acceptors s.learners s.slots) (sym made) (most-fresh-first a.z 512 taken_slot refl (passed a.z a.events.now a.n a.log.now h).0)

pub free_first-requires : goal.free_first-requires
free_first-requires c =
    let a = c.args in
    slots-few a.z a.events.now a.n a.log.now (unrefused (goal.at.free_first-requires c).In_ok-check_events)

pub drive-requires : goal.drive-requires
drive-requires c =
    let a = c.args in
    let h = unrefused (goal.at.drive-requires c).In_ok-check_events in
    whole-run-drives a.z a.events.now a.n a.log.now h _ _ _ _ (first (goal.at.drive-requires c).After-free_first h)

pub returns : goal.returns
returns c =
    let a = c.args in
    let h = unrefused (goal.at.returns c).In_ok-check_events in
    (sym h, c.drive.ensures.1.1.1.1 ∙ whole-run-log a.z a.events.now a.n a.log.now h _ _ _ _ (first (goal.at.returns c).After-free_first h))
