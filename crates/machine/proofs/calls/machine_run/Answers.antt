use Rattle.std.proofs.Common.{◌≡◌, sym, ◌∙◌, ap, length, Bool, rules}
use Rattle.choice.specs.Tests.{◌unless◌, ◌⨾◌, ok}
use Rattle.choice.proofs.Tests.{test-passed}
use Rattle.machine.specs.Calls.{lent, run_no}
use Rattle.machine.specs.Counting.{events_no}
use Rattle.machine.proofs.RunLaws.{run-drives, run_ends}
use Rattle.machine.proofs.CallLaws.{run-refused}
use Rattle.machine.proofs.calls.machine_run.Goals as goal
use Rattle.machine.proofs.calls.machine_run.Goals.{In_ok-check_events}

-- nothing is refused
passed : (c : In_ok-check_events) → let a = c.args in run_no a.z (lent a.ps.now a.acs.now a.ls.now a.t.now) a.events.now a.n a.log.now ≡ 0
passed c =
    let a = c.args in
    sym (run-refused a.z a.ps.now a.acs.now a.ls.now a.t.now a.events.now a.log.now a.n)
    ∙ ap (λ (b : Bool). 1 unless b ⨾ events_no (length a.events.now) (length a.log.now) a.n) (sym c.is_sound.ensures ∙ test-passed 0 c.is_sound.result ok (sym c.in_ok-refuse_unless.ensures))
    ∙ sym c.in_ok-check_events.ensures

pub returns-in_err-refuse_unless : goal.returns-in_err-refuse_unless
returns-in_err-refuse_unless c =
    let a = c.args in
    let r = sym (run-refused a.z a.ps.now a.acs.now a.ls.now a.t.now a.events.now a.log.now a.n) in
    search rules

pub returns-in_err-check_events : goal.returns-in_err-check_events
returns-in_err-check_events c =
    let a = c.args in
    let r = sym (run-refused a.z a.ps.now a.acs.now a.ls.now a.t.now a.events.now a.log.now a.n) in
    search rules

pub drive-requires : goal.drive-requires
drive-requires c =
    let a = c.args in
    run-drives a.z a.ps.now a.acs.now a.ls.now a.t.now a.events.now a.n a.log.now (passed (goal.at.drive-requires c).In_ok-check_events)

pub returns : goal.returns
returns c =
    let a = c.args in
    let r = passed (goal.at.returns c).In_ok-check_events in
    let x = run_ends a.z a.ps.now a.acs.now a.ls.now a.t.now a.events.now a.n a.log.now r in
    let g = c.drive.ensures in
    (sym r, ((g.0 ∙ x.proposers, (g.1.0 ∙ x.acceptors, (g.1.1.0 ∙ x.learners, g.1.1.1.0 ∙ x.slots))), g.1.1.1.1 ∙ x.log))
