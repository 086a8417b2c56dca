use Rattle.std.proofs.Common.{rules, ◌≡◌, sym, Err}
use Rattle.schedule.specs.Schedule.{read_schedule, schedule_answer}
use Rattle.schedule.proofs.Parts.{check-form, check-refused}
use Rattle.schedule.proofs.Answers.{answered}
use Rattle.schedule.proofs.check_schedule.Goals as goal

pub returns-in_err-check : goal.returns-in_err-check
unfolding schedule_answer
returns-in_err-check c =
    let bytes = c.args.bytes.now in
    let e : c.from_residual.result ≡ Err c.in_err-check.field-0.0 = search rules in
    rw e (answered (read_schedule bytes) (rw (check-refused bytes (sym c.in_err-check.ensures))))

pub returns : goal.returns
unfolding schedule_answer
returns c =
    let bytes = c.args.bytes.now in
    let f = check-form bytes (sym c.in_ok-check.ensures) in
    answered (read_schedule bytes) (rw f.read)
