use Rattle.std.proofs.Common.{rules, sym, ◌∙◌, ◌<◌, ◌≤◌, arith}
use lib.ListN.{length}
use borrow.Author.Tests.{leb-true, leb-false}
use Rattle.choice.proofs.Tests.{test-passed}
use Rattle.choice.proofs.RefusalLaws.{refused-unless, number-some}
use Rattle.numbers.proofs.Puts.{refuses, writes-refused}
use Rattle.schedule.specs.Schedule.{schedule_no, schedule_form}
use Rattle.schedule.proofs.Valid.{no-valid}
use Rattle.schedule.proofs.Answers.{short, form-length, both}
use Rattle.schedule.proofs.write_schedule.Goals as goal
use Rattle.schedule.proofs.write_schedule.Goals.{then-first-length, else-first-length}

pub returns-in_err-check_values : goal.returns-in_err-check_values
returns-in_err-check_values c =
    let a = c.args in
    let q = c.in_err-check_values.field-0.0 in
    let n = c.in_err-check_values.ensures in
    writes-refused (schedule_no a.sizes a.fields.now) (schedule_form a.sizes a.fields.now) a.buffer.now 0 (search rules) n (refuses (schedule_no a.sizes a.fields.now) (schedule_form a.sizes a.fields.now) a.buffer.now 0 (λ z. number-some q (n ∙ z)))

pub overflow_cast-header : goal.overflow_cast-header
overflow_cast-header c = omega (arith, (no-valid c.args.sizes c.args.fields.now (sym c.in_ok-check_values.ensures)).header.count)

pub returns-in_err-refuse_unless : goal.returns-in_err-refuse_unless
returns-in_err-refuse_unless c =
    let a = c.args in
    let l = form-length a.sizes a.fields.now in
    let t = refused-unless 8 _ c.in_err-refuse_unless.field-0.0 c.in_err-refuse_unless.ensures in
    let small : length a.buffer.now < length (schedule_form a.sizes a.fields.now) = elim c.if-first-length.branch [
      | then-first-length w ↦ omega (arith, l, leb-false _ _ (sym w.fit_in.ensures ∙ sym w.refuse_unless-is ∙ t.0))
      | else-first-length w ↦ omega (arith, l)
    ] in
    writes-refused (schedule_no a.sizes a.fields.now) (schedule_form a.sizes a.fields.now) a.buffer.now 0 (search rules) t.1 (short a.sizes a.fields.now a.buffer.now (sym c.in_ok-check_values.ensures) small)

pub returns : goal.returns
returns c =
    let a = c.args in
    let l = form-length a.sizes a.fields.now in
    let t = test-passed 7 _ 0 (sym c.in_ok-refuse_unless.ensures) in
    let room : length (schedule_form a.sizes a.fields.now) ≤ length a.buffer.now = elim c.if-first-length.branch [
      | then-first-length w ↦ omega (arith, l, leb-true _ _ (sym w.fit_in.ensures ∙ sym w.refuse_unless-is ∙ t))
      | else-first-length w ↦ omega (arith, leb-true _ _ (sym w.refuse_unless-is ∙ t))
    ] in
    both a.sizes a.fields.now a.buffer.now (sym c.in_ok-check_values.ensures) room (rw c.from-six.ensures at c.put_numbers-at.ensures) c.put_numbers.ensures
