use Rattle.std.proofs.Common.{rules, ◌≡◌, sym, arith, Err}
use borrow.Author.Tests.{leb-true, leb-false}
use Rattle.choice.specs.Refusals.{number}
use Rattle.choice.proofs.Tests.{test-passed}
use Rattle.choice.proofs.RefusalLaws.{refused-unless}
use Rattle.schedule.proofs.Parts.{check-form, check-refused}
use Rattle.schedule.proofs.Answers.{no-form, small, filled}
use Rattle.schedule.proofs.read_schedule.Goals as goal

pub returns-in_err-header : goal.returns-in_err-header
returns-in_err-header c =
    let a = c.args in
    let e : c.from_residual.result ≡ Err c.in_err-header.field-0.0 = search rules in
    rw (e, check-refused a.bytes.now (sym c.in_err-header.ensures)) (no-form a.room.now (number c.in_err-header.field-0.0))

pub returns-in_err-refuse_unless : goal.returns-in_err-refuse_unless
returns-in_err-refuse_unless c =
    let a = c.args in
    let f = check-form a.bytes.now (sym c.in_ok-header.ensures) in
    let e : c.from_residual-in_err-refuse_unless.result ≡ Err c.in_err-refuse_unless.field-0.0 = search rules in
    let t = refused-unless 8 _ c.in_err-refuse_unless.field-0.0 c.in_err-refuse_unless.ensures in
    rw (e, t.1, f.read) (small a.room.now c.in_ok-header.field-0.header f.fields (omega (arith, f.count, c.from-count.ensures, leb-false _ _ t.0)))

pub returns : goal.returns
returns c =
    let a = c.args in
    let f = check-form a.bytes.now (sym c.in_ok-header.ensures) in
    let t = test-passed 7 _ 0 (sym c.in_ok-refuse_unless.ensures) in
    let w = filled a.room.now c.in_ok-header.field-0.header f.fields (omega (arith, f.count, c.from-count.ensures, leb-true _ _ t)) in
    rw f.read (w.0, rw (c.take_numbers.ensures, c.from-count.ensures, f.taken) w.1, w.2)
