use Rattle.std.proofs.Common.{rules, refl, ◌≡◌, sym, arith, Err}
use Rattle.choice.proofs.Tests.{test-passed}
use Rattle.choice.proofs.RefusalLaws.{refused-unless}
use Rattle.clock.specs.Clock.{age, clock_rule_no, clock_rule}
use Rattle.clock.proofs.Age.{age-is}
use Rattle.clock.proofs.scan_time.Goals as goal

pub returns-in_err-refuse_unless : goal.returns-in_err-refuse_unless
unfolding clock_rule clock_rule_no
returns-in_err-refuse_unless c =
    let e : c.from_residual.result ≡ Err c.in_err-refuse_unless.field-0.0 = search rules in
    let f = refused-unless 9 _ c.in_err-refuse_unless.field-0.0 c.in_err-refuse_unless.ensures in
    rw (e, f.0, f.1) (refl, refl)

pub returns-in_err-refuse_unless-2 : goal.returns-in_err-refuse_unless-2
unfolding clock_rule clock_rule_no
returns-in_err-refuse_unless-2 c =
    let a = c.args in
    let g : age a.dock a.scan ≡ c.from-age.result = age-is a.dock a.scan c.from-age.result (omega arith) (omega arith) (omega arith) (omega arith) in
    let e : c.from_residual-in_err-refuse_unless-2.result ≡ Err c.in_err-refuse_unless-2.field-0.0 = search rules in
    let d = test-passed 8 _ 0 (sym c.in_ok-refuse_unless.ensures) in
    let f = refused-unless 9 _ c.in_err-refuse_unless-2.field-0.0 c.in_err-refuse_unless-2.ensures in
    rw (e, d, g, f.0, f.1) (refl, refl)

pub returns : goal.returns
unfolding clock_rule clock_rule_no
returns c =
    let a = c.args in
    let g : age a.dock a.scan ≡ c.from-age.result = age-is a.dock a.scan c.from-age.result (omega arith) (omega arith) (omega arith) (omega arith) in
    let d = test-passed 8 _ 0 (sym c.in_ok-refuse_unless.ensures) in
    let t = test-passed 8 _ 0 (sym c.in_ok-refuse_unless-2.ensures) in
    rw (d, g, t) (refl, refl)
