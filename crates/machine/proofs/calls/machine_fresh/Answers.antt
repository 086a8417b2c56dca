use Rattle.std.proofs.Common.{◌≡◌, refl, sym, ◌∙◌, ap, subst, Bool, length, replicate, Err, rules}
use Rattle.choice.specs.Tests.{ok}
use Rattle.choice.specs.Refusals.{no}
use Rattle.choice.proofs.Tests.{test-passed}
use Rattle.choice.proofs.RefusalLaws.{refused-unless}
use Rattle.model.specs.Ranges.{lengths_in_range}
use Rattle.machine.specs.Calls.{lent}
use Rattle.machine.proofs.CallLaws.{called, made-fresh}
use Rattle.machine.proofs.calls.machine_fresh.Goals as goal

pub returns-in_err-refuse_unless : goal.returns-in_err-refuse_unless
unfolding lengths_in_range
returns-in_err-refuse_unless c =
    let a = c.args in
    let s = lent a.ps.now a.acs.now a.ls.now a.t.now in
    let e : c.from_residual.result ≡ Err c.in_err-refuse_unless.field-0.0 = search rules in
    let n = refused-unless 1 c.sized-sized.result c.in_err-refuse_unless.field-0.0 c.in_err-refuse_unless.ensures in
    subst (λ (b : Bool). called a.z a.ps.now a.acs.now a.ls.now a.t.now b (no c.from_residual.result) s) (sym (sym c.sized-sized.ensures ∙ n.0)) (ap no e ∙ n.1, (refl, (refl, (refl, refl))))

pub returns : goal.returns
returns c =
    let a = c.args in
    let made = made-fresh a.z a.ps.now a.acs.now a.ls.now a.t.now (sym c.sized-sized.ensures ∙ test-passed 0 c.sized-sized.result ok (sym c.in_ok-refuse_unless.ensures)) in (
      made.0,
      (
        c.fill.ensures.after (λ y h. h) ∙ ap (replicate (length a.ps.now)) c.fresh.ensures ∙ made.1.0,
        (
          c.fill-2.ensures.after (λ y h. h) ∙ ap (replicate (length a.acs.now)) c.fresh-2.ensures ∙ made.1.1.0,
          (
            c.fill-3.ensures.after (λ y h. h) ∙ ap (replicate (length a.ls.now)) c.fresh-3.ensures ∙ made.1.1.1.0,
            c.fill-4.ensures.after (λ y h. h) ∙ ap (replicate (length a.t.now)) c.fresh-4.ensures ∙ made.1.1.1.1,
          ),
        ),
      ),
    )
