use Rattle.std.proofs.Common.{◌≡◌, sym, ◌∙◌, ap, Err, rules}
use Rattle.choice.specs.Tests.{ok}
use Rattle.choice.specs.Refusals.{numbered}
use Rattle.choice.proofs.Tests.{test-passed}
use Rattle.choice.proofs.RefusalLaws.{refused-unless}
use Rattle.model.specs.Step.{Stepped, answer_no}
use Rattle.machine.specs.Calls.{lent}
use Rattle.machine.proofs.AnswerNumbers.{step-number}
use Rattle.machine.proofs.StepLaws.{step-agrees, step-refused}
use Rattle.machine.proofs.RunLaws.{in-range-fits}
use Rattle.machine.proofs.CallLaws.{step-sound}
use Rattle.machine.proofs.calls.single_step.Goals as goal

pub returns-in_err-refuse_unless : goal.returns-in_err-refuse_unless
returns-in_err-refuse_unless c =
    let a = c.args in
    let s = lent a.ps.now a.acs.now a.ls.now a.t.now in
    let e : c.from_residual.result ≡ Err c.in_err-refuse_unless.field-0.0 = search rules in
    let n = refused-unless 1 c.is_sound-sound.result c.in_err-refuse_unless.field-0.0 c.in_err-refuse_unless.ensures in
    let r = sym (step-refused a.z s a.e (sym (step-sound a.z a.ps.now a.acs.now a.ls.now a.t.now) ∙ sym c.is_sound-sound.ensures ∙ n.0)) in
    let said = ap numbered e ∙ ap Err n.1 ∙ ap (λ (x : Stepped). x.answer) r in (
      said,
      (
        ap answer_no said ∙ step-number a.z s a.e,
        (
          ap (λ (x : Stepped). x.state.proposers) r,
          (ap (λ (x : Stepped). x.state.acceptors) r, (ap (λ (x : Stepped). x.state.learners) r, ap (λ (x : Stepped). x.state.slots) r)),
        ),
      ),
    )

pub step-requires : goal.step-requires
step-requires c =
    let a = c.args in
    in-range-fits a.z a.ps.now a.acs.now a.ls.now a.t.now (sym (step-sound a.z a.ps.now a.acs.now a.ls.now a.t.now) ∙ sym c.is_sound-sound.ensures ∙ test-passed 0 c.is_sound-sound.result ok (sym c.in_ok-refuse_unless.ensures))

pub returns : goal.returns
returns c =
    let a = c.args in
    let s = lent a.ps.now a.acs.now a.ls.now a.t.now in
    let same = step-agrees a.z s a.e (sym (step-sound a.z a.ps.now a.acs.now a.ls.now a.t.now) ∙ sym c.is_sound-sound.ensures ∙ test-passed 0 c.is_sound-sound.result ok (sym c.in_ok-refuse_unless.ensures)) in
    let g = c.step.ensures in
    let said = g.0 ∙ same.answer in (
      said,
      (
        ap answer_no said ∙ step-number a.z s a.e,
        (g.1.0 ∙ same.proposers, (g.1.1.0 ∙ same.acceptors, (g.1.1.1.0 ∙ same.learners, g.1.1.1.1 ∙ same.slots))),
      ),
    )
