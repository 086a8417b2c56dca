use Rattle.std.proofs.Common.{◌≡◌, ◌∙◌, sym, ap, Ok, Err, rules}
use Rattle.choice.specs.Refusals.{numbered}
use Rattle.machine.specs.Acceptors.{reply_no}
use Rattle.machine.proofs.Replies.{reply-number, replied, refusal-told, record-left, record-stays}
use Rattle.machine.proofs.acceptors.answer_proposal.Goals as goal

pub returns-in_err-check_answer : goal.returns-in_err-check_answer
returns-in_err-check_answer c =
    let a = c.args in
    let e : c.from_residual.result ≡ Err c.in_err-check_answer.field-0.0 = search rules in
    let r = ap numbered e ∙ refusal-told a.scans a.acceptor.now a.set c.in_err-check_answer.field-0.0 c.in_err-check_answer.ensures in
    (r, ap reply_no r ∙ reply-number a.scans a.acceptor.now a.set, record-stays a.scans a.acceptor.now a.set c.in_err-check_answer.field-0.0 c.in_err-check_answer.ensures)

pub returns : goal.returns
returns c =
    let a = c.args in
    let z = sym c.in_ok-check_answer.ensures in
    let r = ap Ok c.replying.ensures ∙ sym (replied a.scans a.acceptor.now a.set z) in
    (r, ap reply_no r ∙ reply-number a.scans a.acceptor.now a.set, c.answer.ensures ∙ sym (record-left a.scans a.acceptor.now a.set z))
