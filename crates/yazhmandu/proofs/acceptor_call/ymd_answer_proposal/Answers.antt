use Rattle.std.proofs.Common.{rules, arith, ap, ◌∙◌, ◌≡◌, length, true, false}
use Rattle.std.specs.Prelude.{Ok, Err}
use Rattle.choice.specs.Refusals.{numbered}
use Rattle.machine.proofs.Replies.{told-accepted, told-rejected, told-refused}
use Rattle.layouts.specs.Layout.{flagged_size}
use Rattle.yazhmandu.proofs.Replying.{Flagged, refused-reply, told-reply}
use Rattle.yazhmandu.proofs.acceptor_call.ymd_answer_proposal.Goals as goal

pub returns-in_err-said : goal.returns-in_err-said
returns-in_err-said c = let a = c.args in
    let t : Flagged a.scans a.kept.now a.set.now = grind arith in
    let e : c.from_residual-in_err-said.result ≡ Err c.in_err-said.field-0.0 = search rules in
    let r = c.answer_by_value-answered.ensures.1 in
    rw e (refused-reply a.scans a.kept.now a.set.now a.reply.now t c.acceptor_at-before.ensures c.set_at-proposed.ensures (told-refused _ _ _ r (ap numbered c.in_err-said.was)))

pub returns-in-Accepted : goal.returns-in-Accepted
returns-in-Accepted c = let a = c.args in
    let t : Flagged a.scans a.kept.now a.set.now = grind arith in
    let l : length a.reply.now ≡ flagged_size = search rules in
    let s = c.answer_by_value-answered.ensures in
    told-reply a.scans a.kept.now a.set.now a.reply.now t c.acceptor_at-before.ensures c.set_at-proposed.ensures true l (told-accepted _ _ _ s.1 (ap numbered (c.in_ok-said.was ∙ ap Ok c.in-Accepted.is))) s.0 c.put_flagged.ensures c.put_flagged-in-Accepted.ensures

pub returns-in-Rejected : goal.returns-in-Rejected
returns-in-Rejected c = let a = c.args in
    let t : Flagged a.scans a.kept.now a.set.now = grind arith in
    let l : length a.reply.now ≡ flagged_size = search rules in
    let s = c.answer_by_value-answered.ensures in
    told-reply a.scans a.kept.now a.set.now a.reply.now t c.acceptor_at-before.ensures c.set_at-proposed.ensures false l (told-rejected _ _ _ s.1 (ap numbered (c.in_ok-said.was ∙ ap Ok c.in-Rejected.is))) s.0 c.put_flagged.ensures c.put_flagged-in-Rejected.ensures
