use Rattle.std.proofs.Common.{◌≡◌, ◌∙◌, ap, [], Err, rules}
use Rattle.choice.specs.Refusals.{numbered}
use Rattle.model.specs.Records.{fresh_proposer, fresh_acceptor}
use Rattle.decisions.specs.Arms.{by_table}
use Rattle.decisions.specs.declared.arms.Arm.TheVariants as arm
use Rattle.decisions.proofs.Deciding.{decided-in}
use Rattle.machine.specs.Stepping.{Left}
use Rattle.machine.proofs.Roles.{not-of}
use Rattle.machine.proofs.Arms.{not-decided, not-finished, went, can-send, slots-written, answered-done}
use Rattle.machine.proofs.step.step_table.Goals as goal

pub returns-in_err-decided : goal.returns-in_err-decided
returns-in_err-decided c =
    let a = c.args in
    let same = not-decided a.z a.e a.k a.m [] [] [] a.t.now c.requires.1.1.1 _ (c.in_err-decided.ensures ∙ ap by_table (decided-in arm.Table a.z a.e a.m fresh_proposer fresh_acceptor c.requires.1.0 c.requires.0)) in
    let e : c.from_residual.result ≡ Err c.in_err-decided.field-0.0 = search rules in
    (ap numbered e ∙ ap (λ (x : Left). x.answer) same, ap (λ (x : Left). x.slots) same)

pub returns-in_err-change : goal.returns-in_err-change
returns-in_err-change c =
    let a = c.args in
    let d = c.in_ok-decided.ensures ∙ ap by_table (decided-in arm.Table a.z a.e a.m fresh_proposer fresh_acceptor c.requires.1.0 c.requires.0) in
    let same = not-finished a.z a.e a.k a.m [] [] [] a.t.now c.requires.1.1.1 tt d c.need.ensures c.room.ensures c.in_err-change.ensures in
    let e : c.from_residual-in_err-change.result ≡ Err c.in_err-change.field-0.0 = search rules in
    (ap numbered e ∙ ap (λ (x : Left). x.answer) same, ap (λ (x : Left). x.slots) same)

pub write_back-requires-clause-room : goal.write_back-requires-clause-room
write_back-requires-clause-room c =
    let a = c.args in
    let d = c.in_ok-decided.ensures ∙ ap by_table (decided-in arm.Table a.z a.e a.m fresh_proposer fresh_acceptor c.requires.1.0 c.requires.0) in
    let w = went a.z a.e a.k a.m [] [] [] a.t.now tt d c.need.ensures c.room.ensures c.in_ok-change.ensures in
    can-send a.z a.e a.k a.m [] [] [] a.t.now tt w c.requires.1.1.0 c.requires.1.1.1

pub returns : goal.returns
returns c =
    let a = c.args in
    let d = c.in_ok-decided.ensures ∙ ap by_table (decided-in arm.Table a.z a.e a.m fresh_proposer fresh_acceptor c.requires.1.0 c.requires.0) in
    let w = went a.z a.e a.k a.m [] [] [] a.t.now tt d c.need.ensures c.room.ensures c.in_ok-change.ensures in (
      answered-done a.z a.e a.k a.m [] [] [] a.t.now tt w (not-of arm.Table arm.Learner _ c.requires.0 tt) (not-of arm.Table arm.Proposer _ c.requires.0 tt),
      c.write_back.ensures ∙ slots-written a.z a.e a.k a.m [] [] [] a.t.now tt w,
    )
