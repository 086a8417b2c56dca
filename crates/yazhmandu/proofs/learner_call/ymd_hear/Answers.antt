use Rattle.std.proofs.Common.{arith, ap, ◌∙◌, List, ℕ, true, inl, inr}
use Rattle.std.proofs.lemmas.List.Edits.{sets}
use Rattle.layouts.specs.Layout.{flagged}
use Rattle.yazhmandu.proofs.Hearing.{Passed, hears}
use Rattle.yazhmandu.proofs.learner_call.ymd_hear.Goals as goal

pub returns-then-taught : goal.returns-then-taught
returns-then-taught c = let a = c.args in
    let t : Passed a.proposers a.acceptors a.scans a.kept.now a.proposer a.acceptor a.number a.set.now c.in_ok-sent.sent = grind arith in
    hears a.proposers a.acceptors a.scans a.kept.now a.proposer a.acceptor a.number a.set.now a.learns.now
    (λ i. omega (arith, c.slice_known-1.given i))
    t
    c.heard_at-old.ensures
    c.hear-new.ensures
    c.set_at.ensures
    c.teaches-taught.ensures
    (inr (c.if-taught.true, c.put_flagged.ensures ∙ ap (λ (b : List ℕ). sets b 0 (flagged true c.hear-new.result.set)) c.put_heard.ensures))

pub returns-else-taught : goal.returns-else-taught
returns-else-taught c = let a = c.args in
    let t : Passed a.proposers a.acceptors a.scans a.kept.now a.proposer a.acceptor a.number a.set.now c.in_ok-sent.sent = grind arith in
    hears a.proposers a.acceptors a.scans a.kept.now a.proposer a.acceptor a.number a.set.now a.learns.now
    (λ i. omega (arith, c.slice_known-1.given i))
    t
    c.heard_at-old.ensures
    c.hear-new.ensures
    c.set_at.ensures
    c.teaches-taught.ensures
    (inl (c.if-taught.false, c.put_heard.ensures))
