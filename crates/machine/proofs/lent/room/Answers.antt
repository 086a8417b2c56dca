use Rattle.std.proofs.Common.{sym, ◌∙◌, ap, ◌+◌, drop, arith}
use Rattle.decisions.specs.Sending.{lacking}
use Rattle.machine.proofs.Searching.{room-on, room-off, stops-l, stops-r, not-below}
use Rattle.machine.proofs.lent.room.Goals as goal

pub loop-m-preserved : goal.loop-m-preserved
loop-m-preserved c =
    let l = c.loop-m in
    let t = c.args.t.now in
    ap (λ left. lacking left (drop (l.m-index + 1) t)) c.left_after-left.ensures ∙ room-on t l.m-index l.left _ c.loop-m-test.true ∙ l.invariant

pub returns-after-loop-m : goal.returns-after-loop-m
returns-after-loop-m c =
    let l = c.loop-m in
    let t = c.args.t.now in
    sym (room-off t l.m-index l.left (stops-r _ _ (not-below _ _ c.loop-m-test.false))) ∙ l.invariant

pub returns-then-left-eq0 : goal.returns-then-left-eq0
returns-then-left-eq0 c =
    let l = c.loop-m in
    let t = c.args.t.now in
    sym (room-off t l.m-index l.left (stops-l _ _ (not-below 0 l.left (omega arith)))) ∙ l.invariant
