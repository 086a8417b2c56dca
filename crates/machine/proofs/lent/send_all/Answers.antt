use Rattle.std.proofs.Common.{sym, ◌∙◌, ap, subst, ◌+◌, ◌<◌, ◌≤◌, length, set, arith}
use Rattle.machine.specs.Slots.{lowest_from}
use Rattle.decisions.specs.Sending.{item_of}
use Rattle.machine.proofs.Posting.{Sends, begin, last, free, next}
use Rattle.machine.proofs.lent.send_all.Goals as goal
use Rattle.machine.proofs.lent.send_all.Goals.{After-next_free-k}

pub loop-j-init : goal.loop-j-init
loop-j-init c = begin c.args.s c.args.t.now c.requires

-- a message is still to be sent, so a slot is free
pub next_free-k-requires : goal.next_free-k-requires
next_free-k-requires c = free c.loop-j.invariant (subst (λ n. c.loop-j.j < n) c.count-j-end.ensures c.loop-j-test.true)

there : (c : After-next_free-k) → c.next_free-k.result < length c.loop-j.t
there c = subst (λ k. k < length c.loop-j.t) (sym c.next_free-k.ensures) (free c.loop-j.invariant (subst (λ n. c.loop-j.j < n) c.count-j-end.ensures c.loop-j-test.true))

pub bounds-t-k : goal.bounds-t-k
bounds-t-k c = there (goal.at.bounds-t-k c).After-next_free-k

pub overflow_add-at : goal.overflow_add-at
overflow_add-at c = let h = there (goal.at.overflow_add-at c).After-next_free-k in omega arith

pub loop-j-preserved : goal.loop-j-preserved
loop-j-preserved c =
    let l = c.loop-j in
    let s = c.args.s in
    let e = sym (ap (λ k. set l.t k c.item.result) c.next_free-k.ensures ∙ ap (set l.t (lowest_from l.at l.t)) c.item.ensures) in
    subst (λ t. Sends s c.args.t.now (l.j + 1) (c.next_free-k.result + 1) t) e
    (subst (λ k. Sends s c.args.t.now (l.j + 1) (k + 1) (set l.t (lowest_from l.at l.t) (item_of s l.j))) (sym c.next_free-k.ensures) (next l.invariant (subst (λ n. c.loop-j.j < n) c.count-j-end.ensures c.loop-j-test.true)))

pub returns : goal.returns
returns c = last c.loop-j.invariant (subst (λ n. n ≤ c.loop-j.j) c.count-j-end.ensures c.loop-j-test.false)

pub offset_bounds-t-k : goal.offset_bounds-t-k
offset_bounds-t-k c = let h = there (goal.at.offset_bounds-t-k c).After-next_free-k in omega arith
