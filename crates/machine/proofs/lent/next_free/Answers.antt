use Rattle.std.proofs.Common.{sym, ◌∙◌, ap, ◌<◌, length}
use Rattle.std.proofs.lemmas.List.{get_or_default}
use Rattle.model.specs.Records.{free_slot}
use Rattle.model.specs.Table.{is_free}
use Rattle.machine.proofs.Searching.{next-on, next-off, next-inside}
use Rattle.machine.proofs.lent.next_free.Goals as goal
use Rattle.machine.proofs.lent.next_free.Goals.{At-loop-at}

-- a free slot lies from `at` on, so `at` is a place of the table
inside : (c : At-loop-at) → c.loop-at.at < length c.args.t.now
inside c = next-inside c.args.t.now c.loop-at.at c.args.from c.loop-at.invariant c.requires

pub bounds-t-at : goal.bounds-t-at
bounds-t-at c = inside c

pub loop-at-preserved : goal.loop-at-preserved
loop-at-preserved c =
    let t = c.args.t.now in
    let l = c.loop-at in
    let h = inside (goal.at.loop-at-preserved c).At-loop-at in
    next-on t l.at h (ap is_free (sym (get_or_default t l.at _ free_slot h)) ∙ sym c.is_free.ensures ∙ c.loop-at-test.true) ∙ l.invariant

pub returns : goal.returns
returns c =
    let t = c.args.t.now in
    let l = c.loop-at in
    let h = inside (goal.at.returns c).At-loop-at in
    sym (next-off t l.at h (ap is_free (sym (get_or_default t l.at _ free_slot h)) ∙ sym c.is_free.ensures ∙ c.loop-at-test.false)) ∙ l.invariant
