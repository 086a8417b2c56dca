use Rattle.std.proofs.Common.{sym, ◌∙◌, ap, ◌&&◌, drop, ◌+◌, Bool, rules}
use Rattle.model.specs.Ranges.{all}
use Rattle.machine.proofs.Judging.{all-on, all-off}
use Rattle.machine.proofs.lent.all_in_range.Goals as goal

pub loop-x-preserved : goal.loop-x-preserved
loop-x-preserved g c =
    let l = c.loop-x in
    let f = g.R.Record.is_in_range c.args.z in
    ap (λ (x : Bool). l.sound && x && all f (drop (l.x-index + 1) c.args.t.now)) c.in_range-sound.ensures ∙ all-on f c.args.t.now l.x-index _ l.sound c.loop-x-test.true (search rules) ∙ l.invariant

pub returns : goal.returns
returns g c = sym (all-off (g.R.Record.is_in_range c.args.z) c.args.t.now c.loop-x.x-index c.loop-x.sound c.loop-x-test.false) ∙ c.loop-x.invariant
