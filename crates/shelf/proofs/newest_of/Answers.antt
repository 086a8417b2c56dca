use mathlib.Core.Path.{refl, ◌∙◌}
use Rattle.scan_table.specs.Table.{scan_at}
use Rattle.shelf.specs.Shelf.{newest}
use Rattle.shelf.proofs.Asking.{newest-considered, newest-other}
use Rattle.shelf.proofs.newest_of.Goals as goal
use Rattle.shelf.proofs.newest_of.Goals.{then-fields-i, else-fields-i}

pub loop-i-init : goal.loop-i-init
unfolding newest
loop-i-init c = refl

pub loop-i-preserved : goal.loop-i-preserved
unfolding scan_at
loop-i-preserved c = let a = c.args in
    let l = c.loop-i in
    elim c.if-fields-i.branch [
      | then-fields-i w ↦ newest-considered a.fields.now a.set a.tag l.i l.invariant w.consider-found.ensures w.found-is
      | else-fields-i w ↦ newest-other a.fields.now a.set a.tag l.i (w.found-is ∙ l.invariant) w.if-fields-i.false
    ]
