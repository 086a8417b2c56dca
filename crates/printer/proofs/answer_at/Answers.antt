-- `printer::answer_at` meets its contract. Assumes nothing.
use mathlib.Core.Path.{ap, ◌∙◌}
use Prim.Native.Nat.{◌-◌, ◌*◌}
use native.Mathlib.Omega.{arith}
use lib.ListN.{length, drop, length-drop}
use lib.Seq.{take_all}
use Rattle.machine.specs.Log.{per_answer, read_numbers}
use Rattle.printer.proofs.answer_at.Goals as goal

pub returns : goal.returns
returns c = let a = c.args in
    let log = a.log.now in
    let at = per_answer * a.k in
    c.answer_of.ensures ∙ ap read_numbers (take_all (length log - at) (drop at log) (omega (arith, length-drop at log)))
