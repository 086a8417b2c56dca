use Rattle.decisions.specs.declared.arms.Arm.TheVariants as arm
use Rattle.model.specs.declared.Code.TheVariants as code
use Rattle.decisions.specs.Refusals.{test_no}
use Rattle.decisions.specs.Change.{change_of}
use Rattle.decisions.proofs.Deciding.{checked, keeps, keeps-delivery, keeps-crash, keeps-none}
use Rattle.decisions.proofs.arms.decide_table.Goals as goal

pub returns-in-Deliver : goal.returns-in-Deliver
returns-in-Deliver c = let a = c.args in
    simp (c.delivered.ensures, c.unchanged_of.ensures) (keeps-delivery a.z a.e a.m (checked arm.Table a.z a.e a.m c.in_ok-check_taken.field-0 c.in_ok-check_taken.ensures).0 c.in-Deliver.ensures)

pub returns-in-Drop : goal.returns-in-Drop
unfolding test_no change_of
returns-in-Drop c = let a = c.args in
    simp (c.of_slot.ensures, c.freed_of.ensures) (keeps a.z a.e a.m (checked arm.Table a.z a.e a.m c.in_ok-check_taken.field-0 c.in_ok-check_taken.ensures).0 code.Drop c.in-Drop.ensures)

pub returns-in-Duplicate : goal.returns-in-Duplicate
unfolding test_no change_of
returns-in-Duplicate c = let a = c.args in
    simp (c.of_slot-in-Duplicate.ensures, c.sends_of.ensures) (keeps a.z a.e a.m (checked arm.Table a.z a.e a.m c.in_ok-check_taken.field-0 c.in_ok-check_taken.ensures).0 code.Duplicate c.in-Duplicate.ensures)

pub returns-in-Crash : goal.returns-in-Crash
returns-in-Crash c = let a = c.args in keeps-crash a.z a.e a.m (checked arm.Table a.z a.e a.m c.in_ok-check_taken.field-0 c.in_ok-check_taken.ensures).0 c.in-Crash.ensures

pub returns-in_default : goal.returns-in_default
returns-in_default c = let a = c.args in
    let n = c.in_default in
    keeps-none a.z a.e a.m (checked arm.Table a.z a.e a.m c.in_ok-check_taken.field-0 c.in_ok-check_taken.ensures).0 c.from.result c.from.ensures n.not-Deliver n.not-Drop n.not-Duplicate n.not-Crash
