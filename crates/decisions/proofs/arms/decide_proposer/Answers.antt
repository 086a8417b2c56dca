use Rattle.model.specs.declared.Code.TheVariants as code
use Rattle.decisions.specs.Refusals.{test_no}
use Rattle.decisions.specs.declared.arms.Arm.TheVariants as arm
use Rattle.decisions.specs.Change.{change_of}
use Rattle.decisions.proofs.Deciding.{checked, acts, acts-crash}
use Rattle.decisions.proofs.arms.decide_proposer.Goals as goal

pub returns-in-Receive : goal.returns-in-Receive
unfolding test_no change_of
returns-in-Receive c = let a = c.args in
    let k = checked arm.Proposer a.z a.e a.m c.in_ok-sound.sound c.in_ok-sound.ensures in
    simp (c.receive.ensures, k.1) (acts a.z a.e a.m a.q k.0 code.Receive c.in-Receive.ensures)

pub returns-in-Propose : goal.returns-in-Propose
unfolding test_no change_of
returns-in-Propose c = let a = c.args in
    let k = checked arm.Proposer a.z a.e a.m c.in_ok-sound.sound c.in_ok-sound.ensures in
    simp (c.proposed.ensures, c.check_propose.ensures, c.propose.ensures, k.1) (acts a.z a.e a.m a.q k.0 code.Propose c.in-Propose.ensures)

pub returns-in-Refine : goal.returns-in-Refine
unfolding test_no change_of
returns-in-Refine c = let a = c.args in
    let k = checked arm.Proposer a.z a.e a.m c.in_ok-sound.sound c.in_ok-sound.ensures in
    simp (c.proposed-in-Refine.ensures, c.check_refine.ensures, c.refine.ensures, k.1) (acts a.z a.e a.m a.q k.0 code.Refine c.in-Refine.ensures)

pub returns-in-Decide : goal.returns-in-Decide
unfolding test_no change_of
returns-in-Decide c = let a = c.args in
    let k = checked arm.Proposer a.z a.e a.m c.in_ok-sound.sound c.in_ok-sound.ensures in
    simp (c.decided.ensures, c.check_decide.ensures, c.decide.ensures) (acts a.z a.e a.m a.q k.0 code.Decide c.in-Decide.ensures)

pub returns-in_default : goal.returns-in_default
returns-in_default c = let a = c.args in
    let n = c.in_default in
    let k = checked arm.Proposer a.z a.e a.m c.in_ok-sound.sound c.in_ok-sound.ensures in
    simp (c.crashed.ensures, c.crash.ensures) (acts-crash a.z a.e a.m a.q k.0 c.from.result c.from.ensures n.not-Receive n.not-Propose n.not-Refine n.not-Decide)
