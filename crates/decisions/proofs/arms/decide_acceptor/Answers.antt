use Rattle.decisions.specs.declared.arms.Arm.TheVariants as arm
use Rattle.decisions.proofs.Deciding.{checked, answers-delivery, answers-crash}
use Rattle.decisions.proofs.arms.decide_acceptor.Goals as goal

pub returns-in-Deliver : goal.returns-in-Deliver
returns-in-Deliver c = let a = c.args in
    let k = checked arm.Acceptor a.z a.e a.m c.in_ok-sound.sound c.in_ok-sound.ensures in
    simp (c.delivered.ensures, c.deliver_proposal.ensures, k.1) (answers-delivery a.z a.e a.m a.c k.0 c.from.result c.from.ensures c.in-Deliver.is)

pub returns-in_default : goal.returns-in_default
returns-in_default c = let a = c.args in
    let k = checked arm.Acceptor a.z a.e a.m c.in_ok-sound.sound c.in_ok-sound.ensures in
    simp (c.crashed.ensures, c.crash.ensures) (answers-crash a.z a.e a.m a.c k.0 c.from.result c.from.ensures c.in_default.not-Deliver)
