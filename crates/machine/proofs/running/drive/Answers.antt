use Rattle.std.proofs.Common.{◌≡◌, ◌∙◌, ap, arith, length}
use Rattle.model.specs.declared.Event.{Event}
use Rattle.machine.specs.Running.{Ran, onward, ran_to}
use Rattle.machine.specs.Log.{noted}
use Rattle.machine.proofs.LoopsOverSteps.{still-fit, event-there, answer-there, ran-none, ran-next}
use Rattle.machine.proofs.running.drive.Goals as goal

pub loop-k-init : goal.loop-k-init
loop-k-init c = let a = c.args in ran-none a.z a.events.now (record { proposers = a.ps.now; acceptors = a.acs.now; learners = a.ls.now; slots = a.t.now; log = a.log.now })

pub event_at-requires : goal.event_at-requires
event_at-requires c = event-there c.loop-k.k c.args.n (length c.args.events.now) c.loop-k-test.true c.requires.1.0

pub step-answer-requires : goal.step-answer-requires
step-answer-requires c =
    let a = c.args in
    let l = c.loop-k in
    still-fit a.z a.ps.now l.ps a.acs.now l.acs a.ls.now l.ls a.t.now l.t l.auto.ps l.auto.acs l.auto.ls l.auto.t c.requires.0

pub note-requires : goal.note-requires
note-requires c = let l = c.loop-k in answer-there l.k c.args.n (length c.args.log.now) (length l.log) c.loop-k-test.true c.requires.1.1 l.auto.log

pub loop-k-preserved : goal.loop-k-preserved
loop-k-preserved c =
    let a = c.args in
    let l = c.loop-k in
    let g = c.step-answer.ensures in
    let k = l.k in
    let first : Ran = record { proposers = a.ps.now; acceptors = a.acs.now; learners = a.ls.now; slots = a.t.now; log = a.log.now } in
    let now : Ran = record { proposers = l.ps; acceptors = l.acs; learners = l.ls; slots = l.t; log = l.log } in
    let noting = c.note.ensures ∙ ap (noted l.log k) g.0 in
    let one : ◌≡◌ {A = Ran} (record { proposers = c.step-answer.new.ps; acceptors = c.step-answer.new.acs; learners = c.step-answer.new.ls; slots = c.step-answer.new.t; log = c.note.new.log }) (onward a.z c.event_at.result k now) =
    λ i. record { proposers = g.1.0 i; acceptors = g.1.1.0 i; learners = g.1.1.1.0 i; slots = g.1.1.1.1 i; log = noting i } in
    one ∙ ap (λ (e : Event). onward a.z e k now) c.event_at.ensures ∙ ran-next a.z a.events.now first now k l.invariant

pub returns : goal.returns
returns c =
    let a = c.args in
    let l = c.loop-k in
    let first : Ran = record { proposers = a.ps.now; acceptors = a.acs.now; learners = a.ls.now; slots = a.t.now; log = a.log.now } in
    let same = l.invariant ∙ ap (ran_to a.z a.events.now first) (omega arith) in
    (ap (λ (x : Ran). x.proposers) same, (ap (λ (x : Ran). x.acceptors) same, (ap (λ (x : Ran). x.learners) same, (ap (λ (x : Ran). x.slots) same, ap (λ (x : Ran). x.log) same))))
