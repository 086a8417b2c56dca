use Rattle.std.proofs.Common.{◌≡◌, ◌∙◌, ap, refl, ◌<◌, length, get_or, set, ℕ, [], Err, arith, rules}
use Rattle.choice.specs.Refusals.{numbered}
use Rattle.sizes.proofs.SizeLaws.{bounds}
use Rattle.model.specs.Records.{fresh_proposer, fresh_acceptor}
use Rattle.model.specs.declared.Acceptor.{Acceptor}
use Rattle.decisions.specs.Arms.{decided_in, by_acceptor}
use Rattle.decisions.specs.Change.{Changes}
use Rattle.decisions.specs.declared.arms.Arm.TheVariants as arm
use Rattle.decisions.proofs.Deciding.{decided-in}
use Rattle.machine.specs.Stepping.{party_of, Left}
use Rattle.machine.specs.Roles.{decision_at}
use Rattle.machine.proofs.Readiness.{index-there}
use Rattle.machine.proofs.Roles.{not-of}
use Rattle.machine.proofs.Arms.{not-decided, not-finished, went, can-send, slots-written, record-written, answered-done}
use Rattle.machine.proofs.step.step_acceptor.Goals as goal
use Rattle.machine.proofs.step.step_acceptor.Goals.{After-number_of, After-load-c}

-- the acceptor that the event finds is there
there : (c : After-number_of) → c.number_of.result < length c.args.acs.now
there c =
    let a = c.args in
    index-there a.acs.now (party_of a.e a.m) a.z.acceptors c.requires.1.0 (bounds a.z c.requires.1.1.0).some-acceptors c.number_of.ensures

pub number_of-requires : goal.number_of-requires
number_of-requires c = let h = (bounds c.args.z c.requires.1.1.0).few-acceptors in omega arith

pub load-c-requires : goal.load-c-requires
load-c-requires c = there (goal.at.load-c-requires c).After-number_of

pub store-requires : goal.store-requires
store-requires c = there (goal.at.store-requires c).After-number_of

-- what the arm decides of it is decided of all records
decided : (c : After-load-c) → by_acceptor (decided_in arm.Acceptor c.args.z c.args.e c.args.m fresh_proposer c.load-c.result) ≡ by_acceptor (decision_at c.args.z c.args.e c.args.k c.args.m [] c.args.acs.now [] c.args.t.now)
decided c =
    let a = c.args in
    let i = (goal.at.After-load-c c).After-number_of in
    ap (λ (y : Acceptor). by_acceptor (decided_in arm.Acceptor a.z a.e a.m fresh_proposer y)) (c.load-c.ensures ∙ ap (λ (n : ℕ). get_or a.acs.now n fresh_acceptor) i.number_of.ensures)
    ∙ ap by_acceptor (decided-in arm.Acceptor a.z a.e a.m fresh_proposer _ c.requires.1.1.0 c.requires.0)

pub returns-in_err-decided : goal.returns-in_err-decided
returns-in_err-decided c =
    let a = c.args in
    let x = (goal.at.returns-in_err-decided c).After-load-c in
    let e : c.from_residual.result ≡ Err c.in_err-decided.field-0.0 = search rules in
    let left = not-decided a.z a.e a.k a.m [] a.acs.now [] a.t.now c.requires.1.1.1.1 _ (c.in_err-decided.ensures ∙ decided x) in
    (ap numbered e ∙ ap (λ (x : Left). x.answer) left, (ap (λ (x : Left). x.acceptors) left, ap (λ (x : Left). x.slots) left))

pub returns-in_err-change : goal.returns-in_err-change
returns-in_err-change c =
    let a = c.args in
    let x = (goal.at.returns-in_err-change c).After-load-c in
    let e : c.from_residual-in_err-change.result ≡ Err c.in_err-change.field-0.0 = search rules in
    let left = not-finished a.z a.e a.k a.m [] a.acs.now [] a.t.now c.requires.1.1.1.1 _ (c.in_ok-decided.ensures ∙ decided x) c.need.ensures c.room.ensures c.in_err-change.ensures in
    (ap numbered e ∙ ap (λ (x : Left). x.answer) left, (ap (λ (x : Left). x.acceptors) left, ap (λ (x : Left). x.slots) left))

pub write_back-requires-clause-room : goal.write_back-requires-clause-room
write_back-requires-clause-room c =
    let a = c.args in
    let x = (goal.at.write_back-requires-clause-room c).After-load-c in
    let w = went a.z a.e a.k a.m [] a.acs.now [] a.t.now _ (c.in_ok-decided.ensures ∙ decided x) c.need.ensures c.room.ensures c.in_ok-change.ensures in
    can-send a.z a.e a.k a.m [] a.acs.now [] a.t.now _ w c.requires.1.1.1.0 c.requires.1.1.1.1

pub returns : goal.returns
returns c =
    let a = c.args in
    let x = (goal.at.returns c).After-load-c in
    let i = (goal.at.returns c).After-number_of in
    let w = went a.z a.e a.k a.m [] a.acs.now [] a.t.now _ (c.in_ok-decided.ensures ∙ decided x) c.need.ensures c.room.ensures c.in_ok-change.ensures in (
      answered-done a.z a.e a.k a.m [] a.acs.now [] a.t.now _ w (not-of arm.Acceptor arm.Learner _ c.requires.0 tt) (not-of arm.Acceptor arm.Proposer _ c.requires.0 tt),
      (
        c.store.ensures ∙ (λ j. set a.acs.now (i.number_of.ensures j) (record-written a.z a.e a.k a.m [] a.acs.now [] a.t.now _ w (λ (d : Changes). d.acceptor) refl j)),
        c.write_back.ensures ∙ slots-written a.z a.e a.k a.m [] a.acs.now [] a.t.now _ w,
      ),
    )
