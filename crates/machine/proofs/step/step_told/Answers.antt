use Rattle.std.proofs.Common.{◌≡◌, ◌∙◌, ap, ◌<◌, length, get_or, set, ℕ, Err, arith, rules}
use Rattle.choice.specs.Refusals.{numbered}
use Rattle.sizes.proofs.SizeLaws.{bounds}
use Rattle.model.specs.Records.{fresh_proposer, fresh_acceptor, fresh_learner}
use Rattle.model.specs.declared.Proposer.{Proposer}
use Rattle.decisions.specs.Change.{of_proposer, slot_after}
use Rattle.decisions.specs.Arms.{decide_of, finish_of, told_in, by_proposer}
use Rattle.decisions.proofs.Deciding.{told_in_lem, given-ok}
use Rattle.machine.specs.Stepping.{index_in, party_of, Left}
use Rattle.machine.proofs.Readiness.{index-there}
use Rattle.machine.proofs.Arms.{told-refused, told-done, told-left, told-slots}
use Rattle.machine.proofs.step.step_told.Goals as goal
use Rattle.machine.proofs.step.step_told.Goals.{After-number_of, After-load-q}

-- the proposer that the event finds is there
there : (c : After-number_of) → c.number_of.result < length c.args.ps.now
there c =
    let a = c.args in
    index-there a.ps.now (party_of a.e a.m) a.z.proposers c.requires.1.0 (bounds a.z c.requires.1.1.0).some-proposers c.number_of.ensures

pub number_of-requires : goal.number_of-requires
number_of-requires c = let h = (bounds c.args.z c.requires.1.1.0).few-proposers in omega arith

pub load-q-requires : goal.load-q-requires
load-q-requires c = there (goal.at.load-q-requires c).After-number_of

pub store-requires : goal.store-requires
store-requires c = there (goal.at.store-requires c).After-number_of

-- what it is told is what is decided of all records, and no slot is lacking for it
told : (c : After-load-q) → let a = c.args in
    let q = get_or a.ps.now (index_in (party_of a.e a.m) a.z.proposers) fresh_proposer in
    by_proposer (told_in a.z a.e a.m c.load-q.result) ≡ by_proposer (finish_of (decide_of a.z a.e a.m q fresh_acceptor fresh_learner) 0 q fresh_acceptor)
told c =
    let a = c.args in
    let q = get_or a.ps.now (index_in (party_of a.e a.m) a.z.proposers) fresh_proposer in
    let i = (goal.at.After-load-q c).After-number_of in
    let e = c.load-q.ensures ∙ ap (λ (n : ℕ). get_or a.ps.now n fresh_proposer) i.number_of.ensures in
    ap (λ (y : Proposer). by_proposer (told_in a.z a.e a.m y)) e ∙ ap by_proposer (told_in_lem a.z a.e a.m q c.requires.0)

pub returns-in_err-told : goal.returns-in_err-told
returns-in_err-told c =
    let a = c.args in
    let e : c.from_residual.result ≡ Err c.in_err-told.field-0.0 = search rules in
    let left = told-refused a.z a.e a.k a.m a.ps.now a.t.now c.requires.0 _ c.requires.1.1.1.1 (c.in_err-told.ensures ∙ told (goal.at.returns-in_err-told c).After-load-q) in
    (ap numbered e ∙ ap (λ (x : Left). x.answer) left, (ap (λ (x : Left). x.proposers) left, ap (λ (x : Left). x.slots) left))

pub returns : goal.returns
returns c =
    let a = c.args in
    let ps = a.ps.now in
    let t = a.t.now in
    let h = c.requires.0 in
    let p = party_of a.e a.m in
    let q = get_or ps (index_in p a.z.proposers) fresh_proposer in
    let f = finish_of (decide_of a.z a.e a.m q fresh_acceptor fresh_learner) 0 q fresh_acceptor in
    let ei = (goal.at.returns c).After-number_of.number_of.ensures in
    let g = given-ok f.no (of_proposer f.change) c.in_ok-told.told (c.in_ok-told.ensures ∙ told (goal.at.returns c).After-load-q) in (
      told-done a.z a.e a.k a.m ps t h g.0,
      (
        c.store.ensures ∙ (λ i. set ps (ei i) (g.1 i).party) ∙ told-left a.z a.e a.k a.m ps t h,
        ap (set t a.k) c.slot_after.ensures ∙ (λ i. set t a.k (slot_after (g.1 i).frees a.m)) ∙ told-slots a.z a.e a.k a.m ps t h,
      ),
    )
