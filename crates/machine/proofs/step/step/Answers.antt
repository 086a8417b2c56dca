use Rattle.std.proofs.Common.{◌≡◌, sym, ◌∙◌, ap, subst, ℕ, ◌<◌, List, length, get_or, arith}
use Rattle.std.proofs.lemmas.List.{get_or_default}
use lib.Dec.{T as Holds}
use Rattle.sizes.specs.declared.Sizes.{Sizes}
use Rattle.model.specs.Records.{free_slot}
use Rattle.model.specs.declared.Proposer.{Proposer}
use Rattle.model.specs.declared.Acceptor.{Acceptor}
use Rattle.model.specs.declared.Learner.{Learner}
use Rattle.model.specs.declared.Message.{Message}
use Rattle.model.specs.declared.Event.{Event}
use Rattle.decisions.specs.Arms.{is_arm}
use Rattle.decisions.specs.declared.arms.Arm.{Arm}
use Rattle.machine.specs.Stepping.{index_in, Left, step_of}
use Rattle.machine.specs.Roles.{step_at}
use Rattle.machine.proofs.Readiness.{slot-there}
use Rattle.machine.proofs.Roles.{by-learner, by-told, by-acceptor, by-proposer, by-table}
use Rattle.machine.proofs.step.step.Goals as goal
use Rattle.machine.proofs.step.step.Goals.{After-index_in-k}

-- the arm that takes the event
is : {k n : Arm} → k ≡ n → Holds (is_arm k k) → Holds (is_arm k n)
is {k} e h = subst (λ (x : Arm). Holds (is_arm k x)) e h

-- the message is that of the event's slot, so the step of an arm is the whole step
whole : (z : Sizes) (e : Event) (k : ℕ) (m : Message) (ps : List Proposer) (acs : List Acceptor) (ls : List Learner) (t : List Message) → k ≡ index_in e.a z.slots → m ≡ get_or t k free_slot
    → step_at z e k m ps acs ls t ≡ step_of z e ps acs ls t
whole z e k m ps acs ls t ek em =
    ap (λ (n : ℕ). step_at z e n m ps acs ls t) ek
    ∙ ap (λ (x : Message). step_at z e (index_in e.a z.slots) x ps acs ls t) (em ∙ ap (λ (n : ℕ). get_or t n free_slot) ek)

-- the slot of the event is there
there : (c : After-index_in-k) → c.index_in-k.result < length c.args.t.now
there c = let a = c.args in subst (λ (n : ℕ). n < length a.t.now) (sym c.index_in-k.ensures) (slot-there a.z a.ps.now a.acs.now a.ls.now a.t.now c.requires a.e.a)

-- the message of all zeros, which a read has for a place past the table
abbrev zero : Message
zero = record { kind = 0; addressee = 0; proposer = record { 0 = 0 }; acceptor = record { 0 = 0 }; number = 0; set = record { bits = 0 } }

found : (c : After-index_in-k) → get_or c.args.t.now c.index_in-k.result zero ≡ get_or c.args.t.now c.index_in-k.result free_slot
found c = get_or_default c.args.t.now c.index_in-k.result zero free_slot (there c)

pub slice_copy_out-m : goal.slice_copy_out-m
slice_copy_out-m c = there c

pub offset_bounds-t-k : goal.offset_bounds-t-k
offset_bounds-t-k c = let h = there c in omega arith

pub step_learner-requires : goal.step_learner-requires
step_learner-requires c = let k = (goal.at.step_learner-requires c).After-index_in-k in (is c.in-Learner.ensures tt, (c.requires.1.1.1.0, (c.requires.0, (there k, found k))))

pub returns-in-Learner : goal.returns-in-Learner
returns-in-Learner c =
    let a = c.args in
    let k = (goal.at.returns-in-Learner c).After-index_in-k in
    let same = by-learner a.z a.e c.index_in-k.result _ a.ps.now a.acs.now a.ls.now a.t.now (is c.in-Learner.ensures tt) ∙ whole a.z a.e c.index_in-k.result _ a.ps.now a.acs.now a.ls.now a.t.now c.index_in-k.ensures (found k) in
    (c.step_learner.ensures.0 ∙ ap (λ (x : Left). x.answer) same, (ap (λ (x : Left). x.proposers) same, (ap (λ (x : Left). x.acceptors) same, (c.step_learner.ensures.1.0 ∙ ap (λ (x : Left). x.learners) same, c.step_learner.ensures.1.1 ∙ ap (λ (x : Left). x.slots) same))))

pub step_told-requires : goal.step_told-requires
step_told-requires c = let k = (goal.at.step_told-requires c).After-index_in-k in (is c.in-Told.ensures tt, (c.requires.1.0, (c.requires.0, (there k, found k))))

pub returns-in-Told : goal.returns-in-Told
returns-in-Told c =
    let a = c.args in
    let k = (goal.at.returns-in-Told c).After-index_in-k in
    let same = by-told a.z a.e c.index_in-k.result _ a.ps.now a.acs.now a.ls.now a.t.now (is c.in-Told.ensures tt) ∙ whole a.z a.e c.index_in-k.result _ a.ps.now a.acs.now a.ls.now a.t.now c.index_in-k.ensures (found k) in
    (c.step_told.ensures.0 ∙ ap (λ (x : Left). x.answer) same, (c.step_told.ensures.1.0 ∙ ap (λ (x : Left). x.proposers) same, (ap (λ (x : Left). x.acceptors) same, (ap (λ (x : Left). x.learners) same, c.step_told.ensures.1.1 ∙ ap (λ (x : Left). x.slots) same))))

pub step_acceptor-requires : goal.step_acceptor-requires
step_acceptor-requires c = let k = (goal.at.step_acceptor-requires c).After-index_in-k in (is c.in-Acceptor.ensures tt, (c.requires.1.1.0, (c.requires.0, (there k, found k))))

pub returns-in-Acceptor : goal.returns-in-Acceptor
returns-in-Acceptor c =
    let a = c.args in
    let k = (goal.at.returns-in-Acceptor c).After-index_in-k in
    let same = by-acceptor a.z a.e c.index_in-k.result _ a.ps.now a.acs.now a.ls.now a.t.now (is c.in-Acceptor.ensures tt) ∙ whole a.z a.e c.index_in-k.result _ a.ps.now a.acs.now a.ls.now a.t.now c.index_in-k.ensures (found k) in
    (c.step_acceptor.ensures.0 ∙ ap (λ (x : Left). x.answer) same, (ap (λ (x : Left). x.proposers) same, (c.step_acceptor.ensures.1.0 ∙ ap (λ (x : Left). x.acceptors) same, (ap (λ (x : Left). x.learners) same, c.step_acceptor.ensures.1.1 ∙ ap (λ (x : Left). x.slots) same))))

pub step_proposer-requires : goal.step_proposer-requires
step_proposer-requires c = let k = (goal.at.step_proposer-requires c).After-index_in-k in (is c.in-Proposer.ensures tt, (c.requires.1.0, (c.requires.0, (there k, found k))))

pub returns-in-Proposer : goal.returns-in-Proposer
returns-in-Proposer c =
    let a = c.args in
    let k = (goal.at.returns-in-Proposer c).After-index_in-k in
    let same = by-proposer a.z a.e c.index_in-k.result _ a.ps.now a.acs.now a.ls.now a.t.now (is c.in-Proposer.ensures tt) ∙ whole a.z a.e c.index_in-k.result _ a.ps.now a.acs.now a.ls.now a.t.now c.index_in-k.ensures (found k) in
    (c.step_proposer.ensures.0 ∙ ap (λ (x : Left). x.answer) same, (c.step_proposer.ensures.1.0 ∙ ap (λ (x : Left). x.proposers) same, (ap (λ (x : Left). x.acceptors) same, (ap (λ (x : Left). x.learners) same, c.step_proposer.ensures.1.1 ∙ ap (λ (x : Left). x.slots) same))))

pub step_table-requires : goal.step_table-requires
step_table-requires c = let k = (goal.at.step_table-requires c).After-index_in-k in (is c.in-Table.ensures tt, (c.requires.0, (there k, found k)))

pub returns-in-Table : goal.returns-in-Table
returns-in-Table c =
    let a = c.args in
    let k = (goal.at.returns-in-Table c).After-index_in-k in
    let same = by-table a.z a.e c.index_in-k.result _ a.ps.now a.acs.now a.ls.now a.t.now (is c.in-Table.ensures tt) ∙ whole a.z a.e c.index_in-k.result _ a.ps.now a.acs.now a.ls.now a.t.now c.index_in-k.ensures (found k) in
    (c.step_table.ensures.0 ∙ ap (λ (x : Left). x.answer) same, (ap (λ (x : Left). x.proposers) same, (ap (λ (x : Left). x.acceptors) same, (ap (λ (x : Left). x.learners) same, c.step_table.ensures.1 ∙ ap (λ (x : Left). x.slots) same))))
