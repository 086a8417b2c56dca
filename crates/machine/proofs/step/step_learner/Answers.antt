use Rattle.std.proofs.Common.{◌≡◌, ◌∙◌, ap, ◌<◌, length, get_or, set, Err, arith, rules}
use Rattle.choice.specs.Refusals.{numbered}
use Rattle.sizes.proofs.SizeLaws.{bounds}
use Rattle.model.specs.Records.{fresh_learner}
use Rattle.decisions.specs.Change.{slot_after}
use Rattle.decisions.specs.Arms.{listen_of, heard_in, by_learner}
use Rattle.decisions.proofs.Deciding.{heard-in}
use Rattle.machine.specs.Stepping.{index_in, party_of}
use Rattle.machine.specs.Roles.{ear_of, put_ear}
use Rattle.machine.proofs.Readiness.{index-there}
use Rattle.machine.proofs.Ears.{hears-well, ear-refused, ear-says, ear-left, ear-slots}
use Rattle.machine.proofs.step.step_learner.Goals as goal
use Rattle.machine.proofs.step.step_learner.Goals.{After-number_of, After-load_ear-x}

-- the learner that the event finds is there
there : (c : After-number_of) → c.number_of.result < length c.args.ls.now
there c =
    let a = c.args in
    index-there a.ls.now (party_of a.e a.m) a.z.learners c.requires.1.0 (bounds a.z c.requires.1.1.0).some-learners c.number_of.ensures

-- what it hears by its one place is what the learner hears
heard : (c : After-load_ear-x) → let a = c.args in
    by_learner (heard_in a.z a.e a.m c.load_ear-x.result) ≡ by_learner (listen_of a.z a.e a.m (ear_of (get_or a.ls.now (index_in (party_of a.e a.m) a.z.learners) fresh_learner) a.m.proposer.0))
heard c =
    let a = c.args in
    let e = (goal.at.After-load_ear-x c).After-number_of.number_of.ensures in
    ap by_learner (heard-in a.z a.e a.m c.load_ear-x.result c.requires.0 ∙ ap (listen_of a.z a.e a.m) (c.load_ear-x.ensures ∙ (λ j. ear_of (get_or a.ls.now (e j) fresh_learner) a.m.proposer.0)))

pub number_of-requires : goal.number_of-requires
number_of-requires c = let h = (bounds c.args.z c.requires.1.1.0).few-learners in omega arith

pub load_ear-x-requires : goal.load_ear-x-requires
load_ear-x-requires c = there (goal.at.load_ear-x-requires c).After-number_of

pub store_ear-requires : goal.store_ear-requires
store_ear-requires c = there (goal.at.store_ear-requires c).After-number_of

pub returns-in_err-heeded : goal.returns-in_err-heeded
returns-in_err-heeded c =
    let a = c.args in
    let e : c.from_residual.result ≡ Err c.in_err-heeded.field-0.0 = search rules in
    let left = ear-refused a.z a.e a.k a.m a.ls.now a.t.now c.requires.0 _ c.requires.1.1.1.1 (c.in_err-heeded.ensures ∙ heard (goal.at.returns-in_err-heeded c).After-load_ear-x) in
    (ap numbered e ∙ left.0, left.1)

pub returns : goal.returns
returns c =
    let a = c.args in
    let ls = a.ls.now in
    let t = a.t.now in
    let h = c.requires.0 in
    let p = a.m.proposer.0 in
    let l = get_or ls (index_in (party_of a.e a.m) a.z.learners) fresh_learner in
    let ei = (goal.at.returns c).After-number_of.number_of.ensures in
    let g = hears-well (listen_of a.z a.e a.m (ear_of l p)) c.in_ok-heeded.heeded (c.in_ok-heeded.ensures ∙ heard (goal.at.returns c).After-load_ear-x) in (
      g.0 ∙ ear-says a.z a.e a.k a.m ls t h,
      (
        c.store_ear.ensures ∙ (λ j. set ls (ei j) (put_ear (get_or ls (ei j) fresh_learner) p (g.1.0 j))) ∙ ear-left a.z a.e a.k a.m ls t h,
        ap (set t a.k) c.slot_after.ensures ∙ (λ j. set t a.k (slot_after (g.1.1 j) a.m)) ∙ ear-slots a.z a.e a.k a.m ls t h,
      ),
    )
