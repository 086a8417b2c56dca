-- A step and a run on more records and slots than the run's sizes say: the first of them go as if they were all, and what stands behind them stays, where each slot there is taken.
use mathlib.Core.Path.{◌≡◌, refl, sym, ◌∙◌, ap}
use mathlib.Core.Bool.{Bool, true, false}
use mathlib.Core.List.{List, [], ◌∷◌, ◌++◌}
use Prim.Native.Nat.{ℕ, zero, suc, ◌+◌, ◌-◌, ◌≤◌}
use native.Mathlib.Omega.{arith}
use lib.Dec.{eqb, leb}
use lib.ListN.{length, get_or, set, drop, replicate, length-append, length-set, replicate-append-replicate, get_or-append}
use lib.Seq.{set-append_left}
use borrow.Author.Tests.{not-true}
use Rattle.std.specs.Prelude.{if◌then◌else◌}
use Rattle.sizes.specs.Sizes.{sizes_in_range}
use Rattle.sizes.specs.Events.{most_events}
use Rattle.sizes.proofs.SizeLaws.{bounds}
use Rattle.sizes.specs.declared.Sizes.{Sizes}
use Rattle.model.specs.Records.{fresh, fresh_proposer, fresh_acceptor, fresh_learner, free_slot}
use Rattle.model.specs.Table.{is_free, free_slots, place, post}
use Rattle.model.specs.Ranges.{all, records_in_range}
use Rattle.model.specs.Step.{run, answers}
use Rattle.model.specs.declared.Proposer.{Proposer}
use Rattle.model.specs.declared.Acceptor.{Acceptor}
use Rattle.model.specs.declared.Learner.{Learner}
use Rattle.model.specs.declared.Message.{Message}
use Rattle.model.specs.declared.Event.{Event}
use Rattle.choice.proofs.Tests.{and_l, and_i}
use Rattle.model.proofs.States.{length-post}
use Rattle.model.proofs.InRange.{run-in-range}
use Rattle.decisions.specs.Sending.{is_taken, items_of}
use Rattle.decisions.specs.Change.{learner_after, slot_after}
use Rattle.machine.specs.Stepping.{index_in, party_of, reply_of, Fits, Left, the_message, step_of}
use Rattle.decisions.specs.Arms.{Decision, decide_of, finish_of}
use Rattle.machine.specs.Running.{Ran, onward, ran_to, driven, Drives}
use Rattle.machine.specs.Log.{logged, noted}
use Rattle.machine.specs.Calls.{event_of, events_in, has_numbers, whole_run_no, log_after_whole_run}
use Rattle.machine.proofs.Posting.{others-take}
use Rattle.machine.proofs.Readiness.{proposer-there, acceptor-there, learner-there, slot-there}
use Rattle.machine.proofs.RunLaws.{driven-ends, in-range-fits, numbers-there, none-refused}

-- ---- the table, with taken slots behind

first_taken : (x : Message) (t : List Message) → all is_taken (x ∷ t) ≡ true → is_free x ≡ false
unfolding all
first_taken x t h = not-true (is_free x) (and_l (is_taken x) (all is_taken t) h)

free-none : (t : List Message) → all is_taken t ≡ true → free_slots t ≡ 0
unfolding free_slots
free-none [] h = refl
free-none (x ∷ t) h = rw (first_taken x t h) (free-none t (others-take x t h))

place_none : (m : Message) (t : List Message) → all is_taken t ≡ true → place m t ≡ t
unfolding place
place_none m [] h = refl
place_none m (x ∷ t) h = rw (first_taken x t h) (ap (λ (u : List Message). x ∷ u) (place_none m t (others-take x t h)))

choice-append : (b : Bool) (u v w : List Message) → (if b then (u ++ w) else (v ++ w)) ≡ (if b then u else v) ++ w
choice-append true u v w = refl
choice-append false u v w = refl

module _ (t' : List Message) (taken : all is_taken t' ≡ true) where
  free-longer : (t : List Message) → free_slots (t ++ t') ≡ free_slots t
  unfolding free_slots
  free-longer [] = free-none t' taken
  free-longer (x ∷ t) = rw (free-longer t)

  place-longer : (m : Message) (t : List Message) → place m (t ++ t') ≡ place m t ++ t'
  unfolding place
  place-longer m [] = place_none m t' taken
  place-longer m (x ∷ t) = ap (λ (u : List Message). if is_free x then (m ∷ (t ++ t')) else (x ∷ u)) (place-longer m t) ∙ choice-append (is_free x) (m ∷ t) (x ∷ place m t) t'

  post-longer : (ms t : List Message) → post ms (t ++ t') ≡ post ms t ++ t'
  unfolding post
  post-longer [] t = refl
  post-longer (m ∷ ms) t = ap (post ms) (place-longer m t) ∙ post-longer ms (place m t)

-- ---- one step

-- what is decided of the records found, by the number of free slots
abbrev finished_by : Sizes → Event → Message → Proposer → Acceptor → Learner → ℕ → Decision
finished_by z e m q c l n = finish_of (decide_of z e m q c l) ((decide_of z e m q c l).need - n) q c

module _ (z : Sizes) (e : Event) where
  -- the step where these records are found
  abbrev step_by : Message → Proposer → Acceptor → Learner → ℕ → List Proposer → List Acceptor → List Learner → List Message → Left
  step_by m q c l n ps acs ls t = record {
    answer = reply_of z e (finished_by z e m q c l n) m l;
    proposers = set ps (index_in (party_of e m) z.proposers) (finished_by z e m q c l n).change.proposer;
    acceptors = set acs (index_in (party_of e m) z.acceptors) (finished_by z e m q c l n).change.acceptor;
    learners = set ls (index_in (party_of e m) z.learners) (learner_after z (finished_by z e m q c l n).change.hears (finished_by z e m q c l n).change.stops m l);
    slots = post (items_of (finished_by z e m q c l n).change.send) (set t (index_in e.a z.slots) (slot_after (finished_by z e m q c l n).change.frees m));
  }

  -- the step where this message is found
  abbrev step_at : Message → List Proposer → List Acceptor → List Learner → List Message → Left
  step_at m ps acs ls t =
      step_by m (get_or ps (index_in (party_of e m) z.proposers) fresh_proposer) (get_or acs (index_in (party_of e m) z.acceptors) fresh_acceptor)
      (get_or ls (index_in (party_of e m) z.learners) fresh_learner) (free_slots t) ps acs ls t

-- more records and slots behind those that a step leaves
abbrev pub with_more : Left → List Proposer → List Acceptor → List Learner → List Message → Left
with_more l ps' acs' ls' t' = record {
  answer = l.answer;
  proposers = l.proposers ++ ps';
  acceptors = l.acceptors ++ acs';
  learners = l.learners ++ ls';
  slots = l.slots ++ t';
}

module _ (z : Sizes) (ps' : List Proposer) (acs' : List Acceptor) (ls' : List Learner) (t' : List Message) (taken : all is_taken t' ≡ true) where
  module _ (e : Event) (ps : List Proposer) (acs : List Acceptor) (ls : List Learner) (t : List Message) (fit : Fits z ps acs ls t) where
    -- where the same records are found
    by-longer : (m : Message) (q : Proposer) (c : Acceptor) (l : Learner) (n : ℕ)
        → step_by z e m q c l n (ps ++ ps') (acs ++ acs') (ls ++ ls') (t ++ t') ≡ with_more (step_by z e m q c l n ps acs ls t) ps' acs' ls' t'
    by-longer m q c l n = λ i. record {
      answer = reply_of z e (finished_by z e m q c l n) m l;
      proposers = set-append_left ps ps' (index_in (party_of e m) z.proposers) (finished_by z e m q c l n).change.proposer (proposer-there z ps acs ls t fit (party_of e m)) i;
      acceptors = set-append_left acs acs' (index_in (party_of e m) z.acceptors) (finished_by z e m q c l n).change.acceptor (acceptor-there z ps acs ls t fit (party_of e m)) i;
      learners = set-append_left ls ls' (index_in (party_of e m) z.learners) (learner_after z (finished_by z e m q c l n).change.hears (finished_by z e m q c l n).change.stops m l) (learner-there z ps acs ls t fit (party_of e m)) i;
      slots = (ap (post (items_of (finished_by z e m q c l n).change.send)) (set-append_left t t' (index_in e.a z.slots) (slot_after (finished_by z e m q c l n).change.frees m) (slot-there z ps acs ls t fit e.a))
          ∙ post-longer t' taken (items_of (finished_by z e m q c l n).change.send) (set t (index_in e.a z.slots) (slot_after (finished_by z e m q c l n).change.frees m))) i;
    }

    at-longer : (m : Message) → step_at z e m (ps ++ ps') (acs ++ acs') (ls ++ ls') (t ++ t') ≡ with_more (step_at z e m ps acs ls t) ps' acs' ls' t'
    at-longer m =
        (λ i. step_by z e m (get_or-append ps ps' fresh_proposer (index_in (party_of e m) z.proposers) (proposer-there z ps acs ls t fit (party_of e m)) i)
        (get_or-append acs acs' fresh_acceptor (index_in (party_of e m) z.acceptors) (acceptor-there z ps acs ls t fit (party_of e m)) i)
        (get_or-append ls ls' fresh_learner (index_in (party_of e m) z.learners) (learner-there z ps acs ls t fit (party_of e m)) i)
        (free-longer t' taken t i) (ps ++ ps') (acs ++ acs') (ls ++ ls') (t ++ t'))
        ∙ by-longer m (get_or ps (index_in (party_of e m) z.proposers) fresh_proposer) (get_or acs (index_in (party_of e m) z.acceptors) fresh_acceptor)
        (get_or ls (index_in (party_of e m) z.learners) fresh_learner) (free_slots t)

    -- the same answer, and the same records and slots with the others behind
    pub step-longer : step_of z e (ps ++ ps') (acs ++ acs') (ls ++ ls') (t ++ t') ≡ with_more (step_of z e ps acs ls t) ps' acs' ls' t'
    step-longer =
        ap (λ (m : Message). step_at z e m (ps ++ ps') (acs ++ acs') (ls ++ ls') (t ++ t')) (get_or-append t t' free_slot (index_in e.a z.slots) (slot-there z ps acs ls t fit e.a))
        ∙ at-longer (the_message z e ps acs ls t)

-- ---- a run

-- a step keeps how many there are of each
step_fits : (z : Sizes) (e : Event) (ps : List Proposer) (acs : List Acceptor) (ls : List Learner) (t : List Message) → Fits z ps acs ls t
    → Fits z (step_of z e ps acs ls t).proposers (step_of z e ps acs ls t).acceptors (step_of z e ps acs ls t).learners (step_of z e ps acs ls t).slots
step_fits z e ps acs ls t fit = (fit.0, (rw length-set fit.1.0, (rw length-set fit.1.1.0, (rw length-set fit.1.1.1.0, rw (length-post, length-set) fit.1.1.1.1))))

-- more records and slots behind those that a run leaves
abbrev pub ran_with_more : Ran → List Proposer → List Acceptor → List Learner → List Message → Ran
ran_with_more r ps' acs' ls' t' = record {
  proposers = r.proposers ++ ps';
  acceptors = r.acceptors ++ acs';
  learners = r.learners ++ ls';
  slots = r.slots ++ t';
  log = r.log;
}

-- a run goes on with what a step leaves
abbrev onward_with : Left → ℕ → List ℕ → Ran
onward_with l k log = record { proposers = l.proposers; acceptors = l.acceptors; learners = l.learners; slots = l.slots; log = noted log k l.answer }

module _ (z : Sizes) (ps : List Proposer) (acs : List Acceptor) (ls : List Learner) (t : List Message) (fit : Fits z ps acs ls t) (ns log : List ℕ) where
  driven-fits : (n : ℕ) → Fits z (driven z ps acs ls t ns log n).proposers (driven z ps acs ls t ns log n).acceptors (driven z ps acs ls t ns log n).learners (driven z ps acs ls t ns log n).slots
  unfolding ran_to
  driven-fits zero = fit
  driven-fits (suc n) =
      let r = driven z ps acs ls t ns log n in
      step_fits z (event_of ns n) r.proposers r.acceptors r.learners r.slots (driven-fits n)

  -- the same log, and the same records and slots with the others behind
  pub driven-longer : (ps' : List Proposer) (acs' : List Acceptor) (ls' : List Learner) (t' : List Message) → all is_taken t' ≡ true → (n : ℕ)
      → driven z (ps ++ ps') (acs ++ acs') (ls ++ ls') (t ++ t') ns log n ≡ ran_with_more (driven z ps acs ls t ns log n) ps' acs' ls' t'
  unfolding ran_to
  driven-longer ps' acs' ls' t' taken zero = refl
  driven-longer ps' acs' ls' t' taken (suc n) =
      let r = driven z ps acs ls t ns log n in
      ap (onward z (event_of ns n) n) (driven-longer ps' acs' ls' t' taken n)
      ∙ ap (λ (l : Left). onward_with l n r.log) (step-longer z ps' acs' ls' t' taken (event_of ns n) r.proposers r.acceptors r.learners r.slots (driven-fits n))

-- ---- a run from fresh, with more behind

-- the fresh records and slots of a run stand first, and each slot behind them is taken
pub record FreshFirst (z : Sizes) (ps : List Proposer) (acs : List Acceptor) (ls : List Learner) (t : List Message) : Type 0 where
  pub more_proposers : List Proposer
  pub more_acceptors : List Acceptor
  pub more_learners : List Learner
  pub more_slots : List Message
  pub proposers : ps ≡ (fresh z).proposers ++ more_proposers
  pub acceptors : acs ≡ (fresh z).acceptors ++ more_acceptors
  pub learners : ls ≡ (fresh z).learners ++ more_learners
  pub slots : t ≡ (fresh z).slots ++ more_slots
  pub taken : all is_taken more_slots ≡ true

fresh-in-range : (z : Sizes) → sizes_in_range z ≡ true → records_in_range z (fresh z) ≡ true
unfolding run
fresh-in-range z h = run-in-range z [] h

fresh-fits : (z : Sizes) → sizes_in_range z ≡ true → Fits z (fresh z).proposers (fresh z).acceptors (fresh z).learners (fresh z).slots
fresh-fits z h = in-range-fits z (fresh z).proposers (fresh z).acceptors (fresh z).learners (fresh z).slots (fresh-in-range z h)

longer-enough : {B : Type 0} (n : ℕ) (l m k : List B) → n ≤ length l → k ≡ l ++ m → n ≤ length k
longer-enough n l m k h e = rw (e, length-append) (omega arith)

first_fits : (z : Sizes) (ps : List Proposer) (acs : List Acceptor) (ls : List Learner) (t : List Message) → sizes_in_range z ≡ true → FreshFirst z ps acs ls t → Fits z ps acs ls t
first_fits z ps acs ls t h x =
    let fit = fresh-fits z h in
    let p = longer-enough z.proposers (fresh z).proposers x.more_proposers ps fit.1.0 x.proposers in
    let a = longer-enough z.acceptors (fresh z).acceptors x.more_acceptors acs fit.1.1.0 x.acceptors in
    let l = longer-enough z.learners (fresh z).learners x.more_learners ls fit.1.1.1.0 x.learners in
    let m = longer-enough z.slots (fresh z).slots x.more_slots t fit.1.1.1.1 x.slots in
    (h, (p, (a, (l, m))))

module _ (z : Sizes) (ns : List ℕ) (n : ℕ) (log : List ℕ) (h : whole_run_no z ns n log ≡ 0) where
  pub passed : (sizes_in_range z ≡ true) × (has_numbers ns n log ≡ true)
  passed = none-refused (sizes_in_range z) (leb n most_events) (has_numbers ns n log) h

  pub slots-few : z.slots ≤ 512
  slots-few = (bounds z passed.0).few-slots

  module _ (ps : List Proposer) (acs : List Acceptor) (ls : List Learner) (t : List Message) (x : FreshFirst z ps acs ls t) where
    pub whole-run-drives : Drives z ps acs ls t ns log n
    whole-run-drives = (first_fits z ps acs ls t passed.0 x, numbers-there ns n log passed.1)

    -- the log after all n events
    all-logged : (driven z ps acs ls t ns log n).log ≡ logged (answers z (fresh z) (events_in ns n)) log
    all-logged =
        (λ i. (driven z (x.proposers i) (x.acceptors i) (x.learners i) (x.slots i) ns log n).log)
        ∙ ap (λ (r : Ran). r.log) (driven-longer z (fresh z).proposers (fresh z).acceptors (fresh z).learners (fresh z).slots (fresh-fits z passed.0) ns log x.more_proposers x.more_acceptors x.more_learners x.more_slots x.taken n)
        ∙ (driven-ends z (fresh z).proposers (fresh z).acceptors (fresh z).learners (fresh z).slots ns log (fresh-in-range z passed.0) n (numbers-there ns n log passed.1).1).log

    pub whole-run-log : (driven z ps acs ls t ns log n).log ≡ log_after_whole_run z ns n log
    whole-run-log = all-logged ∙ ap (λ (r : ℕ). if eqb r 0 then logged (answers z (fresh z) (events_in ns n)) log else log) (sym h)

-- ---- as many records and slots as any run has

taken-copies : (x : Message) → is_taken x ≡ true → (n : ℕ) → all is_taken (replicate n x) ≡ true
unfolding all
taken-copies x h zero = refl
taken-copies x h (suc n) = and_i (is_taken x) (all is_taken (replicate n x)) h (taken-copies x h n)

taken-drop : (k : ℕ) (t : List Message) → all is_taken t ≡ true → all is_taken (drop k t) ≡ true
taken-drop zero t h = h
taken-drop (suc k) [] h = h
taken-drop (suc k) (x ∷ t) h = taken-drop k t (others-take x t h)

copies-first : {B : Type 0} (n k : ℕ) (x : B) → k ≤ n → replicate n x ≡ replicate k x ++ replicate (n - k) x
copies-first n k x h =
    let e : n ≡ k + (n - k) = omega arith in
    ap (λ (m : ℕ). replicate m x) e ∙ sym (replicate-append-replicate k (n - k) x)

-- 8 proposers, 7 acceptors and 8 learners, all fresh, and n slots, of which the first M are free and the others hold a message x
pub most-fresh-first : (z : Sizes) (n : ℕ) (x : Message) → is_taken x ≡ true → sizes_in_range z ≡ true
    → FreshFirst z (replicate 8 fresh_proposer) (replicate 7 fresh_acceptor) (replicate 8 fresh_learner) (replicate z.slots free_slot ++ drop z.slots (replicate n x))
unfolding fresh
most-fresh-first z n x tk h =
    let most = bounds z h in
    record {
      more_proposers = replicate (8 - z.proposers) fresh_proposer;
      more_acceptors = replicate (7 - z.acceptors) fresh_acceptor;
      more_learners = replicate (8 - z.learners) fresh_learner;
      more_slots = drop z.slots (replicate n x);
      proposers = copies-first 8 z.proposers fresh_proposer most.few-proposers;
      acceptors = copies-first 7 z.acceptors fresh_acceptor most.few-acceptors;
      learners = copies-first 8 z.learners fresh_learner most.few-learners;
      slots = refl;
      taken = taken-drop z.slots (replicate n x) (taken-copies x tk n);
    }
