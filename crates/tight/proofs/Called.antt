-- A history of calls on document 01's example, fresh, one step and a run, and what a caller may rely on then.
use mathlib.Core.Path.{◌≡◌, refl, ap, ◌∙◌}
use mathlib.Core.Bool.{true}
use mathlib.Core.List.{List, [], ◌∷◌}
use Prim.Native.Nat.{ℕ}
use native.Mathlib.Omega.{arith}
use lib.ListN.{drop, replicate}
use Rattle.sets.specs.Scans.{only, ◌∈◌}
use Rattle.sets.proofs.ScanLaws.{∈-only}
use Rattle.model.specs.Records.{State, fresh, learner_of}
use Rattle.model.specs.Table.{from}
use Rattle.model.specs.Ranges.{records_in_range}
use Rattle.model.specs.Step.{step}
use Rattle.model.specs.Safety.{moment, learnt, Received}
use Rattle.model.specs.declared.Event.{Event}
use Rattle.model.proofs.Computing.{the_sets, the_step, settled_run, run_settled}
use Rattle.model.proofs.InRange.{step-in-range}
use Rattle.machine.specs.Calls.{event_of, events_in, FreshCall, RunCall, run_no, after_run, log_after_run}
use Rattle.machine.specs.Histories.{History, made_fresh, stepped, ran, Relies}
use Rattle.machine.proofs.AnswerNumbers.{step-number}
use Rattle.machine.proofs.Histories.{calls-safe}
use Rattle.tight.specs.Rejected.{small, numbers}
use Rattle.tight.specs.Moments.{GoesOn}
use Rattle.tight.proofs.Moments.{calls-recall}

-- the first event by a step call, the other six by a run call
abbrev first : Event
first = event_of numbers 0

abbrev others : List ℕ
others = drop 3 numbers

abbrev log : List ℕ
log = replicate 12 0

abbrev after_first : State
after_first = (step small (fresh small) first).state

abbrev after_all : State
after_all = after_run small after_first others 6 log

made : FreshCall small (fresh small) 0 (fresh small)
unfolding the_step
made = (refl, (refl, (refl, (refl, refl))))

fresh-in-range : records_in_range small (fresh small) ≡ true
unfolding the_step
fresh-in-range = refl

run-fine : 0 ≡ run_no small after_first others 6 log
run-fine = rw (step-in-range small (fresh small) first fresh-in-range)

ran_others : RunCall small after_first others 6 log 0 after_all (log_after_run small after_first others 6 log)
ran_others = (run-fine, ((refl, (refl, (refl, refl))), refl))

first_done : History small (first ∷ []) after_first
first_done = stepped [] (fresh small) after_first first (step small (fresh small) first).answer (made_fresh (fresh small) (fresh small) made) (refl, (step-number small (fresh small) first, (refl, (refl, (refl, refl)))))

pub history : History small (first ∷ events_in others 6) after_all
history = ran (first ∷ []) after_first after_all others 6 log (log_after_run small after_first others 6 log) 0 first_done ran_others

pub relied : Relies small (first ∷ events_in others 6) after_all
relied = calls-safe small (first ∷ events_in others 6) after_all history

-- so the learner's record says that it has learnt {0}, and scan 0 was received before
last-learnt : (learner_of (moment small (first ∷ events_in others 6) 7) 0).learnt ≡ only 0
unfolding moment from the_step settled_run
last-learnt = ap (λ (s : State). (learner_of s 0).learnt) (run_settled small (fresh small) (first ∷ events_in others 6))

pub called-learnt : (learner_of after_all 0).learnt ≡ only 0
unfolding from
called-learnt = ap (λ (s : State). (learner_of s 0).learnt) relied.records ∙ last-learnt

zero_held : 0 ∈ only 0
unfolding the_sets
zero_held = ∈-only 0 (omega arith)

pub called-received : Received small (first ∷ events_in others 6) 7 0
called-received = relied.safe.received 7 0 (only 0) (learnt 0 last-learnt) zero_held

-- and the records seen between the two calls are that moment of the run
pub called-between : after_first ≡ moment small (first ∷ events_in others 6) 1
called-between = (calls-recall small (first ∷ []) after_first first_done).records (GoesOn.ran (first ∷ []) after_first after_all others 6 log (log_after_run small after_first others 6 log) 0 GoesOn.here ran_others)
