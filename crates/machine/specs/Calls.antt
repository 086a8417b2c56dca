-- What the calls promise, of the records that a caller lends: fresh, one step, a run, and a run from fresh on records of its own.
use Rattle.std.specs.Prelude.{◌≡◌, Bool, ◌&&◌, List, map, ℕ, ◌+◌, ◌*◌, eqb, leb, length, get_or}
use Rattle.std.specs.Prelude.{if◌then◌else◌}
use Rattle.sizes.specs.Sizes.{sizes_in_range}
use Rattle.sizes.specs.Events.{most_events}
use Rattle.sizes.specs.declared.Sizes.{Sizes}
use Rattle.model.specs.Records.{State, fresh}
use Rattle.choice.specs.Tests.{◌unless◌, ◌⨾◌, ok}
use Rattle.model.specs.Table.{from}
use Rattle.model.specs.Ranges.{lengths_in_range, records_in_range}
use Rattle.model.specs.Step.{Answered, answer_no, step_no, step, run, answers}
use Rattle.model.specs.declared.Proposer.{Proposer}
use Rattle.model.specs.declared.Acceptor.{Acceptor}
use Rattle.model.specs.declared.Learner.{Learner}
use Rattle.model.specs.declared.Message.{Message}
use Rattle.model.specs.declared.Event.{Event}
use Rattle.machine.specs.declared.calls.Said.{Said}
use Rattle.machine.specs.Log.{per_answer, said_no, said_set, logged}

-- the records that a caller lends
abbrev pub lent : List Proposer → List Acceptor → List Learner → List Message → State
lent ps acs ls t = record { proposers = ps; acceptors = acs; learners = ls; slots = t }

-- ---- fresh: 1 for a size out of its range or another number of records or slots

abbrev pub fresh_no : Sizes → State → ℕ
fresh_no z s = 1 unless (sizes_in_range z && lengths_in_range z s) ⨾ ok

abbrev pub after_fresh : Sizes → State → State
after_fresh z s = if eqb (fresh_no z s) 0 then fresh z else s

-- ---- an answer as two numbers

abbrev pub said_of : Answered → Said
said_of w = record { no = said_no w; set = said_set w }

-- ---- a run of n events, three numbers each; their answers go into a log

-- event k: code, a, b
abbrev pub event_of : List ℕ → ℕ → Event
event_of ns k = record { code = get_or ns (3 * k) 0; a = get_or ns (3 * k + 1) 0; b = get_or ns (3 * k + 2) 0 }

-- the first n of them
abbrev pub events_in : List ℕ → ℕ → List Event
events_in ns n = map (event_of ns) (from 0 n)

-- there are numbers for n events, and room for their answers: of how many numbers there are, and how long the log is
abbrev pub enough_of : ℕ → ℕ → ℕ → Bool
enough_of e l n = leb (3 * n) e && leb (per_answer * n) l

abbrev pub has_numbers : List ℕ → ℕ → List ℕ → Bool
has_numbers ns n log = enough_of (length ns) (length log) n

abbrev pub run_no : Sizes → State → List ℕ → ℕ → List ℕ → ℕ
run_no z s ns n log =
    1 unless records_in_range z s
    ⨾ 3 unless leb n most_events
    ⨾ 8 unless has_numbers ns n log
    ⨾ ok

abbrev pub after_run : Sizes → State → List ℕ → ℕ → List ℕ → State
after_run z s ns n log = if eqb (run_no z s ns n log) 0 then run z s (events_in ns n) else s

abbrev pub log_after_run : Sizes → State → List ℕ → ℕ → List ℕ → List ℕ
log_after_run z s ns n log = if eqb (run_no z s ns n log) 0 then logged (answers z s (events_in ns n)) log else log

-- ---- a run from fresh, on records of its own

abbrev pub whole_run_no : Sizes → List ℕ → ℕ → List ℕ → ℕ
whole_run_no z ns n log =
    1 unless sizes_in_range z
    ⨾ 3 unless leb n most_events
    ⨾ 8 unless has_numbers ns n log
    ⨾ ok

abbrev pub log_after_whole_run : Sizes → List ℕ → ℕ → List ℕ → List ℕ
log_after_whole_run z ns n log = if eqb (whole_run_no z ns n log) 0 then logged (answers z (fresh z) (events_in ns n)) log else log

-- ---- the calls' promises: what is given, what is answered, what is left

-- the four lists that are left, one by one
abbrev pub Leaves : State → State → Type 0
Leaves t u =
    (t.proposers ≡ u.proposers)
    × ((t.acceptors ≡ u.acceptors) × ((t.learners ≡ u.learners) × (t.slots ≡ u.slots)))

abbrev pub FreshCall : Sizes → State → ℕ → State → Type 0
FreshCall z s r t = (r ≡ fresh_no z s) × Leaves t (after_fresh z s)

-- the answer is document 01's, and so is its number
abbrev pub StepCall : Sizes → State → Event → Answered → State → Type 0
StepCall z s e r t =
    (r ≡ (step z s e).answer)
    × ((answer_no r ≡ step_no z s e) × Leaves t (step z s e).state)

abbrev pub SaidCall : Sizes → State → Event → Said → State → Type 0
SaidCall z s e r t = (r ≡ said_of (step z s e).answer) × Leaves t (step z s e).state

abbrev pub RunCall : Sizes → State → List ℕ → ℕ → List ℕ → ℕ → State → List ℕ → Type 0
RunCall z s ns n log r t log' =
    (r ≡ run_no z s ns n log)
    × (Leaves t (after_run z s ns n log) × (log' ≡ log_after_run z s ns n log))

abbrev pub WholeRunCall : Sizes → List ℕ → ℕ → List ℕ → ℕ → List ℕ → Type 0
WholeRunCall z ns n log r log' = (r ≡ whole_run_no z ns n log) × (log' ≡ log_after_whole_run z ns n log)
