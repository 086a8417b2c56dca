-- The starred examples of document 01, "Examples at the edges", in one list: what a rule answers, beside what the document says it answers.
use Rattle.std.specs.Prelude.{◌≡◌, true, false, List, [], ◌∷◌, ◌++◌, ℕ, ◌-◌, length, get_or, replicate}
use Rattle.sets.specs.Acceptors.{none, majority}
use Rattle.sets.specs.Scans.{empty, only, ◌∪◌, first_word}
use Rattle.sets.specs.declared.scans.Scans.{Scans}
use Rattle.sizes.specs.declared.Sizes.{Sizes}
use Rattle.std.specs.declared.result.Result.TheVariants as result
use Rattle.numbers.specs.Coding.{Read, read_number}
use Rattle.numbers.specs.declared.Limit.TheVariants.{Schedule}
use Rattle.clock.specs.Clock.{ScanTime, clock_rule}
use Rattle.model.specs.declared.Proposer.{Proposer}
use Rattle.model.specs.declared.Acceptor.{Acceptor}
use Rattle.model.specs.declared.Message.{Message}
use Rattle.model.specs.declared.Event.{Event}
use Rattle.model.specs.declared.Answer.TheVariants.{Done, Learnt, Decided}
use Rattle.model.specs.Records.{State, fresh_acceptor, fresh_learner, free_slot, slot_of}
use Rattle.model.specs.Table.{Internal, Proposal, Acknowledgement, Rejection}
use Rattle.model.specs.Step.{Answered, run, answers}

-- what a rule answers: a value, or a refusal by its number
pub data Answer : Type 0 where
  value : ℕ → Answer
  refused : ℕ → Answer

pub record Example : Type 0 where
  pub rule : Answer  -- what the rule gives
  pub paper : Answer  -- what document 01 says

infix 30 ◌is◌
abbrev pub ◌is◌ : Answer → Answer → Example
rule is paper = record { rule = rule; paper = paper }

abbrev pub of_read : Read → Answer
of_read (result.Ok n) = value n.value
of_read (result.Err n) = refused n

abbrev pub of_clock : ScanTime → Answer
of_clock (result.Ok time) = value time
of_clock (result.Err n) = refused n

-- ---- the machine: a state, the events that it meets, and what the last of them answers or leaves

-- ok without more: 0; a set learnt or decided: its number, scan 0 the lowest bit
abbrev pub of_event : Answered → Answer
of_event (result.Ok Done) = value 0
of_event (result.Ok (Learnt l v)) = value (first_word v)
of_event (result.Ok (Decided p v)) = value (first_word v)
of_event (result.Err n) = refused n

abbrev pub last_of : List Answered → Answer
last_of ws = of_event (get_or ws (length ws - 1) (result.Ok Done))

abbrev pub event : ℕ → ℕ → ℕ → Event
event code a b = record { code = code; a = a; b = b }

abbrev pub decide_it : Event
decide_it = event 7 0 0

abbrev pub deliver_slot : ℕ → Event
deliver_slot i = event 2 i 0

-- one proposer, so many acceptors and learners, 16 slots, three scans
abbrev pub sizes_of : ℕ → ℕ → Sizes
sizes_of a l = record { proposers = 1; acceptors = a; learners = l; slots = 16; scans = 3 }

-- its records, with these messages in the lowest slots
abbrev pub state_of : Proposer → Acceptor → ℕ → ℕ → List Message → State
state_of p q a l ms = record {
  proposers = p ∷ [];
  acceptors = q ∷ replicate (a - 1) fresh_acceptor;
  learners = replicate l fresh_learner;
  slots = ms ++ replicate (16 - length ms) free_slot;
}

-- scan 0; scan 1; scans 0 and 2
abbrev pub scan₀ : Scans
scan₀ = only 0

abbrev pub scan₁ : Scans
scan₁ = only 1

abbrev pub scans₀₂ : Scans
scans₀₂ = only 0 ∪ only 2

abbrev pub accepted_first : Acceptor
accepted_first = record { alive = true; accepted = scan₀ }

-- a proposer that has proposed {0} under number 1
abbrev pub proposed_first : Proposer
proposed_first = record {
  alive = true;
  active = true;
  buffered = empty;
  proposed = scan₀;
  gathered = empty;
  number = 1;
  acknowledged = none;
  rejected = none;
  decided = empty;
}

-- a passive proposer of number 1,000
abbrev pub at_thousand : Scans → Proposer
at_thousand v = record {
  alive = true;
  active = false;
  buffered = v;
  proposed = empty;
  gathered = empty;
  number = 1_000;
  acknowledged = none;
  rejected = none;
  decided = empty;
}

-- an acceptor that accepted {0} is given a proposal
abbrev pub offered : Scans → State
offered v = state_of proposed_first accepted_first 1 1 (Proposal 0 1 v 0 ∷ [])

abbrev pub acknowledged_twice : State
acknowledged_twice = state_of proposed_first fresh_acceptor 3 1 (Acknowledgement 0 1 scan₀ 0 ∷ Acknowledgement 0 1 scan₀ 0 ∷ [])

abbrev pub one_rejected : State
one_rejected =
    state_of proposed_first fresh_acceptor 3 1 (Acknowledgement 0 1 scan₀ 0 ∷ Acknowledgement 1 1 scan₀ 0 ∷ Rejection 2 1 scans₀₂ 0 ∷ [])

abbrev pub full_table : State
full_table = state_of proposed_first accepted_first 1 8 (Proposal 0 1 scan₀ 0 ∷ replicate 15 (Internal scan₀ 0))

-- ---- the examples, as document 01 groups them

-- A = 1, 2, 3, 7: majority 1, 2, 2, 4
abbrev pub majorities : List Example
majorities =
    (value (majority 1) is value 1)
    ∷ (value (majority 2) is value 2)
    ∷ (value (majority 3) is value 2)
    ∷ (value (majority 7) is value 4)
    ∷ []

-- accepted {0}, proposal {0}: acknowledged (kind 3); accepted {0}, proposal {1}: rejected (kind 4) with {0,1}
abbrev pub acceptor_answers : List Example
acceptor_answers =
    (value (slot_of (run (sizes_of 1 1) (offered scan₀) (deliver_slot 0 ∷ [])) 0).kind is value 3)
    ∷ (value (slot_of (run (sizes_of 1 1) (offered scan₁) (deliver_slot 0 ∷ [])) 0).kind is value 4)
    ∷ (value (first_word (slot_of (run (sizes_of 1 1) (offered scan₁) (deliver_slot 0 ∷ [])) 0).set) is value 0b11)
    ∷ []

-- A = 3, the same acknowledgement delivered twice: Decide refused 6
abbrev pub counted_once : List Example
counted_once =
    (last_of (answers (sizes_of 3 1) acknowledged_twice (deliver_slot 0 ∷ deliver_slot 1 ∷ decide_it ∷ [])) is refused 6)
    ∷ []

-- A = 3, two acknowledged {0}, one rejected with {0,2}: Decide gives {0}
abbrev pub decided_set : List Example
decided_set =
    (last_of (answers (sizes_of 3 1) one_rejected (deliver_slot 0 ∷ deliver_slot 1 ∷ deliver_slot 2 ∷ decide_it ∷ [])) is value 0b1)
    ∷ []

-- number 1,000, passive, buffered not empty: 7; buffered empty: 6
abbrev pub last_number : List Example
last_number =
    (last_of (answers (sizes_of 1 1) (state_of (at_thousand scan₀) fresh_acceptor 1 1 []) (event 5 0 0 ∷ [])) is refused 7)
    ∷ (last_of (answers (sizes_of 1 1) (state_of (at_thousand empty) fresh_acceptor 1 1 []) (event 5 0 0 ∷ [])) is refused 6)
    ∷ []

-- L = 8, full table, Deliver of an acceptable proposal: 8
abbrev pub no_room : List Example
no_room =
    (last_of (answers (sizes_of 1 8) full_table (deliver_slot 0 ∷ [])) is refused 8)
    ∷ []

-- dock tick 5, scan tick 4,294,967,290, dock time 1,000: 989; dock time 10: 9
abbrev pub scan_times : List Example
scan_times =
    (of_clock (clock_rule 5 4_294_967_290 1_000) is value 989)
    ∷ (of_clock (clock_rule 5 4_294_967_290 10) is refused 9)
    ∷ []

-- bytes 80 00: 12; FF FF 03: 65,535
abbrev pub coded_numbers : List Example
coded_numbers =
    (of_read (read_number Schedule (0x80 ∷ 0x00 ∷ []) 0) is refused 12)
    ∷ (of_read (read_number Schedule (0xff ∷ 0xff ∷ 0x03 ∷ []) 0) is value 65_535)
    ∷ []

abbrev pub starred : List Example
starred =
    majorities ++ acceptor_answers ++ counted_once ++ decided_set ++ last_number ++ no_room ++ scan_times ++ coded_numbers

-- every example of a list holds
pub data Hold : List Example → Type 0 where
  nothing : Hold []
  also : {e : Example} {es : List Example} → e.rule ≡ e.paper → Hold es → Hold (e ∷ es)
