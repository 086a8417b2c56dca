-- One step, and a whole run.
use Rattle.std.specs.Prelude.{List, [], ◌∷◌, ℕ, zero, suc, Result, Ok, Err}
use Rattle.sizes.specs.declared.Sizes.{Sizes}
use Rattle.model.specs.declared.Event.{Event}
use Rattle.model.specs.declared.Answer.{Answer}
use Rattle.model.specs.Records.{State, put_slots}
use Rattle.choice.specs.Tests.{◌unless◌, ◌⨾◌}
use Rattle.model.specs.Table.{post}
use Rattle.model.specs.Events.{code_of, Effect, effect, tests}
use Rattle.model.specs.Ranges.{records_in_range}

-- what an event answers: what it does not refuse, or the number of its refusal
abbrev pub Answered : Type 0
Answered = Result Answer ℕ

-- document 01's number of an answer: 0 for ok, or the refusal's
abbrev pub answer_no : Answered → ℕ
answer_no (Ok w) = 0
answer_no (Err n) = n

-- what an event leaves, with its messages sent
abbrev pub sent : Effect → State
sent e = put_slots e.left (post e.sends e.left.slots)

-- what a step answers and leaves
pub record Stepped : Type 0 where
  pub answer : Answered
  pub state : State

-- a refusal changes nothing
unfoldable pub stepped : ℕ → State → Effect → Stepped
stepped zero s e = record { answer = Ok e.answer; state = sent e }
stepped (suc n) s e = record { answer = Err (suc n); state = s }

-- the refusal of an event, or 0: 1 first, then the event's own tests
unfoldable pub step_no : Sizes → State → Event → ℕ
step_no z s e = 1 unless records_in_range z s ⨾ tests z s (code_of e.code) e.a e.b

unfoldable pub step : Sizes → State → Event → Stepped
step z s e = stepped (step_no z s e) s (effect z s (code_of e.code) e.a e.b)

-- the state after a list of events, and what each of them answered
unfoldable pub run : Sizes → State → List Event → State
run z s [] = s
run z s (e ∷ es) = run z (step z s e).state es

unfoldable pub answers : Sizes → State → List Event → List Answered
answers z s [] = []
answers z s (e ∷ es) = (step z s e).answer ∷ answers z (step z s e).state es
