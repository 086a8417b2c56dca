-- Demand 3 as a caller of the calls may rely on it: records made fresh, and then touched by calls alone.
use Rattle.std.specs.Prelude.{◌≡◌, true, List, [], ◌∷◌, ◌++◌, ℕ, eqb, length, get_or}
use Rattle.std.specs.Prelude.{if◌then◌else◌, Ok}
use Rattle.sizes.specs.Sizes.{sizes_in_range}
use Rattle.sizes.specs.declared.Sizes.{Sizes}
use Rattle.model.specs.Records.{State, fresh}
use Rattle.model.specs.Step.{Answered, answers}
use Rattle.model.specs.Safety.{moment, Safe}
use Rattle.model.specs.declared.Event.{Event}
use Rattle.model.specs.declared.Answer.TheVariants.{Done}
use Rattle.machine.specs.Calls.{events_in, FreshCall, StepCall, RunCall}

-- the events that a run call does: none where it refuses
abbrev pub done_by : ℕ → List ℕ → ℕ → List Event
done_by r ns n = if eqb r 0 then events_in ns n else []

-- the events that were done on records since they were made fresh, and what the records are now. Each call is what its own promise says; nobody else touches the records between calls
pub data History (z : Sizes) : List Event → State → Type 0 where
  made_fresh : (s t : State) → FreshCall z s 0 t → History z [] t
  stepped : (es : List Event) (s t : State) (e : Event) (r : Answered) → History z es s → StepCall z s e r t → History z (es ++ (e ∷ [])) t
  ran : (es : List Event) (s t : State) (ns : List ℕ) (n : ℕ) (log log' : List ℕ) (r : ℕ) → History z es s → RunCall z s ns n log r t log' → History z (es ++ done_by r ns n) t

-- the records are the last moment of a run, of which demand 3 holds
pub record Relies (z : Sizes) (es : List Event) (t : State) : Type 0 where
  pub sizes : sizes_in_range z ≡ true
  pub records : t ≡ moment z es (length es)
  pub safe : Safe z es
  -- what a step call on them answers is what the run says of that event
  pub answer : (e : Event) (r : Answered) (u : State) → StepCall z t e r u → get_or (answers z (fresh z) (es ++ (e ∷ []))) (length es) (Ok Done) ≡ r
