-- What a caller may rely on of records that it saw, and of what it was told, before the last call. Only calls touch the records.
use Rattle.std.specs.Prelude.{◌≡◌, List, [], ◌∷◌, ◌++◌, ℕ, length, get_or, take, drop, Ok}
use Rattle.sizes.specs.declared.Sizes.{Sizes}
use Rattle.model.specs.Records.{State, fresh}
use Rattle.model.specs.Step.{Answered, answers}
use Rattle.model.specs.Safety.{moment}
use Rattle.model.specs.declared.Event.{Event}
use Rattle.model.specs.declared.Answer.TheVariants.{Done}
use Rattle.machine.specs.Log.{logged}
use Rattle.machine.specs.Calls.{StepCall, RunCall}
use Rattle.machine.specs.Histories.{done_by}

-- after the events es the records are s; calls go on from there, and after the events fs the records are t
pub data GoesOn (z : Sizes) (es : List Event) (s : State) : List Event → State → Type 0 where
  here : GoesOn z es s es s
  stepped : (fs : List Event) (t u : State) (e : Event) (r : Answered) → GoesOn z es s fs t → StepCall z t e r u → GoesOn z es s (fs ++ (e ∷ [])) u
  ran : (fs : List Event) (t u : State) (ns : List ℕ) (n : ℕ) (log log' : List ℕ) (r : ℕ) → GoesOn z es s fs t → RunCall z t ns n log r u log' → GoesOn z es s (fs ++ done_by r ns n) u

-- after the events es the records are s; whatever calls follow, of the run of all events
pub record Recalls (z : Sizes) (es : List Event) (s : State) : Type 0 where
  -- the records seen are the moment after those events
  pub records : {fs : List Event} {t : State} → GoesOn z es s fs t → s ≡ moment z fs (length es)
  -- what a step call answers is what that run says of its event
  pub answer : (e : Event) (r : Answered) (u : State) → StepCall z s e r u
      → {fs : List Event} {t : State} → GoesOn z (es ++ (e ∷ [])) u fs t → get_or (answers z (fresh z) fs) (length es) (Ok Done) ≡ r
  -- what a run call logs is what that run says, from its place on, of the events that the call did
  pub log : (ns : List ℕ) (n : ℕ) (log log' : List ℕ) (r : ℕ) (u : State) → RunCall z s ns n log r u log'
      → {fs : List Event} {t : State} → GoesOn z (es ++ done_by r ns n) u fs t
      → log' ≡ logged (take (length (done_by r ns n)) (drop (length es) (answers z (fresh z) fs))) log
