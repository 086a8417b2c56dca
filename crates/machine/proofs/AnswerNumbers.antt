-- Document 01's number of what a step answers is the refusal of its event.
use mathlib.Core.Path.{◌≡◌, refl}
use Prim.Native.Nat.{ℕ, zero, suc}
use Rattle.sizes.specs.declared.Sizes.{Sizes}
use Rattle.model.specs.declared.Event.{Event}
use Rattle.model.specs.Records.{State}
use Rattle.model.specs.Events.{code_of, Effect, effect}
use Rattle.model.specs.Step.{answer_no, stepped, step_no, step}

stepped-number : (s : State) (x : Effect) (n : ℕ) → answer_no (stepped n s x).answer ≡ n
unfolding stepped
stepped-number s x zero = refl
stepped-number s x (suc n) = refl

pub step-number : (z : Sizes) (s : State) (e : Event) → answer_no (step z s e).answer ≡ step_no z s e
unfolding step
step-number z s e = stepped-number s (effect z s (code_of e.code) e.a e.b) (step_no z s e)
