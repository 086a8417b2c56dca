-- A step: what it does by its refusal number, and what its passed tests say.
use mathlib.Core.Path.{◌≡◌, refl, ap}
use mathlib.Core.Bool.{true}
use Prim.Native.Nat.{ℕ, zero, suc, ◌<◌}
use borrow.Author.Tests.{ltb-true}
use Rattle.std.specs.Prelude.{Ok, Err}
use Rattle.sizes.specs.declared.Sizes.{Sizes}
use Rattle.model.specs.declared.Event.{Event}
use Rattle.model.specs.Records.{State, proposer_of}
use Rattle.model.specs.Rules.{propose_no, refine_no, decide_no}
use Rattle.model.specs.Events.{receive, propose, refine, decide, code_of, Effect, effect, tests}
use Rattle.model.specs.Ranges.{records_in_range}
use Rattle.model.specs.Step.{stepped, step_no, step, sent}
use Rattle.choice.proofs.Tests.{and_l, and_r, test-passed, rest-passed, no-refusal}

-- what the event e, meeting the state s, does if it is not refused
abbrev pub does : Sizes → State → Event → Effect
does z s e = effect z s (code_of e.code) e.a e.b

stepped-ind : (Q : State → Type 0) (n : ℕ) (s : State) (e : Effect) → Q s → (n ≡ 0 → Q (sent e)) → Q (stepped n s e).state
unfolding stepped
stepped-ind Q zero s e x y = y refl
stepped-ind Q (suc n) s e x y = x

-- what holds before a step, and after what an accepted event does, holds after the step
pub step-ind : (Q : State → Type 0) (z : Sizes) (s : State) (e : Event) → Q s → (step_no z s e ≡ 0 → Q (sent (does z s e))) → Q (step z s e).state
unfolding step
step-ind Q z s e = stepped-ind Q (step_no z s e) s (does z s e)

-- ---- what the passed tests of an event say

-- the proposer a exists, and its rule gives no refusal
pub record Passed (z : Sizes) (a no : ℕ) : Type 0 where
  pub party : a < z.proposers
  pub rule : no ≡ 0

module _ (z : Sizes) (s : State) (a b : ℕ) where
  pub receive-passed : tests z s receive a b ≡ 0 → (a < z.proposers) × (b < z.scans)
  unfolding tests
  receive-passed t = search (test-passed 2, and_l, and_r, ltb-true)

  pub propose-passed : tests z s propose a b ≡ 0 → Passed z a (propose_no (proposer_of s a))
  unfolding tests
  propose-passed t = search (test-passed 2, rest-passed 2, and_l, ltb-true, no-refusal)

  pub refine-passed : tests z s refine a b ≡ 0 → Passed z a (refine_no z.acceptors (proposer_of s a))
  unfolding tests
  refine-passed t = search (test-passed 2, rest-passed 2, and_l, ltb-true, no-refusal)

  pub decide-passed : tests z s decide a b ≡ 0 → Passed z a (decide_no z.acceptors (proposer_of s a))
  unfolding tests
  decide-passed t = search (test-passed 2, rest-passed 2, and_l, ltb-true, no-refusal)

-- an accepted event passed the first test, and its own
module _ (z : Sizes) (s : State) (e : Event) (ok : step_no z s e ≡ 0) where
  pub ok-ranges : records_in_range z s ≡ true
  unfolding step_no
  ok-ranges = search (test-passed 0)

  pub ok_tests : tests z s (code_of e.code) e.a e.b ≡ 0
  unfolding step_no
  ok_tests = search (rest-passed 0)

  pub ok_step : step z s e ≡ record { answer = Ok (does z s e).answer; state = sent (does z s e) }
  unfolding step stepped
  ok_step = ap (λ (n : ℕ). stepped n s (does z s e)) ok

-- a refusal gives its number and changes nothing
pub refusal-keeps : (z : Sizes) (s : State) (e : Event) (n : ℕ) → step_no z s e ≡ suc n → step z s e ≡ record { answer = Err (suc n); state = s }
unfolding step stepped
refusal-keeps z s e n h = ap (λ (k : ℕ). stepped k s (does z s e)) h
