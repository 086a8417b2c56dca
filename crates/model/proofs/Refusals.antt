-- The refusal numbers of an event are 1 to 8, and in a run from fresh never 1.
use mathlib.Core.Path.{◌≡◌, refl}
use mathlib.Core.Bool.{Bool, true, false}
use mathlib.Core.List.{List}
use Prim.Native.Nat.{ℕ, zero, suc, ◌≤◌}
use native.Mathlib.Omega.{arith}
use lib.Dec.{leb}
use borrow.Author.Tests.{leb-true}
use Rattle.sizes.specs.Sizes.{between, sizes_in_range}
use Rattle.sizes.specs.declared.Sizes.{Sizes}
use Rattle.model.specs.declared.Proposer.{Proposer}
use Rattle.model.specs.declared.Event.{Event}
use Rattle.model.specs.Records.{State, fresh}
use Rattle.choice.specs.Tests.{◌unless◌, refusal}
use Rattle.model.specs.Rules.{propose_no, refine_no, decide_no}
use Rattle.model.specs.Events.{Code, receive, deliver, drop, duplicate, propose, refine, decide, crash, no_code, code_of, tests}
use Rattle.model.specs.Ranges.{records_in_range}
use Rattle.model.specs.Step.{step_no, run}
use Rattle.choice.proofs.Tests.{and_l, and_r}
use Rattle.model.proofs.InRange.{run-in-range}

-- no refusal, or one of those that follow the first test
pub data Own : ℕ → Type 0 where
  passes : Own 0
  refuses : {n : ℕ} → 2 ≤ n → n ≤ 8 → Own n

gives : (n : ℕ) → between 2 8 n ≡ true → (t : Bool) (rest : ℕ) → Own rest → Own ((n unless t) rest)
gives n e true rest x = x
gives n e false rest x = refuses (leb-true 2 n (and_l (leb 2 n) (leb n 8) e)) (leb-true n 8 (and_r (leb 2 n) (leb n 8) e))

hands_on : (n rest : ℕ) → Own n → Own rest → Own (refusal n rest)
hands_on zero rest x y = y
hands_on (suc n) rest x y = x

propose-own : (p : Proposer) → Own (propose_no p)
unfolding propose_no
propose-own p = search (gives 5 refl, gives 6 refl, gives 7 refl, passes)

refine-own : (a : ℕ) (p : Proposer) → Own (refine_no a p)
unfolding refine_no
refine-own a p = search (gives 5 refl, gives 6 refl, gives 7 refl, passes)

decide-own : (a : ℕ) (p : Proposer) → Own (decide_no a p)
unfolding decide_no
decide-own a p = search (gives 5 refl, gives 6 refl, passes)

tests-own : (z : Sizes) (s : State) (c : Code) (a b : ℕ) → Own (tests z s c a b)
unfolding tests
tests-own z s receive a b = search (gives 3 refl, gives 5 refl, gives 8 refl, passes)
tests-own z s deliver a b = search (gives 3 refl, gives 4 refl, gives 5 refl, gives 8 refl, passes)
tests-own z s drop a b = search (gives 3 refl, gives 4 refl, passes)
tests-own z s duplicate a b = search (gives 3 refl, gives 4 refl, gives 8 refl, passes)
tests-own z s propose a b = search (gives 3 refl, hands_on, propose-own, gives 8 refl, passes)
tests-own z s refine a b = search (gives 3 refl, hands_on, refine-own, gives 8 refl, passes)
tests-own z s decide a b = search (gives 3 refl, hands_on, decide-own, passes)
tests-own z s crash a b = search (gives 3 refl, gives 5 refl, passes)
tests-own z s no_code a b = refuses {n = 2} (omega arith) (omega arith)

-- ---- 1 to 8

own-most : {n : ℕ} → Own n → n ≤ 8
own-most passes = omega arith
own-most (refuses l h) = h

first-most : (t : Bool) (n : ℕ) → Own n → (1 unless t) n ≤ 8
first-most true n x = own-most x
first-most false n x = omega arith

-- no refusal number is above 8
pub refusal-most : (z : Sizes) (s : State) (e : Event) → step_no z s e ≤ 8
unfolding step_no
refusal-most z s e = first-most (records_in_range z s) _ (tests-own z s (code_of e.code) e.a e.b)

-- ---- never 1 in a run from fresh

own-not-one : {n : ℕ} → Own n → n ≡ 1 → ⊥
own-not-one passes q = omega arith
own-not-one (refuses l h) q = omega arith

-- with sizes in range, whatever events came before
pub never-one : (z : Sizes) (es : List Event) (e : Event) → sizes_in_range z ≡ true → step_no z (run z (fresh z) es) e ≡ 1 → ⊥
unfolding step_no
never-one z es e h q =
    own-not-one (tests-own z (run z (fresh z) es) (code_of e.code) e.a e.b) (rw (run-in-range z es h) at q)
