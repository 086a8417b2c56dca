-- Records that were made fresh and touched by calls alone are those of a run: demand 3 reaches the calls.
use mathlib.Core.Path.{◌≡◌, refl, sym, ap, ◌∙◌}
use mathlib.Core.Bool.{Bool, true, false, ◌&&◌}
use mathlib.Core.List.{List, [], ◌∷◌, ◌++◌}
use Prim.Native.Nat.{ℕ, zero, suc}
use native.Mathlib.Omega.{arith}
use lib.Dec.{eqb}
use lib.ListN.{length, get_or}
use Rattle.std.specs.Prelude.{if◌then◌else◌, Ok}
use Rattle.sizes.specs.Sizes.{sizes_in_range}
use Rattle.sizes.specs.declared.Sizes.{Sizes}
use Rattle.model.specs.Records.{State, fresh}
use Rattle.choice.specs.Tests.{◌unless◌, ◌⨾◌, ok}
use Rattle.model.specs.Ranges.{lengths_in_range}
use Rattle.model.specs.Step.{step, run, answers}
use Rattle.model.specs.declared.Proposer.{Proposer}
use Rattle.model.specs.declared.Acceptor.{Acceptor}
use Rattle.model.specs.declared.Learner.{Learner}
use Rattle.model.specs.declared.Message.{Message}
use Rattle.model.specs.declared.Event.{Event}
use Rattle.model.specs.declared.Answer.TheVariants.{Done}
use Rattle.model.proofs.Moments.{last}
use Rattle.model.proofs.Safety.{safe}
use Rattle.machine.specs.Calls.{events_in, lent, Leaves, StepCall, SaidCall, after_fresh, run_no, after_run}
use Rattle.machine.specs.declared.calls.Said.{Said}
use Rattle.machine.proofs.AnswerNumbers.{step-number}
use Rattle.machine.proofs.RunLaws.{run-next}
use Rattle.machine.specs.Histories.{done_by, History, made_fresh, stepped, ran, Relies}

-- a state is its four lists
same-state : (t u : State) → Leaves t u → t ≡ u
same-state t u l =
    ap (λ (x : List Proposer). lent x t.acceptors t.learners t.slots) l.0
    ∙ ap (λ (x : List Acceptor). lent u.proposers x t.learners t.slots) l.1.0
    ∙ ap (λ (x : List Learner). lent u.proposers u.acceptors x t.slots) l.1.1.0
    ∙ ap (λ (x : List Message). lent u.proposers u.acceptors u.learners x) l.1.1.1

-- ---- a run in two parts

run_on : (z : Sizes) (s : State) (es fs : List Event) → run z s (es ++ fs) ≡ run z (run z s es) fs
unfolding run
run_on z s [] fs = refl
run_on z s (e ∷ es) fs = run_on z (step z s e).state es fs

answer-last : (z : Sizes) (s : State) (es : List Event) (e : Event) → get_or (answers z s (es ++ (e ∷ []))) (length es) (Ok Done) ≡ (step z (run z s es) e).answer
unfolding run answers
answer-last z s [] e = refl
answer-last z s (f ∷ es) e = answer-last z (step z s f).state es e

-- ---- by call

-- a step that says its answer as numbers is a step with that answer
pub said-step : (z : Sizes) (s : State) (e : Event) (r : Said) (t : State) → SaidCall z s e r t → StepCall z s e (step z s e).answer t
said-step z s e r t c = (refl, (step-number z s e, c.1))

record Run (z : Sizes) (es : List Event) (t : State) : Type 0 where
  sizes : sizes_in_range z ≡ true
  state : t ≡ run z (fresh z) es

not-refused : (n : ℕ) → zero ≡ suc n → ⊥
not-refused n e = omega arith

fresh-by : (a b : Bool) (s t : State) → zero ≡ (1 unless (a && b) ⨾ ok) → (a ≡ true) × ((if eqb (1 unless (a && b) ⨾ ok) 0 then t else s) ≡ t)
fresh-by true true s t h = (refl, refl)
fresh-by true false s t h = absurd (not-refused 0 h)
fresh-by false b s t h = absurd (not-refused 0 h)

run_by : (z : Sizes) (s : State) (b : Bool) (fs : List Event) → (if b then run z s fs else s) ≡ run z s (if b then fs else [])
unfolding run
run_by z s true fs = refl
run_by z s false fs = refl

history-run : (z : Sizes) (es : List Event) (t : State) → History z es t → Run z es t
unfolding run
history-run z _ _ (made_fresh s t c) =
    let f = fresh-by (sizes_in_range z) (lengths_in_range z s) s (fresh z) c.0 in
    record { sizes = f.0; state = same-state t (after_fresh z s) c.1 ∙ f.1 }
history-run z _ _ (stepped es s t e r h c) =
    let x = history-run z es s h in
    record { sizes = x.sizes; state = same-state t (step z s e).state c.1.1 ∙ ap (λ (u : State). (step z u e).state) x.state ∙ sym (run-next z (fresh z) es e) }
history-run z _ _ (ran es s t ns n log log' r h c) =
    let x = history-run z es s h in
    record {
      sizes = x.sizes;
      state = same-state t (after_run z s ns n log) c.1.0
          ∙ run_by z s (eqb (run_no z s ns n log) 0) (events_in ns n)
          ∙ ap (λ (k : ℕ). run z s (done_by k ns n)) (sym c.0)
          ∙ ap (λ (u : State). run z u (done_by r ns n)) x.state
          ∙ sym (run_on z (fresh z) es (done_by r ns n));
    }

-- ---- demand 3, over the calls

pub calls-safe : (z : Sizes) (es : List Event) (t : State) → History z es t → Relies z es t
calls-safe z es t h =
    let x = history-run z es t h in
    record {
      sizes = x.sizes;
      records = x.state ∙ sym (last z es);
      safe = safe z es;
      answer = λ e r u c. answer-last z (fresh z) es e ∙ ap (λ (s : State). (step z s e).answer) (sym x.state) ∙ sym c.0;
    }
