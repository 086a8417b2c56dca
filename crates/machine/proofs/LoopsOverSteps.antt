-- What a loop over steps keeps.
--     still-fit        records fit while there are as many of each
--     event-there, answer-there    event k of n is in a schedule's numbers, and answer k has room in a log
--     ran-none, ran-next       a run over no event, and over one more
use mathlib.Core.Path.{◌≡◌, refl, sym, ◌∙◌, ap, subst}
use mathlib.Core.List.{List}
use Prim.Native.Nat.{ℕ, ◌+◌, ◌*◌, ◌<◌, ◌≤◌}
use native.Mathlib.Omega.{arith}
use native.Mathlib.Numerals.{add-one}
use lib.ListN.{length}
use Rattle.sizes.specs.declared.Sizes.{Sizes}
use Rattle.model.specs.declared.Proposer.{Proposer}
use Rattle.model.specs.declared.Acceptor.{Acceptor}
use Rattle.model.specs.declared.Learner.{Learner}
use Rattle.model.specs.declared.Message.{Message}
use Rattle.machine.specs.Stepping.{Fits}
use Rattle.machine.specs.Running.{Ran, onward, ran_to}
use Rattle.machine.specs.Log.{per_answer}
use Rattle.machine.specs.Calls.{event_of}

pub still-fit : (z : Sizes) (ps ps' : List Proposer) (acs acs' : List Acceptor) (ls ls' : List Learner) (t t' : List Message) → length ps' ≡ length ps → length acs' ≡ length acs → length ls' ≡ length ls → length t' ≡ length t → Fits z ps acs ls t → Fits z ps' acs' ls' t'
still-fit z ps ps' acs acs' ls ls' t t' e₀ e₁ e₂ e₃ fit =
    (fit.0, (subst (λ (m : ℕ). z.proposers ≤ m) (sym e₀) fit.1.0, (subst (λ (m : ℕ). z.acceptors ≤ m) (sym e₁) fit.1.1.0, (subst (λ (m : ℕ). z.learners ≤ m) (sym e₂) fit.1.1.1.0, subst (λ (m : ℕ). z.slots ≤ m) (sym e₃) fit.1.1.1.1))))

pub event-there : (k n m : ℕ) → k < n → 3 * n ≤ m → 3 * k + 2 < m
event-there k n m low enough = omega arith

pub answer-there : (k n m m' : ℕ) → k < n → per_answer * n ≤ m → m' ≡ m → per_answer * (k + 1) ≤ m'
answer-there k n m m' low enough same = omega arith

pub ran-none : (z : Sizes) (ns : List ℕ) (r : Ran) → r ≡ ran_to z ns r 0
unfolding ran_to
ran-none z ns r = refl

pub ran-next : (z : Sizes) (ns : List ℕ) (r₀ r : Ran) (k : ℕ) → r ≡ ran_to z ns r₀ k → onward z (event_of ns k) k r ≡ ran_to z ns r₀ (k + 1)
unfolding ran_to
ran-next z ns r₀ r k e = ap (onward z (event_of ns k) k) e ∙ ap (ran_to z ns r₀) (sym (add-one k))
