-- Two runs computed, and the theorem at them: document 01's example, and one in which proposers contend.
use mathlib.Core.Path.{◌≡◌, ap, subst}
use mathlib.Core.Logic.{◌⊎◌, inl, inr}
use mathlib.Core.Bool.{false≢true}
use mathlib.Core.List.{List, [], ◌∷◌}
use Prim.Native.Nat.{ℕ}
use native.Mathlib.Omega.{arith}
use lib.ListN.{take}
use Rattle.std.specs.Prelude.{Ok, Err}
use Rattle.sizes.specs.declared.Sizes.{Sizes}
use Rattle.sets.specs.Scans.{only, ◌∪◌, holds, ◌⊆◌, ◌∈◌}
use Rattle.sets.specs.declared.scans.Scans.{Scans}
use Rattle.sets.proofs.ScanLaws.{∈-only, ∈-left, not-∈-empty}
use Rattle.model.specs.declared.Event.{Event}
use Rattle.model.specs.declared.Answer.TheVariants.{Done, Learnt, Decided}
use Rattle.model.specs.Records.{State, fresh, proposer_of, learner_of}
use Rattle.model.specs.Step.{answers}
use Rattle.model.specs.Safety.{moment, Given, learnt, decided, Received, MostAccepted}
use Rattle.model.proofs.Safety.{safe}
use Rattle.model.proofs.Computing.{the_sets, the_step, settled_run, run_settled, settled_answers, answers-settled}

-- a code and its two arguments
abbrev ev : ℕ → ℕ → ℕ → Event
ev c a b = record { code = c; a = a; b = b }

moment-settled : (z : Sizes) (es : List Event) (i : ℕ) → moment z es i ≡ settled_run z (fresh z) (take i es)
unfolding moment
moment-settled z es i = run_settled z (fresh z) (take i es)

-- a set with a member was accepted by a majority
most-of : (z : Sizes) (es : List Event) (i k : ℕ) (v : Scans) → k ∈ v → Given (moment z es i) v → MostAccepted z es i v
most-of z es i k v m g = elim ((safe z es).chosen i v g) [
  | inl e ↦ absurd (not-∈-empty (subst (λ (u : Scans). k ∈ u) e m))
  | inr x ↦ x
]

zero_held : 0 ∈ only 0
unfolding the_sets
zero_held = ∈-only 0 (omega arith)

-- ---- document 01's example

abbrev small : Sizes
small = record { proposers = 2; acceptors = 1; learners = 1; slots = 16; scans = 2 }

abbrev seven : List Event
seven = ev 1 0 0 ∷ ev 5 0 0 ∷ ev 2 1 0 ∷ ev 7 0 0 ∷ ev 2 2 0 ∷ ev 2 1 0 ∷ ev 7 0 0 ∷ []

pub seven-answers : answers small (fresh small) seven
    ≡ Ok Done ∷ Ok Done ∷ Ok Done ∷ Err 6 ∷ Ok (Learnt (record { 0 = 0 }) (only 0)) ∷ Ok Done ∷ Ok (Decided (record { 0 = 0 }) (only 0)) ∷ []
unfolding the_step settled_answers
seven-answers = answers-settled small (fresh small) seven

pub seven-decided : Given (moment small seven 7) (only 0)
unfolding the_step settled_run
seven-decided = decided 0 (ap (λ (s : State). (proposer_of s 0).decided) (moment-settled small seven 7))

pub seven-received : Received small seven 7 0
seven-received = (safe small seven).received 7 0 (only 0) seven-decided zero_held

pub seven-most : MostAccepted small seven 7 (only 0)
seven-most = most-of small seven 7 0 (only 0) zero_held seven-decided

-- ---- proposers contend

abbrev three : Sizes
three = record { proposers = 3; acceptors = 3; learners = 1; slots = 32; scans = 3 }

-- Proposers 0, 1 and 2 propose {0}, {1} and {2}, and acceptors 0, 1 and 2 take one each.
-- Acceptor 1 rejects {0} with {0, 1}: Decide is refused, and proposer 0 refines to {0, 1}.
-- Acceptors 0 and 2 reject {1} with {0, 1} and {1, 2}: proposer 1 refines to {0, 1, 2}.
-- Acceptors 0 and 1 take first the one, then the other; both are decided, and the learner learns both.
abbrev contended : List Event
contended = ev 1 0 0 ∷ ev 1 1 1 ∷ ev 1 2 2 ∷ ev 5 0 0 ∷ ev 5 1 0 ∷ ev 5 2 0 ∷ ev 2 6 0 ∷ ev 2 10 0 ∷ ev 2 14 0
    ∷ ev 2 7 0 ∷ ev 2 6 0 ∷ ev 2 7 0 ∷ ev 7 0 0 ∷ ev 6 0 0
    ∷ ev 2 9 0 ∷ ev 2 11 0 ∷ ev 2 9 0 ∷ ev 2 11 0 ∷ ev 6 1 0
    ∷ ev 2 6 0 ∷ ev 2 7 0 ∷ ev 2 6 0 ∷ ev 2 7 0 ∷ ev 7 0 0 ∷ ev 2 20 0 ∷ ev 2 21 0
    ∷ ev 2 9 0 ∷ ev 2 11 0 ∷ ev 2 6 0 ∷ ev 2 9 0 ∷ ev 7 1 0 ∷ ev 2 7 0 ∷ ev 2 11 0 ∷ []

-- the two sets
abbrev both : Scans
both = only 0 ∪ only 1

abbrev every : Scans
every = only 0 ∪ only 1 ∪ only 2

pub contended-answers : answers three (fresh three) contended
    ≡ Ok Done ∷ Ok Done ∷ Ok Done ∷ Ok Done ∷ Ok Done ∷ Ok Done ∷ Ok Done ∷ Ok Done ∷ Ok Done
    ∷ Ok Done ∷ Ok Done ∷ Ok Done ∷ Err 6 ∷ Ok Done
    ∷ Ok Done ∷ Ok Done ∷ Ok Done ∷ Ok Done ∷ Ok Done
    ∷ Ok Done ∷ Ok Done ∷ Ok Done ∷ Ok Done ∷ Ok (Decided (record { 0 = 0 }) both) ∷ Ok Done ∷ Ok (Learnt (record { 0 = 0 }) both)
    ∷ Ok Done ∷ Ok Done ∷ Ok Done ∷ Ok Done ∷ Ok (Decided (record { 0 = 1 }) every) ∷ Ok Done ∷ Ok (Learnt (record { 0 = 0 }) every) ∷ []
unfolding the_step settled_answers
contended-answers = answers-settled three (fresh three) contended

decided-both : Given (moment three contended 24) both
unfolding the_step settled_run
decided-both = decided 0 (ap (λ (s : State). (proposer_of s 0).decided) (moment-settled three contended 24))

learnt-every : Given (moment three contended 33) every
unfolding the_step settled_run
learnt-every = learnt 0 (ap (λ (s : State). (learner_of s 0).learnt) (moment-settled three contended 33))

both-every : both ≡ every → ⊥
unfolding the_sets
both-every e = false≢true (ap (λ (v : Scans). holds v 2) e)

-- the decided set and the learnt one are two, one contains the other, and a majority accepted each
pub record Contended : Type 0 where
  pub different : both ≡ every → ⊥
  pub comparable : (both ⊆ every) ⊎ (every ⊆ both)
  pub both_accepted : MostAccepted three contended 24 both
  pub every_accepted : MostAccepted three contended 33 every
  pub every_received : (k : ℕ) → k ∈ every → Received three contended 33 k

pub contended-safe : Contended
contended-safe = record {
  different = both-every;
  comparable = (safe three contended).comparable 24 33 both every decided-both learnt-every;
  both_accepted = most-of three contended 24 0 both (∈-left (only 1) zero_held) decided-both;
  every_accepted = most-of three contended 33 0 every (∈-left (only 2) (∈-left (only 1) zero_held)) learnt-every;
  every_received = λ k m. (safe three contended).received 33 k every learnt-every m;
}
