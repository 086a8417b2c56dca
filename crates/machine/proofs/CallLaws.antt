-- Laws of the calls. The one that makes records fresh: where it refuses nothing every record is made fresh, and otherwise none. What a step and a run refuse is what their tests refuse.
use mathlib.Core.Path.{◌≡◌, refl, sym, ap, subst}
use Prim.Native.Nat.{ℕ}
use mathlib.Core.Bool.{Bool, true, ◌&&◌}
use mathlib.Core.List.{List}
use lib.Dec.{eqb}
use lib.ListN.{length, replicate}
use borrow.Author.Tests.{eqb-true}
use Rattle.std.specs.Prelude.{if◌then◌else◌}
use Rattle.sizes.specs.Sizes.{sizes_in_range}
use Rattle.sizes.specs.declared.Sizes.{Sizes}
use Rattle.model.specs.Records.{State, fresh, fresh_proposer, fresh_acceptor, fresh_learner, free_slot}
use Rattle.choice.specs.Tests.{◌unless◌, ◌⨾◌, ok}
use Rattle.model.specs.Ranges.{lengths_in_range, records_in_range}
use Rattle.model.specs.declared.Proposer.{Proposer}
use Rattle.model.specs.declared.Acceptor.{Acceptor}
use Rattle.model.specs.declared.Learner.{Learner}
use Rattle.model.specs.declared.Message.{Message}
use Rattle.choice.proofs.Tests.{and_l, and_r}
use Rattle.machine.specs.Calls.{lent, Leaves, FreshCall, run_no}
use Rattle.machine.specs.Counting.{lengths_are, are_sound, events_no}

module _ (z : Sizes) (ps : List Proposer) (acs : List Acceptor) (ls : List Learner) (t : List Message) where
  abbrev s : State
  s = lent ps acs ls t

  -- the test of sizes and lengths
  abbrev sized : Bool
  sized = sizes_in_range z && lengths_are z (length ps) (length acs) (length ls) (length t)

  abbrev p : Bool
  p = eqb (length ps) z.proposers

  abbrev a : Bool
  a = eqb (length acs) z.acceptors

  abbrev l : Bool
  l = eqb (length ls) z.learners

  abbrev m : Bool
  m = eqb (length t) z.slots

  lengths : sized ≡ true → (p && a && l && m) ≡ true
  lengths e = and_r (sizes_in_range z) (p && a && l && m) e

  parties : sized ≡ true → (p && a && l) ≡ true
  parties e = and_l (p && a && l) m (lengths e)

  all-proposers : sized ≡ true → length ps ≡ z.proposers
  all-proposers e = eqb-true (length ps) z.proposers (and_l p a (and_l (p && a) l (parties e)))

  all-acceptors : sized ≡ true → length acs ≡ z.acceptors
  all-acceptors e = eqb-true (length acs) z.acceptors (and_r p a (and_l (p && a) l (parties e)))

  all-learners : sized ≡ true → length ls ≡ z.learners
  all-learners e = eqb-true (length ls) z.learners (and_r (p && a) l (parties e))

  all_slots : sized ≡ true → length t ≡ z.slots
  all_slots e = eqb-true (length t) z.slots (and_r (p && a && l) m (lengths e))

  -- the call, by its test
  abbrev pub called : Bool → ℕ → State → Type 0
  called b r u = (r ≡ (1 unless b ⨾ ok)) × Leaves u (if eqb (1 unless b ⨾ ok) 0 then fresh z else s)

  -- as many as there are
  abbrev pub all_fresh : State
  all_fresh = lent (replicate (length ps) fresh_proposer) (replicate (length acs) fresh_acceptor) (replicate (length ls) fresh_learner) (replicate (length t) free_slot)

  pub made-fresh : sized ≡ true → FreshCall z s 0 all_fresh
  unfolding fresh lengths_in_range
  made-fresh h =
      subst (λ (b : Bool). called b 0 all_fresh) (sym h) (
        refl,
        (
          ap (λ (n : ℕ). replicate n fresh_proposer) (all-proposers h),
          (ap (λ (n : ℕ). replicate n fresh_acceptor) (all-acceptors h), (ap (λ (n : ℕ). replicate n fresh_learner) (all-learners h), ap (λ (n : ℕ). replicate n free_slot) (all_slots h))),
        ),
      )

  -- what a step asks for, by its tests
  pub step-sound : are_sound z ps acs ls t ≡ records_in_range z s
  unfolding records_in_range lengths_in_range
  step-sound = refl

  -- the refusal of a run, by its tests
  pub run-refused : (ns log : List ℕ) (n : ℕ) → (1 unless are_sound z ps acs ls t ⨾ events_no (length ns) (length log) n) ≡ run_no z s ns n log
  unfolding records_in_range lengths_in_range
  run-refused ns log n = refl
