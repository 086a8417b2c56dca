-- The rules keep every field of a party's record within its range.
use mathlib.Core.Path.{◌≡◌, refl}
use mathlib.Core.Bool.{Bool, true, false, ◌||◌}
use mathlib.Core.List.{List, [], ◌∷◌}
use Prim.Native.Nat.{ℕ, zero, suc, ◌+◌, ◌<◌}
use native.Mathlib.Omega.{arith}
use lib.ListN.{get_or, set, take, replicate}
use lib.Seq.{take-set-lt, get_or-take}
use lib.Dec.{leb, ltb, eqb}
use borrow.Author.Tests.{ltb-true, le-leb}
use Rattle.sizes.specs.Sizes.{between}
use Rattle.sizes.specs.declared.Sizes.{Sizes}
use Rattle.sets.specs.Scans.{fits}
use Rattle.sets.specs.declared.scans.Scans.{Scans}
use Rattle.sets.proofs.ScanLaws.{true-empty, fits-empty, fits-∪}
use Rattle.sets.proofs.AcceptorLaws.{fits-none, fits-with}
use Rattle.model.specs.declared.Proposer.{Proposer}
use Rattle.model.specs.declared.Acceptor.{Acceptor}
use Rattle.model.specs.declared.Heard.{Heard}
use Rattle.model.specs.declared.Learner.{Learner}
use Rattle.model.specs.declared.Message.{Message}
use Rattle.model.specs.Records.{announcement, heard_of, fresh_proposer, fresh_acceptor, fresh_learner, unheard}
use Rattle.model.specs.Rules.{greatest_number, buffering, acknowledging, rejecting, proposing, refining, deciding, crashed_proposer, accepting, gaining, crashed_acceptor, Rank, higher, equal, lower, hearing_of, hearing, learns, newly_heard, listening, crashed_learner}
use Rattle.model.specs.Ranges.{all, proposer_in_range, acceptor_in_range, heard_in_range, learner_in_range, fields_in_range}
use Rattle.choice.proofs.Tests.{if-ind, and_l, and_r, and_i}
use Rattle.model.proofs.RuleLaws.{listening-learnt, listening-heard}

pub or_r : (a b : Bool) → b ≡ true → (a || b) ≡ true
or_r true b e = refl
or_r false b e = e

-- ---- every record of a list

module _ {B : Type 0} (f : B → Bool) where
  pub all-at : (d : B) (l : List B) (i : ℕ) → f d ≡ true → all f l ≡ true → f (get_or l i d) ≡ true
  unfolding all
  all-at d [] i e h = e
  all-at d (x ∷ xs) zero e h = and_l (f x) (all f xs) h
  all-at d (x ∷ xs) (suc i) e h = all-at d xs i e (and_r (f x) (all f xs) h)

  pub all-places : (d : B) (l : List B) → ((i : ℕ) → f (get_or l i d) ≡ true) → all f l ≡ true
  unfolding all
  all-places d [] h = refl
  all-places d (x ∷ xs) h = and_i (f x) (all f xs) (h 0) (all-places d xs (λ i. h (suc i)))

  all_set : (l : List B) (i : ℕ) (y : B) → f y ≡ true → all f l ≡ true → all f (set l i y) ≡ true
  unfolding all
  all_set [] i y e h = h
  all_set (x ∷ xs) zero y e h = and_i (f y) (all f xs) e (and_r (f x) (all f xs) h)
  all_set (x ∷ xs) (suc i) y e h = and_i (f x) (all f (set xs i y)) (and_l (f x) (all f xs) h) (all_set xs i y e (and_r (f x) (all f xs) h))

  all-copies : (n m : ℕ) (y : B) → f y ≡ true → all f (take n (replicate m y)) ≡ true
  unfolding all
  all-copies zero m y e = refl
  all-copies (suc n) zero y e = refl
  all-copies (suc n) (suc m) y e = and_i (f y) (all f (take n (replicate m y))) e (all-copies n m y e)

-- ---- numbers

pub next-in-range : (n : ℕ) → n < greatest_number → leb (n + 1) greatest_number ≡ true
next-in-range n h = le-leb (n + 1) greatest_number (omega arith)

pub next-positive : (n : ℕ) → leb 1 (n + 1) ≡ true
next-positive n = le-leb 1 (n + 1) (omega arith)

-- a record in range is one by its parts
pub ruleset parts = (and_i, and_l, and_r, or_r, fits-∪, fits-empty, fits-none, fits-with, next-in-range, next-positive, true-empty)

-- ---- the rules of a proposer

module _ (z : Sizes) (p : Proposer) (x : proposer_in_range z p ≡ true) where
  pub buffering-range : (v : Scans) → fits v z.scans ≡ true → proposer_in_range z (buffering p v) ≡ true
  unfolding proposer_in_range buffering
  buffering-range v h = search parts depth 12

  pub acknowledging-range : (j : ℕ) → j < z.acceptors → proposer_in_range z (acknowledging p j) ≡ true
  unfolding proposer_in_range acknowledging
  acknowledging-range j h = search parts depth 12

  pub rejecting-range : (j : ℕ) (v : Scans) → j < z.acceptors → fits v z.scans ≡ true → proposer_in_range z (rejecting p j v) ≡ true
  unfolding proposer_in_range rejecting
  rejecting-range j v h g = search parts depth 12

  pub proposing-range : p.number < greatest_number → proposer_in_range z (proposing p) ≡ true
  unfolding proposer_in_range proposing
  proposing-range h = search parts depth 12

  pub refining-range : p.number < greatest_number → proposer_in_range z (refining p) ≡ true
  unfolding proposer_in_range refining
  refining-range h = search parts depth 12

  pub deciding-range : proposer_in_range z (deciding p) ≡ true
  unfolding proposer_in_range deciding
  deciding-range = search parts depth 12

  pub crashed-proposer-range : proposer_in_range z (crashed_proposer p) ≡ true
  unfolding proposer_in_range crashed_proposer
  crashed-proposer-range = search parts depth 12

pub fresh-proposer-range : (z : Sizes) → proposer_in_range z fresh_proposer ≡ true
unfolding proposer_in_range
fresh-proposer-range z = search parts depth 12

pub proposed-range : (z : Sizes) (p : Proposer) → proposer_in_range z p ≡ true → fits p.proposed z.scans ≡ true
unfolding proposer_in_range
proposed-range z p x = search parts depth 9

pub decided-range : (z : Sizes) (p : Proposer) → proposer_in_range z p ≡ true → fits p.decided z.scans ≡ true
unfolding proposer_in_range
decided-range z p x = search parts depth 9

-- the number of a proposal
module _ (p : Proposer) (h : p.number < greatest_number) where
  pub proposing-number : between 1 greatest_number (proposing p).number ≡ true
  unfolding proposing
  proposing-number = search parts

  pub refining-number : between 1 greatest_number (refining p).number ≡ true
  unfolding refining
  refining-number = search parts

-- ---- the rules of an acceptor

module _ (z : Sizes) (q : Acceptor) where
  pub accepting-range : (v : Scans) → fits v z.scans ≡ true → acceptor_in_range z (accepting q v) ≡ true
  unfolding acceptor_in_range accepting
  accepting-range v h = h

  pub gaining-range : (v : Scans) → acceptor_in_range z q ≡ true → fits v z.scans ≡ true → acceptor_in_range z (gaining q v) ≡ true
  unfolding acceptor_in_range gaining
  gaining-range v x h = search parts

  pub crashed-acceptor-range : acceptor_in_range z q ≡ true → acceptor_in_range z (crashed_acceptor q) ≡ true
  unfolding acceptor_in_range crashed_acceptor
  crashed-acceptor-range x = x

pub fresh-acceptor-range : (z : Sizes) → acceptor_in_range z fresh_acceptor ≡ true
unfolding acceptor_in_range
fresh-acceptor-range z = fits-empty z.scans

-- ---- the rules of a learner

unheard-range : (z : Sizes) → heard_in_range z unheard ≡ true
unfolding heard_in_range
unheard-range z = search parts

-- of the run's own proposers
heard-range : (z : Sizes) (l : Learner) (i : ℕ) → i < z.proposers → learner_in_range z l ≡ true → heard_in_range z (heard_of l i) ≡ true
unfolding learner_in_range
heard-range z l i h x =
    rw (get_or-take z.proposers l.heard i unheard h) at
    (all-at (heard_in_range z) unheard (take z.proposers l.heard) i (unheard-range z) (search parts))

pub learnt-range : (z : Sizes) (l : Learner) → learner_in_range z l ≡ true → fits l.learnt z.scans ≡ true
unfolding learner_in_range
learnt-range z l x = search parts

heard-set-range : (z : Sizes) (h : Heard) → heard_in_range z h ≡ true → fits h.set z.scans ≡ true
unfolding heard_in_range
heard-set-range z h x = search parts

module _ (z : Sizes) (m : Message) (y : fields_in_range z m announcement ≡ true) where
  hearing-range : (h : Heard) → heard_in_range z h ≡ true → heard_in_range z (hearing h m) ≡ true
  unfolding heard_in_range hearing fields_in_range
  hearing-range h x =
      let j : m.acceptor.0 < z.acceptors = search (and_l, and_r, ltb-true) in
      if-ind (λ (r : Rank). heard_in_range z (hearing_of h m r) ≡ true) (ltb h.number m.number) higher _
      (λ e. search parts depth 12)
      (λ e. if-ind (λ (r : Rank). heard_in_range z (hearing_of h m r) ≡ true) (eqb h.number m.number) equal lower (λ f. search parts depth 12) (λ f. x))

  proposer-below : m.proposer.0 < z.proposers
  unfolding fields_in_range
  proposer-below = search (and_l, and_r, ltb-true)

  pub listening-range : (a : ℕ) (l : Learner) → learner_in_range z l ≡ true → learner_in_range z (listening a l m) ≡ true
  unfolding learner_in_range
  listening-range a l x =
      let i = proposer-below in
      let h : heard_in_range z (newly_heard l m) ≡ true = hearing-range (heard_of l m.proposer.0) (heard-range z l m.proposer.0 i x) in
      rw (listening-learnt a l m, listening-heard a l m, take-set-lt) (and_i _ _
      (if-ind (λ (v : Scans). fits v z.scans ≡ true) (learns a l m) _ _ (λ e. heard-set-range z (newly_heard l m) h) (λ e. learnt-range z l x))
      (all_set (heard_in_range z) (take z.proposers l.heard) m.proposer.0 (newly_heard l m) h (search parts)))

pub crashed-learner-range : (z : Sizes) (l : Learner) → learner_in_range z l ≡ true → learner_in_range z (crashed_learner l) ≡ true
unfolding learner_in_range crashed_learner
crashed-learner-range z l x = x

pub fresh-learner-range : (z : Sizes) → learner_in_range z fresh_learner ≡ true
unfolding learner_in_range
fresh-learner-range z = and_i _ _ (fits-empty z.scans) (all-copies (heard_in_range z) z.proposers 8 unheard (unheard-range z))
