-- What the rules of document 01 make of one party's record, as the theorem uses it.
use mathlib.Core.Path.{◌≡◌, refl, sym}
use mathlib.Core.Bool.{true}
use Prim.Native.Nat.{ℕ, ◌<◌}
use native.Mathlib.Omega.{arith}
use lib.Dec.{eqb, ltb}
use lib.ListN.{set}
use borrow.Author.Tests.{ltb-true, ltb-false, eqb-true, eqb-false, lt-ltb, le-ltb}
use Rattle.std.specs.Prelude.{if◌then◌else◌}
use Rattle.sets.specs.Scans.{◌⊆◌, strictly_within}
use Rattle.sets.specs.Acceptors.{is_majority}
use Rattle.sets.specs.declared.scans.Scans.{Scans}
use Rattle.sets.proofs.ScanLaws.{⊆-left, within-true, true-within, strictly-true}
use Rattle.model.specs.declared.Proposer.{Proposer}
use Rattle.model.specs.declared.Acceptor.{Acceptor}
use Rattle.model.specs.declared.Heard.{Heard}
use Rattle.model.specs.declared.Learner.{Learner}
use Rattle.model.specs.declared.Message.{Message}
use Rattle.model.specs.Rules.{greatest_number, Rank, higher, equal, lower, rank_of, is_lower, is_current, propose_no, refine_no, may_decide, decide_no, accepts, accepting, gaining, learns, newly_heard, listening}
use Rattle.choice.proofs.Tests.{if-ind, and_l, and_r, test-passed, rest-passed}

-- ---- an acceptor

pub accepts-contained : (q : Acceptor) (v : Scans) → accepts q v ≡ true → q.accepted ⊆ v
unfolding accepts
accepts-contained q v e = search within-true

pub contained-accepts : (q : Acceptor) (v : Scans) → q.accepted ⊆ v → accepts q v ≡ true
unfolding accepts
contained-accepts q v h = search true-within

pub accepting-takes : (q : Acceptor) (v : Scans) → (accepting q v).accepted ≡ v
unfolding accepting
accepting-takes q v = refl

pub gaining-grows : (q : Acceptor) (v : Scans) → q.accepted ⊆ (gaining q v).accepted
unfolding gaining
gaining-grows q v = search ⊆-left

-- ---- a proposer

pub current-number : (p : Proposer) (n : ℕ) → is_current p n ≡ true → n ≡ p.number
unfolding is_current
current-number p n e = search (eqb-true, and_r)

pub decide-majority : (a : ℕ) (p : Proposer) → decide_no a p ≡ 0 → is_majority p.acknowledged a ≡ true
unfolding decide_no may_decide
decide-majority a p e = search (rest-passed 4, test-passed 5, and_r)

pub propose-number : (p : Proposer) → propose_no p ≡ 0 → p.number < greatest_number
unfolding propose_no
propose-number p e = search (ltb-true, rest-passed 4, rest-passed 5, test-passed 6)

pub refine-number : (a : ℕ) (p : Proposer) → refine_no a p ≡ 0 → p.number < greatest_number
unfolding refine_no
refine-number a p e = search (ltb-true, rest-passed 4, rest-passed 5, test-passed 6)

-- ---- a learner

-- the rank is lower where the number is below the one heard
pub rank_lower : (h : Heard) (m : Message) → is_lower (rank_of h m) ≡ ltb m.number h.number
rank_lower h m =
    if-ind Q (ltb h.number m.number) higher _
    (λ e. let lt = ltb-true h.number m.number e in sym (le-ltb m.number h.number (omega arith)))
    (λ e. if-ind Q (eqb h.number m.number) equal lower
    (λ f. let eq = eqb-true h.number m.number f in sym (le-ltb m.number h.number (omega arith)))
    (λ f. let le = ltb-false h.number m.number e in let ne = eqb-false h.number m.number f in sym (lt-ltb m.number h.number (omega arith))))
  where
    Q : Rank → Type 0
    Q r = is_lower r ≡ ltb m.number h.number

strictly-contained : (u v : Scans) → strictly_within u v ≡ true → u ⊆ v
strictly-contained u v e = (strictly-true u v e).0

module _ (a : ℕ) (l : Learner) (m : Message) where
  pub listening-learnt : (listening a l m).learnt ≡ if learns a l m then (newly_heard l m).set else l.learnt
  unfolding listening
  listening-learnt = refl

  pub listening-heard : (listening a l m).heard ≡ set l.heard m.proposer.0 (newly_heard l m)
  unfolding listening
  listening-heard = refl

module _ (a : ℕ) (l : Learner) (m : Message) (e : learns a l m ≡ true) where
  pub learns-majority : is_majority (newly_heard l m).acceptors a ≡ true
  unfolding learns
  learns-majority = search (and_l, and_r)

  pub learns-contained : l.learnt ⊆ (newly_heard l m).set
  unfolding learns
  learns-contained = search (strictly-contained, and_r)
