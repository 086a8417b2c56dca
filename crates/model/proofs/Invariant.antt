-- What every state of a run has, over what is known to have happened; and that the rules keep it of a party's record.
use mathlib.Core.Path.{◌≡◌, sym, subst}
use mathlib.Core.Logic.{inl, inr}
use mathlib.Core.Bool.{true}
use Prim.Native.Nat.{ℕ, ◌<◌}
use lib.Dec.{eqb, ltb}
use borrow.Author.Tests.{eqb-true}
use Rattle.sets.specs.Scans.{empty, ◌∪◌, ◌∈◌}
use Rattle.sets.specs.Acceptors.{none, with_one, ◌among◌, fits_run, is_majority}
use Rattle.sets.specs.declared.scans.Scans.{Scans}
use Rattle.sets.specs.declared.acceptors.Acceptors.{Acceptors}
use Rattle.sets.proofs.ScanLaws.{∈-∪, not-∈-empty}
use Rattle.sets.proofs.AcceptorLaws.{not-among-none, with-among, fits-none, fits-with}
use Rattle.model.specs.declared.Proposer.{Proposer}
use Rattle.model.specs.declared.Acceptor.{Acceptor}
use Rattle.model.specs.declared.Heard.{Heard}
use Rattle.model.specs.declared.Learner.{Learner}
use Rattle.model.specs.declared.Message.{Message}
use Rattle.model.specs.Records.{unheard, heard_of}
use Rattle.model.specs.Rules.{buffering, acknowledging, rejecting, proposing, refining, decide_no, deciding, crashed_proposer, accepting, gaining, Rank, higher, equal, lower, hearing_of, hearing, learns, newly_heard, listening}
use Rattle.choice.proofs.Tests.{if-ind}
use Rattle.model.proofs.Lists.{set-each}
use Rattle.model.proofs.RuleLaws.{decide-majority, learns-majority, listening-learnt, listening-heard}

-- what has happened so far: an acceptor accepted a set; a proposer's proposal of a number was of a set; a scan was received
pub record Known : Type 1 where
  pub accepted : ℕ → Scans → Type 0
  pub proposed : ℕ → ℕ → Scans → Type 0
  pub received : ℕ → Type 0

-- ---- the invariant, with A the number of acceptors

pub record AllReceived (K : Known) (v : Scans) : Type 0 where
  pub each : (k : ℕ) → k ∈ v → K.received k

-- acceptors of the run, each of which accepted the set
pub record Votes (K : Known) (A : ℕ) (q : Acceptors) (v : Scans) : Type 0 where
  pub exist : fits_run q A ≡ true
  pub each : (j : ℕ) → j among q → K.accepted j v

-- the empty set, or one that a majority accepted
pub data Chosen (K : Known) (A : ℕ) (v : Scans) : Type 0 where
  nothing : v ≡ empty → Chosen K A v
  chosen : (q : Acceptors) → is_majority q A ≡ true → Votes K A q v → Chosen K A v

pub record ProposerInv (K : Known) (A : ℕ) (p : Proposer) : Type 0 where
  pub buffered : AllReceived K p.buffered
  pub proposed : AllReceived K p.proposed
  pub gathered : AllReceived K p.gathered
  pub decided : AllReceived K p.decided
  pub votes : Votes K A p.acknowledged p.proposed
  pub choice : Chosen K A p.decided

-- what a learner heard of the proposer i
pub record HeardInv (K : Known) (A i : ℕ) (h : Heard) : Type 0 where
  pub set : AllReceived K h.set
  pub votes : Votes K A h.acceptors h.set
  pub what : K.proposed i h.number h.set

pub record LearnerInv (K : Known) (A : ℕ) (l : Learner) : Type 0 where
  pub learnt : AllReceived K l.learnt
  pub choice : Chosen K A l.learnt
  pub heard : (i : ℕ) → HeardInv K A i (heard_of l i)

-- the acceptor j accepted the set of the proposer i's proposal n
pub record Voted (K : Known) (A i j n : ℕ) (v : Scans) : Type 0 where
  pub exist : j < A
  pub accepted : K.accepted j v
  pub what : K.proposed i n v

-- ---- knowing more

pub record More (K K' : Known) : Type 0 where
  pub accepted : (j : ℕ) (v : Scans) → K.accepted j v → K'.accepted j v
  pub proposed : (i n : ℕ) (v : Scans) → K.proposed i n v → K'.proposed i n v
  pub received : (k : ℕ) → K.received k → K'.received k

-- ---- sets

module _ {K : Known} where
  pub received-empty : AllReceived K empty
  received-empty = record { each = λ k m. absurd (not-∈-empty m) }

  pub received-∪ : {u v : Scans} → AllReceived K u → AllReceived K v → AllReceived K (u ∪ v)
  received-∪ x y = record { each = λ k m. elim (∈-∪ m) [ inl p ↦ x.each k p | inr p ↦ y.each k p ] }

  pub votes-none : {A : ℕ} {v : Scans} → Votes K A none v
  votes-none {A} = record { exist = fits-none A; each = λ j m. absurd (not-among-none m) }

  pub votes-with : {A j : ℕ} {q : Acceptors} {v : Scans} → j < A → K.accepted j v → Votes K A q v → Votes K A (with_one q j) v
  votes-with {A} {j} {q} {v} h a x = record {
    exist = fits-with q j A h x.exist;
    each = λ i m. elim (with-among j m) [ inl e ↦ subst (λ (n : ℕ). K.accepted n v) (sym e) a | inr p ↦ x.each i p ];
  }

-- by these a rule keeps the facts of a record
ruleset kept = (received-∪, received-empty, votes-none, votes-with, chosen)

-- ---- the rules of a proposer

module _ {K : Known} {A : ℕ} {p : Proposer} (x : ProposerInv K A p) where
  pub buffering-inv : {v : Scans} → AllReceived K v → ProposerInv K A (buffering p v)
  unfolding buffering
  buffering-inv r = search kept

  pub rejecting-inv : (j : ℕ) {v : Scans} → AllReceived K v → ProposerInv K A (rejecting p j v)
  unfolding rejecting
  rejecting-inv j r = search kept

  pub proposing-inv : ProposerInv K A (proposing p)
  unfolding proposing
  proposing-inv = search kept

  pub refining-inv : ProposerInv K A (refining p)
  unfolding refining
  refining-inv = search kept

  pub deciding-inv : decide_no A p ≡ 0 → ProposerInv K A (deciding p)
  unfolding deciding
  deciding-inv e = let m = decide-majority A p e in search kept

  pub crashed-proposer-inv : ProposerInv K A (crashed_proposer p)
  unfolding crashed_proposer
  crashed-proposer-inv = search

-- ---- the rules of an acceptor

module _ {K : Known} (q : Acceptor) {v : Scans} (r : AllReceived K v) where
  pub accepting-inv : AllReceived K (accepting q v).accepted
  unfolding accepting
  accepting-inv = r

  pub gaining-inv : AllReceived K q.accepted → AllReceived K (gaining q v).accepted
  unfolding gaining
  gaining-inv x = search received-∪

-- ---- one number, one set

-- a set that a proposer's number stands for is one
pub record OneSet (K : Known) : Type 0 where
  pub same : (i n : ℕ) (u v : Scans) → K.proposed i n u → K.proposed i n v → u ≡ v

module _ {K : Known} {A : ℕ} (one : OneSet K) where
  -- an acknowledgement with the number that stands for v is one of v
  voted-same : {i j n n' : ℕ} {u v : Scans} → n ≡ n' → Voted K A i j n u → K.proposed i n' v → K.accepted j v
  voted-same {i} {j} {n} {n'} {u} {v} e y w =
      subst (K.accepted j) (one.same i n' u v (subst (λ (k : ℕ). K.proposed i k u) e y.what) w) y.accepted

  pub acknowledging-inv : {i j n : ℕ} {p : Proposer} {v : Scans} → ProposerInv K A p → K.proposed i p.number p.proposed
      → n ≡ p.number → Voted K A i j n v → ProposerInv K A (acknowledging p j)
  unfolding acknowledging
  acknowledging-inv x now e y = let a = voted-same e y now in let h = y.exist in search kept

  pub hearing-inv : (h : Heard) (m : Message) → HeardInv K A m.proposer.0 h → AllReceived K m.set
      → Voted K A m.proposer.0 m.acceptor.0 m.number m.set → HeardInv K A m.proposer.0 (hearing h m)
  unfolding hearing
  hearing-inv h m x r y =
      let j = y.exist in
      if-ind Q (ltb h.number m.number) higher _
      (λ e. search kept)
      (λ e. if-ind Q (eqb h.number m.number) equal lower
      (λ f. let a = voted-same (sym (eqb-true h.number m.number f)) y x.what in search kept)
      (λ f. x))
    where
      Q : Rank → Type 0
      Q r = HeardInv K A m.proposer.0 (hearing_of h m r)

  pub listening-inv : (l : Learner) (m : Message) → LearnerInv K A l → AllReceived K m.set
      → Voted K A m.proposer.0 m.acceptor.0 m.number m.set → LearnerInv K A (listening A l m)
  listening-inv l m x r y = record {
    learnt = rw (listening-learnt A l m) (if-ind (AllReceived K) (learns A l m) _ _ (λ e. now.set) (λ e. x.learnt));
    choice = rw (listening-learnt A l m)
        (if-ind (Chosen K A) (learns A l m) _ _ (λ e. chosen (newly_heard l m).acceptors (learns-majority A l m e) now.votes) (λ e. x.choice));
    heard = rw (listening-heard A l m) (set-each (HeardInv K A) unheard l.heard m.proposer.0 (newly_heard l m) x.heard now);
  }
    where
      now : HeardInv K A m.proposer.0 (newly_heard l m)
      now = hearing-inv (heard_of l m.proposer.0) m (x.heard m.proposer.0) r y
