-- What the bytes that a call leaves read, and what zeros read.
use mathlib.Core.Path.{◌≡◌, refl, ap, ◌∙◌}
use mathlib.Core.Logic.{inr}
use mathlib.Core.Bool.{true}
use mathlib.Core.List.{List, [], ◌∷◌, ◌++◌}
use Prim.Native.Nat.{ℕ, zero, suc, ◌+◌, ◌-◌, ◌*◌, ◌≤◌, ◌<◌, min}
use native.Mathlib.Nat.{min-eq_left, min-le_right}
use native.Mathlib.Omega.{arith}
use lib.Dec.{eqb}
use lib.ListN.{length, get_or, set, take, replicate, replicate-append-replicate, length-set}
use lib.Seq.{take_at, set-append_left}
use borrow.Author.Tests.{eqb-true, eq-eqb, ltb-true}
use Rattle.sets.specs.Scans.{of_first_word}
use Rattle.sets.proofs.Computing.{open_sets}
use Rattle.model.specs.declared.Acceptor.{Acceptor}
use Rattle.model.specs.declared.Heard.{Heard}
use Rattle.model.specs.declared.Learner.{Learner}
use Rattle.model.specs.declared.Message.{Message}
use Rattle.model.specs.Records.{fresh_proposer, fresh_acceptor, fresh_learner, unheard, heard_of}
use Rattle.model.specs.Rules.{accepts, answering, Rank, higher, equal, lower, rank_of, hearing_of, hearing, learns, newly_heard, listening}
use Rattle.model.specs.Ranges.{acceptor_in_range}
use Rattle.model.specs.Table.{Announcement}
use Rattle.model.specs.Network.{Worn}
use Rattle.choice.proofs.Tests.{if-ind, test-passed}
use Rattle.model.proofs.Lists.{replicate-all}
use Rattle.model.proofs.RuleLaws.{listening-heard}
use Rattle.layouts.specs.Layout.{sizes_of, word_at, set_size, set_at, flagged, flagged_size, is_acceptor, acceptor_at, acceptor_bytes, proposer_at, proposer_size, heard_size, heard_place, heard_at, places_at, is_learner, learner_at, learner_bytes}
use Rattle.layouts.proofs.Parts.{learner-sizes, few-proposers}
use Rattle.layouts.proofs.Places.{length-places-at, eight-left, eight-listening}
use Rattle.layouts.proofs.LayoutLaws.{acceptor-back, own_places, learner-back}
use Rattle.yazhmandu.specs.Calls.{unless_refused, proposal_no, answer_record, answer_reply, hear_no, hear_record}
use Rattle.yazhmandu.proofs.RecordsKept.{acceptor-sizes, answer-range, hear-tests, hear-range}
use Rattle.stores.specs.Stores.{zeros, learnt_alone, begun}

module _ (n : ℕ) (new old : List ℕ) where
  done : n ≡ 0 → unless_refused n new old ≡ new
  done e = rw (eq-eqb n 0 e)

  pub undone : (n ≡ 0 → ⊥) → unless_refused n new old ≡ old
  undone h = if-ind (λ (l : List ℕ). l ≡ old) (eqb n 0) new old (λ o. absurd (h (eqb-true n 0 o))) (λ o. refl)

-- ---- an acceptor

module _ (s : ℕ) (kept set : List ℕ) (o : proposal_no s kept set ≡ 0) where
  acceptor-passed : is_acceptor s kept ≡ true
  unfolding proposal_no
  acceptor-passed = search (test-passed 0)

  -- the record that the call leaves is what the rule leaves
  pub answer-reads : acceptor_at (answer_record s kept set) ≡ answering (acceptor_at kept) (set_at set 0)
  unfolding answer_record
  answer-reads =
      let q = answering (acceptor_at kept) (set_at set 0) in
      rw (done (proposal_no s kept set) (acceptor_bytes q) kept o)
      (acceptor-back (sizes_of 1 1 s) q (acceptor-sizes s kept set acceptor-passed) (answer-range s kept set acceptor-passed o))

  -- the reply tells whether it is accepted, and the set that it then has
  module _ (old : List ℕ) where
    reply-back : acceptor_at (answer_reply s kept set old) ≡ record { alive = accepts (acceptor_at kept) (set_at set 0); accepted = (answering (acceptor_at kept) (set_at set 0)).accepted }
    unfolding answer_reply acceptor_bytes acceptor_in_range
    reply-back =
        let t = accepts (acceptor_at kept) (set_at set 0) in
        let w = (answering (acceptor_at kept) (set_at set 0)).accepted in
        rw (done (proposal_no s kept set) (flagged t w) old o)
        (acceptor-back (sizes_of 1 1 s) (record { alive = t; accepted = w }) (acceptor-sizes s kept set acceptor-passed) (answer-range s kept set acceptor-passed o))

    pub reply-accepts : eqb (get_or (answer_reply s kept set old) 0 0) 1 ≡ accepts (acceptor_at kept) (set_at set 0)
    unfolding acceptor_at
    reply-accepts = ap (λ (r : Acceptor). r.alive) reply-back

    pub reply-set : set_at (answer_reply s kept set old) 1 ≡ (answering (acceptor_at kept) (set_at set 0)).accepted
    unfolding acceptor_at
    reply-set = ap (λ (r : Acceptor). r.accepted) reply-back

-- ---- a learner

-- what is heard depends on these fields alone
hearing-fields : (h : Heard) (m : Message) (r : Rank) → hearing_of h (Announcement m.proposer.0 m.acceptor.0 m.number m.set 0) r ≡ hearing_of h m r
hearing-fields h m higher = refl
hearing-fields h m equal = refl
hearing-fields h m lower = refl

-- a learner reads four fields of a message
pub listening-fields : (a : ℕ) (l : Learner) (m : Message) → listening a l (Announcement m.proposer.0 m.acceptor.0 m.number m.set 0) ≡ listening a l m
unfolding listening learns hearing
listening-fields a l m = let h = heard_of l m.proposer.0 in rw (hearing-fields h m (rank_of h m))

own-places : (hs ks : List Heard) (p i : ℕ) (h : Heard) → length hs ≡ p → i < p → take p (set (hs ++ ks) i h) ++ ks ≡ set (hs ++ ks) i h
own-places hs ks p i h e b =
    rw (set-append_left hs ks i h (rw e b)) (ap (λ (l : List Heard). l ++ ks) (take_at (set hs i h) ks p (length-set hs i h ∙ e)))

module _ (p a s : ℕ) (kept : List ℕ) (i j n : ℕ) (bytes : List ℕ) (o : hear_no p a s kept i j n bytes ≡ 0) where
  abbrev heard-message : Message
  heard-message = Announcement i j n (set_at bytes 0) 0

  learner-passed : is_learner p a s kept ≡ true
  unfolding hear_no
  learner-passed = search (test-passed 0)

  few : p ≤ 8
  few = few-proposers p a s (learner-sizes p a s kept learner-passed)

  -- a place of the run's own proposers is set: of those past them nothing is heard
  own-listening : own_places p (listening a (learner_at p kept) heard-message) ≡ listening a (learner_at p kept) heard-message
  unfolding learner_at
  own-listening =
      let l = learner_at p kept in
      let ks = replicate (8 - p) unheard in
      let hs = places_at (min p 8) kept in
      let e : (listening a l heard-message).heard ≡ set (hs ++ ks) i (newly_heard l heard-message) = listening-heard a l heard-message in
      let q : take p (listening a l heard-message).heard ++ ks ≡ (listening a l heard-message).heard =
      rw e (own-places hs ks p i (newly_heard l heard-message) (length-places-at (min p 8) kept ∙ min-eq_left few) (ltb-true i p (hear-tests p a s kept i j n bytes learner-passed o).0)) in
      λ d. record { alive = (listening a l heard-message).alive; learnt = (listening a l heard-message).learnt; heard = q d }

  pub hear-reads : learner_at p (hear_record p a s kept i j n bytes) ≡ listening a (learner_at p kept) (Announcement i j n (set_at bytes 0) 0)
  unfolding hear_record
  hear-reads =
      let l = listening a (learner_at p kept) heard-message in
      let many : p ≤ length l.heard = omega (arith, eight-listening a p kept heard-message, few) in
      rw (done (hear_no p a s kept i j n bytes) (learner_bytes p l) kept o)
      (learner-back (sizes_of p a s) l many (learner-sizes p a s kept learner-passed) (hear-range p a s kept i j n bytes learner-passed o) ∙ own-listening)

-- ---- zeros

-- from the place n on the bytes read 0
abbrev ZerosFrom : ℕ → List ℕ → Type 0
ZerosFrom n bytes = (k : ℕ) → n ≤ k → get_or bytes k 0 ≡ 0

module _ (n : ℕ) (bytes : List ℕ) (z : ZerosFrom n bytes) where
  word-zero : (b k : ℕ) → n ≤ k → word_at b bytes k ≡ 0
  unfolding word_at
  word-zero zero k h = refl
  word-zero (suc b) k h = rw (word-zero b (suc k) (omega arith), z k h)

  heard-zero : (k : ℕ) → n ≤ k → heard_at bytes k ≡ unheard
  unfolding heard_at open_sets
  heard-zero k h =
      let e₁ = word-zero 2 k h in
      let e₂ = word-zero 8 (k + 2) (omega arith) in
      let e₃ = z (k + (2 + set_size)) (omega arith) in
      λ d. record { number = e₁ d; set = of_first_word (e₂ d); acceptors = record { bits = e₃ d } }

  places-zero : n ≤ flagged_size → (m : ℕ) → places_at m bytes ≡ replicate m unheard
  unfolding places_at
  places-zero h zero = refl
  places-zero h (suc m) =
      let e : m + 1 ≡ suc m = omega arith in
      rw (places-zero h m, heard-zero (heard_place m) (omega arith)) (replicate-append-replicate m 1 unheard ∙ ap (λ (k : ℕ). replicate k unheard) e)

  -- a learner's record that reads zeros past its learnt set: nothing is heard
  nothing-heard : n ≤ flagged_size → (p : ℕ) → (learner_at p bytes).heard ≡ replicate 8 unheard
  unfolding learner_at
  nothing-heard h p =
      let e : min p 8 + (8 - min p 8) ≡ 8 = omega (arith, min-le_right p 8) in
      rw (places-zero h (min p 8), ← eight-left p) (replicate-append-replicate (min p 8) (8 - min p 8) unheard ∙ ap (λ (k : ℕ). replicate k unheard) e)

zeros-read : (m k : ℕ) → get_or (zeros m) k 0 ≡ 0
zeros-read m = replicate-all (λ (x : ℕ). x ≡ 0) m 0 0 refl refl

-- ---- 1, then zeros, is a fresh record

begun-zeros : (n : ℕ) → ZerosFrom 1 (begun n)
begun-zeros n zero h = absurd (omega arith)
begun-zeros n (suc k) h = zeros-read n k

pub proposer-begun : proposer_at (begun (proposer_size - 1)) ≡ fresh_proposer
unfolding proposer_at word_at open_sets
proposer-begun = refl

pub acceptor-begun : acceptor_at (begun set_size) ≡ fresh_acceptor
unfolding acceptor_at word_at open_sets
acceptor-begun = refl

pub learner-begun : (p : ℕ) → learner_at p (begun (set_size + heard_size * p)) ≡ fresh_learner
unfolding learner_at open_sets
learner-begun p =
    let n = set_size + heard_size * p in
    let w = word-zero 1 (begun n) (begun-zeros n) 8 1 (omega arith) in
    let q = nothing-heard 1 (begun n) (begun-zeros n) (omega arith) p in
    λ d. record { alive = true; learnt = of_first_word (w d); heard = q d }

-- ---- the first n bytes, then m zeros

module _ (m : ℕ) where
  first_read : (n : ℕ) (l : List ℕ) (k : ℕ) → k < n → get_or (take n l ++ zeros m) k 0 ≡ get_or l k 0
  first_read zero l k h = absurd (omega arith)
  first_read (suc n) [] k h = zeros-read m k
  first_read (suc n) (x ∷ l) zero h = refl
  first_read (suc n) (x ∷ l) (suc k) h = first_read n l k (omega arith)

  rest_read : (n : ℕ) (l : List ℕ) → ZerosFrom n (take n l ++ zeros m)
  rest_read zero l k h = zeros-read m k
  rest_read (suc n) [] k h = zeros-read m k
  rest_read (suc n) (x ∷ l) zero h = absurd (omega arith)
  rest_read (suc n) (x ∷ l) (suc k) h = rest_read n l k (omega arith)

  first-word : (n : ℕ) (l : List ℕ) (b k : ℕ) → k + b ≤ n → word_at b (take n l ++ zeros m) k ≡ word_at b l k
  unfolding word_at
  first-word n l zero k h = refl
  first-word n l (suc b) k h = rw (first-word n l b (suc k) (omega arith), first_read n l k (omega arith))

-- what is left of a learner's record that goes on with what it learnt alone
pub alone-worn : (p : ℕ) (kept : List ℕ) → Worn (learner_at p kept) (learner_at p (learnt_alone p kept))
unfolding learner_at
alone-worn p kept =
    let w = first-word (heard_size * p) flagged_size kept 8 1 (omega arith) in
    let q = nothing-heard flagged_size (learnt_alone p kept) (rest_read (heard_size * p) flagged_size kept) (omega arith) p in
    record {
      learnt = λ d. of_first_word (w d);
      heard = λ i. inr (ap (λ (hs : List Heard). get_or hs i unheard) q ∙ replicate-all (λ (h : Heard). h ≡ unheard) 8 unheard unheard refl refl i);
    }
