-- A record that passed its tests passes them again after the call: what a server keeps is never refused with 1 later. For what a call writes is in range.
use mathlib.Core.Bool.{Bool, true, false}
use mathlib.Core.List.{List}
use mathlib.Core.Path.{◌≡◌}
use Prim.Native.Nat.{ℕ, ◌≤◌}
use native.Mathlib.Omega.{arith}
use lib.Dec.{eqb, ltb}
use lib.ListN.{length}
use borrow.Author.Tests.{eqb-true}
use Rattle.std.specs.Prelude.{if◌then◌else◌}
use Rattle.sets.specs.Scans.{fits}
use Rattle.sets.specs.declared.scans.Scans.{Scans}
use Rattle.sizes.specs.Sizes.{between, sizes_in_range}
use Rattle.model.specs.Rules.{accepts, accepting, gaining, answering, buffering, is_current, acknowledging, rejecting, propose_no, proposing, refine_no, refining, decide_no, deciding, may_propose, may_refine, listening}
use Rattle.model.specs.Ranges.{acceptor_in_range, proposer_in_range, learner_in_range, fields_in_range}
use Rattle.model.specs.Table.{Announcement}
use Rattle.choice.specs.Tests.{◌unless◌, ◌⨾◌}
use Rattle.model.specs.declared.Kind.TheVariants.{Announcement as announcement}
use Rattle.model.specs.declared.Acceptor.{Acceptor}
use Rattle.model.specs.declared.Proposer.{Proposer}
use Rattle.choice.proofs.Tests.{if-ind, and_l, and_r, test-passed, rest-passed}
use Rattle.model.proofs.Enabled.{below-greatest}
use Rattle.model.proofs.RuleRanges.{accepting-range, gaining-range, buffering-range, acknowledging-range, rejecting-range, proposing-range, refining-range, deciding-range, listening-range}
use Rattle.layouts.specs.Layout.{sizes_of, set_size, set_at, is_set, is_answer, is_acceptor, acceptor_at, acceptor_bytes, is_proposer, proposer_at, proposer_bytes, is_learner, learner_at, learner_bytes}
use Rattle.layouts.proofs.Parts.{proposer-sizes, learner-sizes, few-proposers, answer-acceptor}
use Rattle.layouts.proofs.Places.{eight-listening}
use Rattle.layouts.proofs.Passing.{acceptor-passes, proposer-passes, learner-passes, set-fits, proposer-range}
use Rattle.yazhmandu.specs.Calls.{unless_refused, proposal_no, answer_record, answer_reply, buffer_no, buffer_record, acknowledged_no, acknowledged_record, rejected_no, rejected_record, call_no, call_record, hear_no, hear_record}

-- ---- the acceptor's call

module _ (s : ℕ) (kept set : List ℕ) (x : is_acceptor s kept ≡ true) where
  pub acceptor-sizes : sizes_in_range (sizes_of 1 1 s) ≡ true
  unfolding is_acceptor
  acceptor-sizes = search (and_l, and_r) depth 9

  answering-range : (v : Scans) → fits v s ≡ true → acceptor_in_range (sizes_of 1 1 s) (answering (acceptor_at kept) v) ≡ true
  unfolding is_acceptor answering
  answering-range v f =
      let z = sizes_of 1 1 s in
      let q = acceptor_at kept in
      let r : acceptor_in_range z q ≡ true = search (and_l, and_r) depth 9 in
      if-ind (λ (t : Acceptor). acceptor_in_range z t ≡ true) (accepts q v) (accepting q v) (gaining q v) (λ _. accepting-range z q v f) (λ _. gaining-range z q v r f)

  answer-set : proposal_no s kept set ≡ 0 → is_set s set ≡ true
  unfolding proposal_no
  answer-set n = test-passed 2 (is_set s set) (5 unless (acceptor_at kept).alive ⨾ 0) (rest-passed 0 (is_acceptor s kept) _ n)

  pub answer-range : proposal_no s kept set ≡ 0 → acceptor_in_range (sizes_of 1 1 s) (answering (acceptor_at kept) (set_at set 0)) ≡ true
  answer-range n = answering-range (set_at set 0) (set-fits s set (answer-set n))

  pub answer_keeps : is_acceptor s (answer_record s kept set) ≡ true
  unfolding answer_record
  answer_keeps =
      let q = answering (acceptor_at kept) (set_at set 0) in
      if-ind (λ (l : List ℕ). is_acceptor s l ≡ true) (eqb (proposal_no s kept set) 0) (acceptor_bytes q) kept
      (λ o. acceptor-passes s q acceptor-sizes (answer-range (eqb-true _ _ o)))
      (λ _. x)

-- ---- the proposer's calls

module _ (a s : ℕ) (kept : List ℕ) (x : is_proposer a s kept ≡ true) where
  range-kept : proposer_in_range (sizes_of 1 a s) (proposer_at kept) ≡ true
  range-kept = proposer-range a s kept x

  -- what a call leaves passes, if what it writes where it gives 0 is in range
  leaves-passes : (n : ℕ) (p : Proposer) → (n ≡ 0 → proposer_in_range (sizes_of 1 a s) p ≡ true) → is_proposer a s (unless_refused n (proposer_bytes p) kept) ≡ true
  leaves-passes n p h =
      if-ind (λ (l : List ℕ). is_proposer a s l ≡ true) (eqb n 0) (proposer_bytes p) kept
      (λ o. proposer-passes a s p (proposer-sizes a s kept x) (h (eqb-true n 0 o)))
      (λ _. x)

  -- and so where an answer that is late leaves the record
  answer-passes : (n : ℕ) (t : Bool) (p : Proposer) → (n ≡ 0 → proposer_in_range (sizes_of 1 a s) p ≡ true) → is_proposer a s (unless_refused n (if t then proposer_bytes p else kept) kept) ≡ true
  answer-passes n true p h = leaves-passes n p h
  answer-passes n false p h = if-ind (λ (l : List ℕ). is_proposer a s l ≡ true) (eqb n 0) kept kept (λ _. x) (λ _. x)

  pub buffer-set : (set : List ℕ) → buffer_no a s kept set ≡ 0 → is_set s set ≡ true
  unfolding buffer_no
  buffer-set set n = test-passed 2 (is_set s set) (5 unless (proposer_at kept).alive ⨾ 0) (rest-passed 0 (is_proposer a s kept) _ n)

  pub buffer-range : (set : List ℕ) → buffer_no a s kept set ≡ 0 → proposer_in_range (sizes_of 1 a s) (buffering (proposer_at kept) (set_at set 0)) ≡ true
  buffer-range set n = buffering-range (sizes_of 1 a s) (proposer_at kept) range-kept (set_at set 0) (set-fits s set (buffer-set set n))

  pub buffer-keeps : (set : List ℕ) → is_proposer a s (buffer_record a s kept set) ≡ true
  unfolding buffer_record
  buffer-keeps set = leaves-passes (buffer_no a s kept set) (buffering (proposer_at kept) (set_at set 0)) (buffer-range set)

  acknowledged-answer : (j n : ℕ) → acknowledged_no a s kept j n ≡ 0 → is_answer a j n ≡ true
  unfolding acknowledged_no
  acknowledged-answer j n o = test-passed 2 (is_answer a j n) (5 unless (proposer_at kept).alive ⨾ 0) (rest-passed 0 (is_proposer a s kept) _ o)

  pub acknowledged-range : (j n : ℕ) → acknowledged_no a s kept j n ≡ 0 → proposer_in_range (sizes_of 1 a s) (acknowledging (proposer_at kept) j) ≡ true
  acknowledged-range j n o = acknowledging-range (sizes_of 1 a s) (proposer_at kept) range-kept j (answer-acceptor a j n (acknowledged-answer j n o))

  pub acknowledged-keeps : (j n : ℕ) → is_proposer a s (acknowledged_record a s kept j n) ≡ true
  unfolding acknowledged_record
  acknowledged-keeps j n =
      answer-passes (acknowledged_no a s kept j n) (is_current (proposer_at kept) n) (acknowledging (proposer_at kept) j) (acknowledged-range j n)

  rejected-tests : (j n : ℕ) (set : List ℕ) → rejected_no a s kept j n set ≡ 0 → (is_answer a j n ≡ true) × (is_set s set ≡ true)
  unfolding rejected_no
  rejected-tests j n set o =
      let r = 5 unless (proposer_at kept).alive ⨾ 0 in
      let q = rest-passed 0 (is_proposer a s kept) (3 unless is_answer a j n ⨾ 3 unless is_set s set ⨾ r) o in
      (test-passed 2 (is_answer a j n) (3 unless is_set s set ⨾ r) q, test-passed 2 (is_set s set) r (rest-passed 2 (is_answer a j n) (3 unless is_set s set ⨾ r) q))

  pub rejected-range : (j n : ℕ) (set : List ℕ) → rejected_no a s kept j n set ≡ 0
      → proposer_in_range (sizes_of 1 a s) (rejecting (proposer_at kept) j (set_at set 0)) ≡ true
  rejected-range j n set o =
      let t = rejected-tests j n set o in
      rejecting-range (sizes_of 1 a s) (proposer_at kept) range-kept j (set_at set 0) (answer-acceptor a j n t.0) (set-fits s set t.1)

  pub rejected-keeps : (j n : ℕ) (set : List ℕ) → is_proposer a s (rejected_record a s kept j n set) ≡ true
  unfolding rejected_record
  rejected-keeps j n set =
      answer-passes (rejected_no a s kept j n set) (is_current (proposer_at kept) n) (rejecting (proposer_at kept) j (set_at set 0)) (rejected-range j n set)

  -- a rule leaves a record that passes, if what it does where it does not refuse is in range
  rule-keeps : (rule_no : Proposer → ℕ) (rule : Proposer → Proposer) → (rule_no (proposer_at kept) ≡ 0 → proposer_in_range (sizes_of 1 a s) (rule (proposer_at kept)) ≡ true) → is_proposer a s (call_record a s kept rule_no rule) ≡ true
  unfolding call_no call_record
  rule-keeps rule_no rule h = leaves-passes (call_no a s kept rule_no) (rule (proposer_at kept)) (λ o. h (rest-passed 0 (is_proposer a s kept) (rule_no (proposer_at kept)) o))

  pub propose-range : propose_no (proposer_at kept) ≡ 0 → proposer_in_range (sizes_of 1 a s) (proposing (proposer_at kept)) ≡ true
  unfolding propose_no
  propose-range o =
      let p = proposer_at kept in
      proposing-range (sizes_of 1 a s) p range-kept (below-greatest p.alive (may_propose p) p.number o)

  pub propose-keeps : is_proposer a s (call_record a s kept propose_no proposing) ≡ true
  propose-keeps = rule-keeps propose_no proposing propose-range

  pub refine-range : refine_no a (proposer_at kept) ≡ 0 → proposer_in_range (sizes_of 1 a s) (refining (proposer_at kept)) ≡ true
  unfolding refine_no
  refine-range o =
      let p = proposer_at kept in
      refining-range (sizes_of 1 a s) p range-kept (below-greatest p.alive (may_refine a p) p.number o)

  pub refine-keeps : is_proposer a s (call_record a s kept (refine_no a) refining) ≡ true
  refine-keeps = rule-keeps (refine_no a) refining refine-range

  pub decide-range : proposer_in_range (sizes_of 1 a s) (deciding (proposer_at kept)) ≡ true
  decide-range = deciding-range (sizes_of 1 a s) (proposer_at kept) range-kept

  pub decide-keeps : is_proposer a s (call_record a s kept (decide_no a) deciding) ≡ true
  decide-keeps = rule-keeps (decide_no a) deciding (λ _. decide-range)

-- ---- the learner's call

module _ (p a s : ℕ) (kept : List ℕ) (i j n : ℕ) (set : List ℕ) (x : is_learner p a s kept ≡ true) where
  pub hear-tests : hear_no p a s kept i j n set ≡ 0 → (ltb i p ≡ true) × (is_answer a j n ≡ true) × (is_set s set ≡ true)
  unfolding hear_no
  hear-tests o =
      let r = 5 unless (learner_at p kept).alive ⨾ 0 in
      let t₃ = 3 unless is_set s set ⨾ r in
      let t₂ = 3 unless is_answer a j n ⨾ t₃ in
      let q₁ = rest-passed 0 (is_learner p a s kept) (3 unless ltb i p ⨾ t₂) o in
      let q₂ = rest-passed 2 (ltb i p) t₂ q₁ in
      let q₃ = rest-passed 2 (is_answer a j n) t₃ q₂ in
      (test-passed 2 (ltb i p) t₂ q₁, test-passed 2 (is_answer a j n) t₃ q₂, test-passed 2 (is_set s set) r q₃)

  told-range : hear_no p a s kept i j n set ≡ 0 → fields_in_range (sizes_of p a s) (Announcement i j n (set_at set 0) 0) announcement ≡ true
  unfolding fields_in_range
  told-range o =
      let t = hear-tests o in
      let f = set-fits s set t.2 in
      let g : ltb j a ≡ true = search (and_l, t) depth 9 in
      let h : between 1 1_000 n ≡ true = search (and_r, t) depth 9 in
      rw (t.0, g, h, f)

  pub hear-range : hear_no p a s kept i j n set ≡ 0 → learner_in_range (sizes_of p a s) (listening a (learner_at p kept) (Announcement i j n (set_at set 0) 0)) ≡ true
  unfolding is_learner
  hear-range o =
      let z = sizes_of p a s in
      let r : learner_in_range z (learner_at p kept) ≡ true = search (and_l, and_r) depth 9 in
      listening-range z (Announcement i j n (set_at set 0) 0) (told-range o) a (learner_at p kept) r

  pub hear-keeps : is_learner p a s (hear_record p a s kept i j n set) ≡ true
  unfolding hear_record
  hear-keeps =
      let e = learner-sizes p a s kept x in
      let m = Announcement i j n (set_at set 0) 0 in
      let l = listening a (learner_at p kept) m in
      let many : p ≤ length l.heard = omega (arith, eight-listening a p kept m, few-proposers p a s e) in
      if-ind (λ (b : List ℕ). is_learner p a s b ≡ true) (eqb (hear_no p a s kept i j n set) 0) (learner_bytes p l) kept
      (λ o. learner-passes p a s l many e (hear-range (eqb-true _ _ o)))
      (λ _. x)

-- ---- an acknowledgement that is late is ok, and leaves the record

pub acknowledged-late : (a s : ℕ) (kept : List ℕ) (acceptor number : ℕ) → is_proposer a s kept ≡ true → is_answer a acceptor number ≡ true → (proposer_at kept).alive ≡ true
    → is_current (proposer_at kept) number ≡ false
    → (0 ≡ acknowledged_no a s kept acceptor number) × (kept ≡ acknowledged_record a s kept acceptor number)
unfolding acknowledged_no acknowledged_record
acknowledged-late a s kept acceptor number e f i j = (simp (e, f, i), simp (e, f, i, j))

-- ---- a set of another length is refused, after the record and before its acceptor

pub no-set : (s : ℕ) (kept set old : List ℕ) → is_acceptor s kept ≡ true → eqb (length set) set_size ≡ false
    → (3 ≡ proposal_no s kept set) × ((kept ≡ answer_record s kept set) × (old ≡ answer_reply s kept set old))
unfolding proposal_no answer_record answer_reply is_set
no-set s kept set old e f = (simp (e, f), (simp (e, f), simp (e, f)))
