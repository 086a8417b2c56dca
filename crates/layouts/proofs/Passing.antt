-- What is written of a record in range passes its tests, and what passes them is in range.
use mathlib.Core.Bool.{Bool, true, false}
use mathlib.Core.List.{List}
use mathlib.Core.Path.{◌≡◌, refl, ap, ◌∙◌}
use Prim.Native.Nat.{ℕ, ◌-◌, ◌≤◌}
use lib.Dec.{eqb, leb}
use lib.ListN.{length, take, replicate}
use lib.Seq.{take_at, length-take-le}
use borrow.Author.Tests.{eq-eqb}
use Rattle.std.specs.Prelude.{if◌then◌else◌}
use Rattle.sets.specs.Scans.{fits}
use Rattle.sizes.specs.Sizes.{sizes_in_range}
use Rattle.model.specs.Records.{unheard}
use Rattle.model.specs.Ranges.{acceptor_in_range, proposer_in_range, learner_in_range}
use Rattle.model.specs.declared.Acceptor.{Acceptor}
use Rattle.model.specs.declared.Learner.{Learner}
use Rattle.model.specs.declared.Proposer.{Proposer}
use Rattle.choice.proofs.Tests.{and_l, and_r}
use Rattle.layouts.specs.Layout.{sizes_of, word_bytes, set_at, is_set, is_flag, is_acceptor, acceptor_at, acceptor_bytes, is_proposer, proposer_at, proposer_bytes, heard_place, is_learner, learner_at, learner_bytes}
use Rattle.layouts.proofs.Places.{length-learner}
use Rattle.layouts.proofs.LayoutLaws.{acceptor-back, proposer-back, own_places, learner-back}

flag_small : (t : Bool) → leb (if t then 1 else 0) 1 ≡ true
flag_small true = refl
flag_small false = refl

module _ (s : ℕ) (q : Acceptor) (e : sizes_in_range (sizes_of 1 1 s) ≡ true) (x : acceptor_in_range (sizes_of 1 1 s) q ≡ true) where
  pub acceptor-passes : is_acceptor s (acceptor_bytes q) ≡ true
  unfolding is_acceptor acceptor_bytes word_bytes
  acceptor-passes =
      let f : is_flag (acceptor_bytes q) 0 ≡ true = flag_small q.alive in
      let r : acceptor_in_range (sizes_of 1 1 s) (acceptor_at (acceptor_bytes q)) ≡ true = ap (acceptor_in_range (sizes_of 1 1 s)) (acceptor-back (sizes_of 1 1 s) q e x) ∙ x in
      rw (e, f, r)

module _ (a s : ℕ) (p : Proposer) (e : sizes_in_range (sizes_of 1 a s) ≡ true) (x : proposer_in_range (sizes_of 1 a s) p ≡ true) where
  pub proposer-passes : is_proposer a s (proposer_bytes p) ≡ true
  unfolding is_proposer proposer_bytes word_bytes
  proposer-passes =
      let f : is_flag (proposer_bytes p) 0 ≡ true = flag_small p.alive in
      let g : is_flag (proposer_bytes p) 1 ≡ true = flag_small p.active in
      let r : proposer_in_range (sizes_of 1 a s) (proposer_at (proposer_bytes p)) ≡ true = ap (proposer_in_range (sizes_of 1 a s)) (proposer-back (sizes_of 1 a s) p e x) ∙ x in
      rw (e, f, g, r)

module _ (p a s : ℕ) (l : Learner) (many : p ≤ length l.heard) (e : sizes_in_range (sizes_of p a s) ≡ true) (x : learner_in_range (sizes_of p a s) l ≡ true) where
  own_range : learner_in_range (sizes_of p a s) (own_places p l) ≡ true
  unfolding learner_in_range
  own_range = rw (take_at (take p l.heard) (replicate (8 - p) unheard) p (length-take-le p l.heard many)) x

  flagged-first : is_flag (learner_bytes p l) 0 ≡ true
  unfolding learner_bytes
  flagged-first = flag_small l.alive

  pub learner-passes : is_learner p a s (learner_bytes p l) ≡ true
  unfolding is_learner
  learner-passes =
      let n : eqb (length (learner_bytes p l)) (heard_place p) ≡ true = eq-eqb _ _ (length-learner p l many) in
      let r : learner_in_range (sizes_of p a s) (learner_at p (learner_bytes p l)) ≡ true = ap (learner_in_range (sizes_of p a s)) (learner-back (sizes_of p a s) l many e x) ∙ own_range in
      rw (e, n, flagged-first, r)

-- ---- the records that pass are in range

pub set-fits : (s : ℕ) (set : List ℕ) → is_set s set ≡ true → fits (set_at set 0) s ≡ true
unfolding is_set
set-fits s set e = search (and_l, and_r) depth 9

pub proposer-range : (a s : ℕ) (kept : List ℕ) → is_proposer a s kept ≡ true → proposer_in_range (sizes_of 1 a s) (proposer_at kept) ≡ true
unfolding is_proposer
proposer-range a s kept x = search (and_l, and_r) depth 9
