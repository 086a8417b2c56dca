-- What a proposer's record that passed its test tells of the call: its sizes are a run's, and a record that is put over it is whole.
use mathlib.Core.Bool.{true}
use mathlib.Core.List.{List}
use mathlib.Core.Path.{◌≡◌}
use Prim.Native.Nat.{ℕ, ◌≤◌}
use lib.Seq.{sets}
use Rattle.model.specs.declared.Proposer.{Proposer}
use Rattle.layouts.specs.Layout.{is_proposer, proposer_bytes, is_learner}
use Rattle.layouts.proofs.Parts.{proposer-sizes, learner-sizes, few-proposers, few-acceptors, proposer-whole}

pub few_acceptors : (a s : ℕ) (kept : List ℕ) → is_proposer a s kept ≡ true → a ≤ 7
few_acceptors a s kept e = few-acceptors 1 a s (proposer-sizes a s kept e)

pub put_whole : (a s : ℕ) (kept : List ℕ) (p : Proposer) → is_proposer a s kept ≡ true → sets kept 0 (proposer_bytes p) ≡ proposer_bytes p
put_whole a s kept p e = proposer-whole a s kept p e

-- ---- a learner's

pub few_proposers : (p a s : ℕ) (kept : List ℕ) → is_learner p a s kept ≡ true → p ≤ 8
few_proposers p a s kept e = few-proposers p a s (learner-sizes p a s kept e)

pub most_acceptors : (p a s : ℕ) (kept : List ℕ) → is_learner p a s kept ≡ true → a ≤ 7
most_acceptors p a s kept e = few-acceptors p a s (learner-sizes p a s kept e)
