-- What the proofs of several functions cite.
use mathlib.Core.Bool.{Bool, true, false}
use mathlib.Core.List.{List, append-nil}
use mathlib.Core.Path.{◌≡◌, refl, sym, ap, ◌∙◌}
use Prim.Native.Nat.{ℕ, suc, ◌+◌, ◌≤◌, ◌<◌}
use native.Mathlib.Omega.{arith}
use lib.ListN.{length, drop_of_length-le}
use lib.Seq.{sets, sets-eq}
use mir.Val.{bool_byte}
use borrow.Author.Tests.{ltb-true, leb-true, eqb-true}
use Rattle.std.specs.Prelude.{if◌then◌else◌, Option, Some, None}
use Rattle.sets.specs.Scans.{most_scans, first_word}
use Rattle.sets.specs.declared.scans.Scans.{Scans}
use Rattle.sizes.specs.Sizes.{sizes_in_range}
use Rattle.sizes.proofs.SizeLaws.{bounds}
use Rattle.model.specs.declared.Proposer.{Proposer}
use Rattle.choice.proofs.Tests.{and_l, and_r}
use Rattle.layouts.specs.Layout.{sizes_of, word_bytes, set_size, set_bytes, number_bytes, acceptors_bytes, flag_bytes, flagged, flagged_size, is_answer, is_acceptor, buffered_place, proposed_place, gathered_place, number_place, acknowledged_place, rejected_place, decided_place, proposer_size, is_proposer, proposer_bytes, heard_place, is_learner}
use Rattle.layouts.proofs.Words.{length-word}

-- ---- a test by a function, in what its result is

pub passed : {r t : Bool} → r ≡ t → r ≡ true → t ≡ true
passed e h = sym e ∙ h

pub failed : {r t : Bool} → r ≡ t → r ≡ false → t ≡ false
failed e h = sym e ∙ h

-- ---- what is read where a test holds

pub read-passed : {A : Type 0} (t : Bool) (x : A) {r : Option A} {y : A} → r ≡ (if t then Some x else None) → r ≡ Some y → t ≡ true
read-passed true x e h = refl
read-passed false x e h = cc

pub read-value : {A : Type 0} (t : Bool) (x : A) {r : Option A} {y : A} → r ≡ (if t then Some x else None) → r ≡ Some y → y ≡ x
read-value true x e h = cc
read-value false x e h = cc

pub read-failed : {A : Type 0} (t : Bool) (x : A) {r : Option A} → r ≡ (if t then Some x else None) → r ≡ None → t ≡ false
read-failed true x e h = cc
read-failed false x e h = refl

-- ---- bytes

pub flag-byte : (t : Bool) → bool_byte t ≡ (if t then 1 else 0)
flag-byte true = refl
flag-byte false = refl

-- bytes that are all put are those that were put
pub put_whole : (bytes new : List ℕ) → length bytes ≡ length new → sets bytes 0 new ≡ new
put_whole bytes new e =
    let q : length bytes ≤ 0 + length new = omega arith in
    sets-eq new bytes 0 (omega arith) ∙ rw (drop_of_length-le bytes q) (append-nil new)

pub length-set : (v : Scans) → length (set_bytes v) ≡ set_size
length-set v = length-word 8 (first_word v)

pub flagged-whole : (bytes : List ℕ) (t : Bool) (v : Scans) → length bytes ≡ flagged_size → sets bytes 0 (flagged t v) ≡ flagged t v
flagged-whole bytes t v e = put_whole bytes (flagged t v) (e ∙ ap suc (sym (length-set v)))

-- ---- the lengths of what passed its tests

pub acceptor-length : (s : ℕ) (bytes : List ℕ) → is_acceptor s bytes ≡ true → length bytes ≡ flagged_size
unfolding is_acceptor
acceptor-length s bytes e = search (and_l, and_r, eqb-true) depth 9

proposer-length : (a s : ℕ) (bytes : List ℕ) → is_proposer a s bytes ≡ true → length bytes ≡ proposer_size
unfolding is_proposer
proposer-length a s bytes e = search (and_l, and_r, eqb-true) depth 9

pub learner-length : (p a s : ℕ) (bytes : List ℕ) → is_learner p a s bytes ≡ true → length bytes ≡ heard_place p
unfolding is_learner
learner-length p a s bytes e = search (and_l, and_r, eqb-true) depth 9

-- a record that is put over one that passed is whole
pub proposer-whole : (a s : ℕ) (bytes : List ℕ) (p : Proposer) → is_proposer a s bytes ≡ true → sets bytes 0 (proposer_bytes p) ≡ proposer_bytes p
unfolding word_bytes proposer_bytes
proposer-whole a s bytes p e = put_whole bytes (proposer_bytes p) (proposer-length a s bytes e)

-- ---- the arguments of what passed its tests

-- a run has at most 8 proposers, 7 acceptors and as many scans as a set can hold
pub few-proposers : (p a s : ℕ) → sizes_in_range (sizes_of p a s) ≡ true → p ≤ 8
few-proposers p a s e = (bounds (sizes_of p a s) e).few-proposers

pub few-acceptors : (p a s : ℕ) → sizes_in_range (sizes_of p a s) ≡ true → a ≤ 7
few-acceptors p a s e = (bounds (sizes_of p a s) e).few-acceptors

pub few-scans : (p a s : ℕ) → sizes_in_range (sizes_of p a s) ≡ true → s ≤ most_scans
unfolding most_scans
few-scans p a s e = (bounds (sizes_of p a s) e).few-scans

pub proposer-sizes : (a s : ℕ) (bytes : List ℕ) → is_proposer a s bytes ≡ true → sizes_in_range (sizes_of 1 a s) ≡ true
unfolding is_proposer
proposer-sizes a s bytes e = search (and_l, and_r) depth 9

pub learner-sizes : (p a s : ℕ) (bytes : List ℕ) → is_learner p a s bytes ≡ true → sizes_in_range (sizes_of p a s) ≡ true
unfolding is_learner
learner-sizes p a s bytes e = search (and_l, and_r) depth 9

pub answer-acceptor : (a j n : ℕ) → is_answer a j n ≡ true → j < a
answer-acceptor a j n e = search (and_l, ltb-true) depth 9

pub answer-number : (a j n : ℕ) → is_answer a j n ≡ true → n ≤ 1_000
answer-number a j n e = search (and_l, and_r, leb-true) depth 9

-- ---- the fields of a proposer's record, put one after the other

pub put-fields : (b₀ : List ℕ) {b₁ b₂ b₃ b₄ b₅ b₆ b₇ b₈ b₉ : List ℕ} (p : Proposer)
    → b₁ ≡ sets b₀ 0 (flag_bytes p.alive)
    → b₂ ≡ sets b₁ 1 (flag_bytes p.active)
    → b₃ ≡ sets b₂ buffered_place (set_bytes p.buffered)
    → b₄ ≡ sets b₃ proposed_place (set_bytes p.proposed)
    → b₅ ≡ sets b₄ gathered_place (set_bytes p.gathered)
    → b₆ ≡ sets b₅ number_place (number_bytes p.number)
    → b₇ ≡ sets b₆ acknowledged_place (acceptors_bytes p.acknowledged)
    → b₈ ≡ sets b₇ rejected_place (acceptors_bytes p.rejected)
    → b₉ ≡ sets b₈ decided_place (set_bytes p.decided)
    → b₉ ≡ sets b₀ 0 (proposer_bytes p)
unfolding word_bytes proposer_bytes
put-fields b₀ p e₁ e₂ e₃ e₄ e₅ e₆ e₇ e₈ e₉ =
    e₉ ∙ ap (λ (l : List ℕ). sets l decided_place (set_bytes p.decided)) (e₈ ∙ ap (λ (l : List ℕ). sets l rejected_place (acceptors_bytes p.rejected)) (e₇ ∙ ap (λ (l : List ℕ). sets l acknowledged_place (acceptors_bytes p.acknowledged)) (e₆ ∙ ap (λ (l : List ℕ). sets l number_place (number_bytes p.number)) (e₅ ∙ ap (λ (l : List ℕ). sets l gathered_place (set_bytes p.gathered)) (e₄ ∙ ap (λ (l : List ℕ). sets l proposed_place (set_bytes p.proposed)) (e₃ ∙ ap (λ (l : List ℕ). sets l buffered_place (set_bytes p.buffered)) (e₂ ∙ ap (λ (l : List ℕ). sets l 1 (flag_bytes p.active)) e₁)))))))
