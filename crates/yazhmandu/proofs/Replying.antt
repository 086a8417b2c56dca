-- What a proposal's call gives, and what it leaves in the acceptor's record and in the reply, by what the machine's call answered.
use mathlib.Core.Bool.{Bool, true, false, ◌&&◌}
use mathlib.Core.List.{List}
use mathlib.Core.Path.{◌≡◌, refl, sym, ap, ◌∙◌}
use Prim.Native.Nat.{ℕ}
use lib.Dec.{eqb}
use lib.ListN.{length}
use lib.Seq.{sets}
use borrow.Author.Tests.{eq-eqb, eqb-true}
use Rattle.choice.specs.Tests.{◌unless◌, ◌⨾◌, ok}
use Rattle.choice.proofs.Tests.{and_l, and_r}
use Rattle.sets.specs.Acceptors.{most_acceptors}
use Rattle.sets.specs.Scans.{fits}
use Rattle.sets.specs.declared.scans.Scans.{Scans}
use Rattle.sizes.specs.Sizes.{scans_in_range, sizes_in_range}
use Rattle.model.specs.Rules.{accepts, answering}
use Rattle.model.specs.Ranges.{acceptor_in_range}
use Rattle.model.specs.declared.Acceptor.{Acceptor}
use Rattle.machine.specs.Acceptors.{answering_no, record_after}
use Rattle.machine.proofs.Replies.{record-left}
use Rattle.layouts.specs.Layout.{set_size, set_at, is_flag, is_set, flagged, flagged_size, is_acceptor, acceptor_at, acceptor_bytes}
use Rattle.layouts.proofs.Parts.{flagged-whole, acceptor-length}
use Rattle.yazhmandu.specs.Calls.{proposal_no, answer_record, answer_reply}

ends : (x y : Bool) → (x && true && true && y) ≡ (x && y)
ends true y = refl
ends false y = refl

-- two tests of one refusal are one
each : (x y : Bool) (rest : ℕ) → (1 unless (x && y) ⨾ rest) ≡ (1 unless x ⨾ 1 unless y ⨾ rest)
each true y rest = refl
each false y rest = refl

-- an acceptor's record is a flag and a set
pub whole_length : (s : ℕ) (kept : List ℕ) → is_acceptor s kept ≡ true → length kept ≡ flagged_size
whole_length s kept e = acceptor-length s kept e

pub whole_flag : (s : ℕ) (kept : List ℕ) → is_acceptor s kept ≡ true → is_flag kept 0 ≡ true
unfolding is_acceptor
whole_flag s kept e = search (and_l, and_r) depth 9

pub set_length : (s : ℕ) (set : List ℕ) → is_set s set ≡ true → length set ≡ set_size
unfolding is_set
set_length s set e = eqb-true (length set) set_size (and_l _ _ e)

module _ (s : ℕ) (kept set : List ℕ) where
  -- what is left to test of the record then
  acceptor-left : length kept ≡ flagged_size → is_flag kept 0 ≡ true → is_acceptor s kept ≡ (scans_in_range s && fits (acceptor_at kept).accepted s)
  unfolding is_acceptor acceptor_in_range sizes_in_range most_acceptors
  acceptor-left n g = rw (eq-eqb (length kept) flagged_size n, g) (ends (scans_in_range s) (fits (acceptor_at kept).accepted s))

  -- the lengths and the flag are those of a record and a set
  abbrev pub Flagged : Type 0
  Flagged = (length kept ≡ flagged_size) × (is_flag kept 0 ≡ true) × (length set ≡ set_size)

  same-number : Flagged → proposal_no s kept set ≡ answering_no s (acceptor_at kept) (set_at set 0)
  unfolding proposal_no is_set answering_no
  same-number (n, g, f) =
      let q = acceptor_at kept in
      let v = set_at set 0 in
      rw (acceptor-left n g, eq-eqb (length set) set_size f) (each (scans_in_range s) (fits q.accepted s) (3 unless fits v s ⨾ 5 unless q.alive ⨾ ok))

  module _ (old : List ℕ) (whole : Flagged) {before : Acceptor} {proposed : Scans} (i : before ≡ acceptor_at kept) (j : proposed ≡ set_at set 0) where
    -- it gives n and leaves the record k and the reply b
    abbrev pub Replied : ℕ → List ℕ → List ℕ → Type 0
    Replied n k b = (n ≡ proposal_no s kept set) × (k ≡ answer_record s kept set) × (b ≡ answer_reply s kept set old)

    its-number : proposal_no s kept set ≡ answering_no s before proposed
    its-number = same-number whole ∙ (λ k. answering_no s (sym i k) (sym j k))

    pub refused-reply : {n : ℕ} → (answering_no s before proposed ≡ n) × (eqb n 0 ≡ false) → Replied n kept old
    unfolding answer_record answer_reply
    refused-reply told =
        let z : eqb (proposal_no s kept set) 0 ≡ false = ap (λ (m : ℕ). eqb m 0) (its-number ∙ told.0) ∙ told.1 in
        (sym (its-number ∙ told.0), rw z refl, rw z refl)

    -- one that is answered: whether it accepts, the set that it sends, and the record that is put
    pub told-reply : (t : Bool) {w : Scans} {after : Acceptor} {k b : List ℕ} → length old ≡ flagged_size → (answering_no s before proposed ≡ 0) × (accepts before proposed ≡ t) × (w ≡ (answering before proposed).accepted)
        → after ≡ record_after s before proposed → k ≡ sets kept 0 (flagged after.alive after.accepted) → b ≡ sets old 0 (flagged t w) → Replied 0 k b
    unfolding answer_record answer_reply acceptor_bytes
    told-reply t {w} {after} l told m g h =
        let z : proposal_no s kept set ≡ 0 = its-number ∙ told.0 in
        let p : after ≡ answering (acceptor_at kept) (set_at set 0) = m ∙ record-left s before proposed told.0 ∙ (λ k. answering (i k) (j k)) in
        let u : accepts (acceptor_at kept) (set_at set 0) ≡ t = (λ k. accepts (sym i k) (sym j k)) ∙ told.1 in
        let v : w ≡ (answering (acceptor_at kept) (set_at set 0)).accepted = told.2 ∙ (λ k. (answering (i k) (j k)).accepted) in
        (sym z, rw z (g ∙ flagged-whole kept after.alive after.accepted whole.0 ∙ ap acceptor_bytes p), rw (z, u) (h ∙ flagged-whole old t w l ∙ ap (flagged t) v))
