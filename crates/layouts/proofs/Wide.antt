-- Sizes of 64 bits: what a test says of the least of a size and of what there is room for, it says of the size.
use mathlib.Core.Bool.{Bool, true}
use mathlib.Core.Logic.{⊎_elim}
use mathlib.Core.Path.{◌≡◌, sym, ap, ◌∙◌}
use Prim.Native.Nat.{ℕ, ◌≤◌, ◌<◌, min}
use native.Mathlib.Nat.{min-eq_left, min-eq_right}
use native.Mathlib.Omega.{arith}
use borrow.Author.Tests.{le-leb, lt-leb}
use Rattle.sets.specs.Acceptors.{most_acceptors}
use Rattle.sets.specs.Scans.{most_scans, fits}
use Rattle.sets.specs.declared.scans.Scans.{Scans}
use Rattle.sets.proofs.ScanLaws.{fits_more}
use Rattle.sizes.specs.Sizes.{between, scans_in_range, sizes_in_range}
use Rattle.sizes.specs.declared.Sizes.{Sizes}
use Rattle.sizes.proofs.SizeLaws.{bounds}
use Rattle.model.proofs.Moments.{earlier}
use Rattle.layouts.specs.Layout.{sizes_of}

-- a range that ends below m
between-min : (least greatest n m : ℕ) → least ≤ m → greatest < m → between least greatest (min n m) ≡ between least greatest n
between-min least greatest n m h k =
    ⊎_elim
    (λ (i : n ≤ m). ap (between least greatest) (min-eq_left i))
    (λ (i : m ≤ n). simp (min-eq_right i, le-leb least m h, lt-leb m greatest k, le-leb least n (omega arith), lt-leb n greatest (omega arith)))
    (earlier n m)

module _ (p a s : ℕ) where
  abbrev pub narrowed : Sizes
  narrowed = sizes_of (min p 65_535) (min a 65_535) (min s 65_535)

  narrowed-range : sizes_in_range narrowed ≡ sizes_in_range (sizes_of p a s)
  unfolding sizes_in_range scans_in_range most_scans most_acceptors
  narrowed-range =
      rw (between-min 1 8 p 65_535 (omega arith) (omega arith), between-min 1 most_acceptors a 65_535 (omega arith) (omega arith), between-min 1 most_scans s 65_535 (omega arith) (omega arith))

  -- a test of the narrowed sizes is one of the sizes
  pub sizes-tested : {z : Sizes} {t : Bool} → z ≡ narrowed → t ≡ sizes_in_range z → t ≡ sizes_in_range (sizes_of p a s)
  sizes-tested n e = e ∙ ap sizes_in_range n ∙ narrowed-range

  -- sizes in range are not changed
  pub narrowed-same : sizes_in_range (sizes_of p a s) ≡ true → narrowed ≡ sizes_of p a s
  narrowed-same e =
      let b = bounds (sizes_of p a s) e in
      let x : min p 65_535 ≡ p = min-eq_left (omega (arith, b.few-proposers)) in
      let y : min a 65_535 ≡ a = min-eq_left (omega (arith, b.few-acceptors)) in
      let w : min s 65_535 ≡ s = min-eq_left (omega (arith, b.few-scans)) in
      λ i. sizes_of (x i) (y i) (w i)

-- a set within m scans is within more
pub fits-min : (v : Scans) (s m : ℕ) → fits v m ≡ true → fits v (min s m) ≡ fits v s
fits-min v s m h =
    ⊎_elim
    (λ (i : s ≤ m). ap (fits v) (min-eq_left i))
    (λ (i : m ≤ s). ap (fits v) (min-eq_right i) ∙ h ∙ sym (fits_more v m s h i))
    (earlier s m)
