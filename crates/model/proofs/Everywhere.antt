-- A test of every record of a list, from a place on.
use mathlib.Core.Bool.{Bool, true, false, ◌&&◌}
use mathlib.Core.List.{List}
use mathlib.Core.Path.{◌≡◌, ◌∙◌}
use Prim.Native.Nat.{ℕ, ◌+◌, ◌≤◌, ◌<◌}
use native.Mathlib.Numerals.{add-one}
use lib.ListN.{length, get_or, drop, drop_of_length-le}
use lib.Seq.{drop-cons}
use Rattle.model.specs.Ranges.{all}

module _ {B : Type 0} (f : B → Bool) (l : List B) (i : ℕ) where
  -- past the last
  pub past : length l ≤ i → all f (drop i l) ≡ true
  unfolding all
  past h = rw (drop_of_length-le l h)

  module _ (d : B) (there : i < length l) where
    -- the record there, and those past it
    next : all f (drop i l) ≡ (f (get_or l i d) && all f (drop (i + 1) l))
    unfolding all
    next = rw (add-one i, drop-cons l i d there)

    pub passes : f (get_or l i d) ≡ true → all f (drop i l) ≡ all f (drop (i + 1) l)
    passes e = next ∙ rw e

    pub fails : f (get_or l i d) ≡ false → all f (drop i l) ≡ false
    fails e = next ∙ rw e
