-- What bytes that follow change: nothing of a number that is read, or that is refused with 12. Assumes nothing.
use mathlib.Core.Path.{◌≡◌, refl}
use mathlib.Core.Bool.{Bool, true, false}
use mathlib.Core.List.{List, [], ◌∷◌, ◌++◌}
use Prim.Native.Nat.{ℕ, zero, suc, ◌+◌, ◌-◌, ◌*◌, ◌≤◌}
use native.Mathlib.Omega.{arith}
use lib.Dec.{ltb}
use lib.ListN.{length, drop}
use lib.Seq.{drop-append-le}
use borrow.Author.Tests.{ltb-true, ltb-false}
use Rattle.std.specs.Prelude.{if◌then◌else◌}
use Rattle.numbers.specs.declared.Limit.{Limit}
use Rattle.numbers.proofs.Groups.{past_end}
use Rattle.std.specs.Prelude.{Err}
use Rattle.numbers.specs.Coding.{Read, groups_of, most_of, last_group, groups_from, read_number}

-- of two answers by a test, the second told in other words where it is not the refusal
second-same : (test : Bool) (first second other refusal : Read) → ((if test then first else second) ≡ refusal → ⊥) → ((second ≡ refusal → ⊥) → other ≡ second)
    → (if test then first else other) ≡ (if test then first else second)
second-same true first second other refusal h same = refl
second-same false first second other refusal h same = same h

-- groups that do not end with the bytes
groups-more : (g : ℕ) (later : Bool) (most low weight : ℕ) (s t : List ℕ) (i : ℕ) → (groups_from g later most low weight s i ≡ Err 11 → ⊥)
    → groups_from g later most low weight (s ++ t) i ≡ groups_from g later most low weight s i
unfolding groups_from
groups-more zero later most low weight s t i h = refl
groups-more (suc g) later most low weight [] t i h = absurd (h refl)
groups-more (suc g) later most low weight (b ∷ s) t i h =
    second-same (ltb b 128) (last_group later most low weight b (i + 1)) _ _ (Err 11) h (groups-more g true most (low + (b - 128) * weight) (weight * 128) s t (i + 1))

inside : (limit : Limit) (s t : List ℕ) (at : ℕ) → at ≤ length s → (read_number limit s at ≡ Err 11 → ⊥) → read_number limit (s ++ t) at ≡ read_number limit s at
unfolding read_number
inside limit s t at l h = rw (drop-append-le at s t l) (groups-more (groups_of limit) false (most_of limit) 0 1 (drop at s) t at h)

-- unless the bytes end before the number does, what is read does not depend on the bytes that follow
pub number_more : (limit : Limit) (s t : List ℕ) (at : ℕ) → (read_number limit s at ≡ Err 11 → ⊥) → read_number limit (s ++ t) at ≡ read_number limit s at
number_more limit s t at h = go (ltb (length s) at) refl
  where
    go : (past : Bool) → ltb (length s) at ≡ past → read_number limit (s ++ t) at ≡ read_number limit s at
    go true e = absurd (h (past_end limit s at (omega (arith, ltb-true (length s) at e))))
    go false e = inside limit s t at (ltb-false (length s) at e) h
