-- One group of a number, read at a place of the bytes, and the bounds of its weight. Assumes nothing.
use mathlib.Core.Path.{◌≡◌, refl, ◌∙◌}
use mathlib.Core.Bool.{Bool, true, false, ◌&&◌}
use mathlib.Core.List.{List}
use Prim.Native.Nat.{ℕ, suc, ◌+◌, ◌-◌, ◌*◌, ◌^◌, ◌<◌, ◌≤◌}
use native.Mathlib.Omega.{arith}
use native.Mathlib.Numerals.{add-one}
use native.Mathlib.Nat.{pow-le-pow_right, mul-le-mul, le_refl}
use lib.Dec.{eqb, ltb, lit≤}
use lib.ListN.{length, drop, get_or, drop_of_length-le}
use lib.Seq.{drop-cons}
use borrow.Author.Tests.{lt-ltb, le-ltb}
use Rattle.std.specs.Prelude.{if◌then◌else◌}
use Rattle.numbers.specs.declared.Limit.{Limit}
use Rattle.numbers.specs.declared.Limit.TheVariants.{Schedule, Table}
use Rattle.std.specs.Prelude.{Err}
use Rattle.numbers.specs.Coding.{number_to, groups_of, last_group, groups_from, read_number}

-- no byte is left
pub ended : (g k : ℕ) (later : Bool) (most low weight : ℕ) (s : List ℕ) (i : ℕ) → k < g → length s ≤ k → groups_from (g - k) later most low weight (drop k s) i ≡ Err 11
unfolding groups_from
ended g k later most low weight s i h l =
    let e : g - k ≡ suc (g - (k + 1)) = omega arith in
    rw (e, drop_of_length-le s l)

-- one byte
group : (g k : ℕ) (later : Bool) (most low weight : ℕ) (s : List ℕ) (i : ℕ) → k < g → k < length s
    → groups_from (g - k) later most low weight (drop k s) i
    ≡ (if ltb (get_or s k 0) 128
    then last_group later most low weight (get_or s k 0) (i + 1)
    else groups_from (g - (k + 1)) true most (low + (get_or s k 0 - 128) * weight) (weight * 128) (drop (k + 1) s) (i + 1))
unfolding groups_from
group g k later most low weight s i h l =
    let e : g - k ≡ suc (g - (k + 1)) = omega arith in
    rw (e, drop-cons s k 0 l, add-one k)

-- one byte, the last of a number
pub group-last : (g k : ℕ) (later : Bool) (most low weight : ℕ) (s : List ℕ) (i : ℕ) → k < g → k < length s → get_or s k 0 < 128
    → groups_from (g - k) later most low weight (drop k s) i ≡ last_group later most low weight (get_or s k 0) (i + 1)
group-last g k later most low weight s i h l b = group g k later most low weight s i h l ∙ rw (lt-ltb (get_or s k 0) 128 b)

-- one byte, and more follow
pub group-more : (g k : ℕ) (later : Bool) (most low weight : ℕ) (s : List ℕ) (i : ℕ) → k < g → k < length s → 128 ≤ get_or s k 0
    → groups_from (g - k) later most low weight (drop k s) i
    ≡ groups_from (g - (k + 1)) (ltb 0 (k + 1)) most (low + (get_or s k 0 - 128) * weight) (weight * 128) (drop (k + 1) s) (i + 1)
group-more g k later most low weight s i h l b = group g k later most low weight s i h l ∙ rw (le-ltb (get_or s k 0) 128 b, lt-ltb 0 (k + 1) (omega arith))

-- no group may follow
pub done : (g k : ℕ) (later : Bool) (most low weight : ℕ) (bs : List ℕ) (i : ℕ) → g ≤ k → groups_from (g - k) later most low weight bs i ≡ Err 12
unfolding groups_from
done g k later most low weight bs i h =
    let e : g - k ≡ 0 = omega arith in
    rw e

-- a number that is too large
pub too_large : (later : Bool) (most low weight b next : ℕ) → most < low + b * weight → last_group later most low weight b next ≡ Err 12
unfolding last_group
too_large later most low weight b next h = go (eqb b 0 && later)
  where
    go : (t : Bool) → (if t then Err 12 else (if ltb most (low + b * weight) then Err 12 else number_to (low + b * weight) next)) ≡ Err 12
    go true = refl
    go false = rw (lt-ltb _ _ h)

-- the weight of one of seven groups, and its products with the group
pub record Small (b weight : ℕ) : Type 0 where
  pub alone : weight ≤ 2 ^ 42
  pub whole : b * weight ≤ 255 * 2 ^ 42
  pub seven : (b - 128) * weight ≤ 127 * 2 ^ 42
  pub below : (b - 128) * weight ≤ 127 * weight

pub small : (b k weight : ℕ) → b ≤ 255 → k ≤ 6 → weight ≡ 128 ^ k → Small b weight
small b k weight hb hk e =
    let hw : weight ≤ 2 ^ 42 = rw e (pow-le-pow_right (lit≤ tt) hk) in
    let hc : b - 128 ≤ 127 = omega arith in
    record { alone = hw; whole = mul-le-mul hb hw; seven = mul-le-mul hc hw; below = mul-le-mul hc (le_refl weight) }

-- a number has at most seven groups
pub groups-few : (limit : Limit) → groups_of limit ≤ 7
unfolding groups_of
groups-few Schedule = lit≤ tt
groups-few Table = lit≤ tt

-- past the end of the bytes there is no number
pub past_end : (limit : Limit) (s : List ℕ) (at : ℕ) → length s ≤ at → read_number limit s at ≡ Err 11
unfolding read_number groups_from groups_of
past_end Schedule s at l = rw (drop_of_length-le s l)
past_end Table s at l = rw (drop_of_length-le s l)
