-- Laws of the search for free slots: what a turn of `room` and of `next_free` keeps, and what stands where they stop.
use mathlib.Core.Path.{◌≡◌, refl, sym, ◌∙◌, ap, subst}
use Prim.Native.Nat.{ℕ, suc, ◌+◌, ◌-◌, ◌<◌, ◌≤◌}
use native.Mathlib.Omega.{arith}
use mathlib.Core.Bool.{Bool, true, false, not, ◌&&◌}
use mathlib.Core.List.{List, [], ◌∷◌}
use lib.Dec.{T as Holds, ltb, nltb→le}
use borrow.Author.Tests.{le-ltb}
use lib.ListN.{length, get_or, drop, drop_of_length-le}
use Rattle.std.specs.Prelude.{if◌then◌else◌}
use Rattle.model.specs.Records.{free_slot}
use Rattle.model.specs.Table.{is_free, free_slots}
use Rattle.model.specs.declared.Message.{Message}
use Rattle.decisions.specs.Sending.{lacking}
use Rattle.machine.specs.Slots.{left_after, searching, lowest, lowest_from, FreeFrom}
use Rattle.machine.proofs.LeftOver.{drop-next}

-- ---- the search for room

after-by : (t : Bool) (k f : ℕ) → (if t then k - 1 else k) - f ≡ k - (if t then suc f else f)
after-by true k f = omega arith
after-by false k f = refl

after_first : (m : Message) (t : List Message) (k : ℕ) → lacking (left_after m k) t ≡ lacking k (m ∷ t)
unfolding free_slots
after_first m t k = after-by (is_free m) k (free_slots t)

pub room-on : (l : List Message) (i k : ℕ) (d : Message) → i < length l → lacking (left_after (get_or l i d) k) (drop (i + 1) l) ≡ lacking k (drop i l)
room-on l i k d h = after_first (get_or l i d) (drop (i + 1) l) k ∙ ap (lacking k) (sym (drop-next l i d h))

none_free : (k : ℕ) → lacking k [] ≡ k
unfolding free_slots
none_free k = omega arith

nothing-less : (k f : ℕ) → k ≤ 0 → k - f ≡ k
nothing-less k f h = omega arith

-- it stops where a test fails
pub stops-l : (a b : Bool) → Holds (not a) → Holds (not (a && b))
stops-l false b h = tt
stops-l true b h = absurd h

pub stops-r : (a b : Bool) → Holds (not b) → Holds (not (a && b))
stops-r false b h = tt
stops-r true b h = h

pub not-below : (a b : ℕ) → b ≤ a → Holds (not (ltb a b))
not-below a b h = subst (λ (t : Bool). Holds (not t)) (sym (le-ltb a b h)) tt

stops-by : (t : Bool) (i k : ℕ) (l : List Message) → (Holds (not t) → k ≤ 0) → (u : Bool) → (Holds (not u) → length l ≤ i) → Holds (not (t && u)) → lacking k (drop i l) ≡ k
stops-by true i k l e u f h = ap (lacking k) (drop_of_length-le l (f h)) ∙ none_free k
stops-by false i k l e u f h = nothing-less k (free_slots (drop i l)) (e tt)

-- a search that stops has found them, or nothing is left of the table: as many are lacking as are still to be found
pub room-off : (l : List Message) (i k : ℕ) → Holds (not (searching i (length l) k)) → lacking k (drop i l) ≡ k
room-off l i k h = stops-by (ltb 0 k) i k l (nltb→le 0 k) (ltb i (length l)) (nltb→le i (length l)) h

-- ---- the search for the lowest free slot

unrolled : (l : List Message) (i : ℕ) → i < length l → lowest_from i l ≡ i + (if is_free (get_or l i free_slot) then 0 else suc (lowest (drop (i + 1) l)))
unfolding lowest
unrolled l i h = ap (λ (r : List Message). i + lowest r) (drop-next l i free_slot h)

-- the lowest place by the test of the slot there
by-test : (l : List Message) (i : ℕ) (t : Bool) → i < length l → is_free (get_or l i free_slot) ≡ t → lowest_from i l ≡ i + (if t then 0 else suc (lowest (drop (i + 1) l)))
by-test l i t h e = unrolled l i h ∙ ap (λ (u : Bool). i + (if u then 0 else suc (lowest (drop (i + 1) l)))) e

-- a slot that is taken is passed; one that is free is the one
pub next-on : (l : List Message) (i : ℕ) → i < length l → is_free (get_or l i free_slot) ≡ false → lowest_from (i + 1) l ≡ lowest_from i l
next-on l i h taken = let e = by-test l i false h taken in omega arith

pub next-off : (l : List Message) (i : ℕ) → i < length l → is_free (get_or l i free_slot) ≡ true → lowest_from i l ≡ i
next-off l i h free = let e = by-test l i true h free in omega arith

at_least : (i x r n : ℕ) → i + x ≡ r → r < n → i < n
at_least i x r n e h = omega arith

pub next-inside : (l : List Message) (i f : ℕ) → lowest_from i l ≡ lowest_from f l → FreeFrom f l → i < length l
next-inside l i f e h = at_least i (lowest (drop i l)) (lowest_from f l) (length l) e h
