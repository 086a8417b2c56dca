-- What is sent, written out: the messages that each description stands for.
use mathlib.Core.Path.{◌≡◌, refl, ◌∙◌, ap}
use mathlib.Core.Bool.{Bool, true, false}
use mathlib.Core.List.{List, [], ◌∷◌, map}
use Prim.Native.Nat.{ℕ, zero, suc, ◌+◌, ◌<◌, ◌≤◌}
use native.Mathlib.Nat.{not-suc-le-zero}
use native.Mathlib.Numerals.{add-one, sub-one}
use native.Mathlib.Omega.{arith}
use lib.Dec.{eqb, eqb-suc-zero}
use lib.ListN.{length, length-map}
use borrow.Author.Tests.{lt-ltb, le-ltb, eq-eqb, ne_eqb, eqb-true, eqb-false}
use Rattle.sets.specs.declared.scans.Scans.{Scans}
use Rattle.model.specs.Table.{Internal, Proposal, Acknowledgement, Announcement, from, every_one, without, every_other}
use Rattle.model.specs.declared.Message.{Message}
use Rattle.decisions.specs.declared.sending.Send.{Send}
use Rattle.decisions.specs.Sending.{silence, one, to_everyone, to_others, acknowledgements, count_of, skipping, item_of, items_of}

-- ---- how many there are

length_from : (i n : ℕ) → length (from i n) ≡ n
unfolding from
length_from i zero = refl
length_from i (suc n) = ap suc (length_from (suc i) n)

pub items-count : (s : Send) → length (items_of s) ≡ count_of s
unfolding items_of
items-count s = length-map (from 0 (count_of s)) (item_of s) ∙ length_from 0 (count_of s)

-- ---- none, one, and one to everyone

pub items-silence : items_of silence ≡ []
unfolding items_of from
items-silence = refl

pub items-one : (m : Message) → items_of (one m) ≡ m ∷ []
unfolding items_of item_of from
items-one m = refl

pub items-everyone : (n p k : ℕ) (v : Scans) → items_of (to_everyone n (Proposal p k v 0)) ≡ map (Proposal p k v) (every_one n)
unfolding items_of item_of
items-everyone n p k v = refl

-- ---- to everyone but one

module _ (f : ℕ → Message) (a : ℕ) where
  past : (i n : ℕ) → a ≤ i → map (λ k. f (skipping a k)) (from i n) ≡ map f (without a (from (suc i) n))
  unfolding from without
  past i zero h = refl
  past i (suc n) h =
      rw (le-ltb i a h, ne_eqb (suc i) a (omega arith), add-one i) (ap (λ (r : List Message). f (suc i) ∷ r) (past (suc i) n (omega arith)))

  abbrev Skips : ℕ → ℕ → Type 0
  Skips i n = map (λ k. f (skipping a k)) (from i n) ≡ map f (without a (from i (suc n)))

  skips-by : (i n : ℕ) → (suc i ≤ a → a ≤ suc i + n → Skips (suc i) n) → (t : Bool) → eqb i a ≡ t → i ≤ a → a ≤ i + suc n → Skips i (suc n)
  unfolding from without
  skips-by i n rest true q h g = rw q (past i (suc n) (omega (arith, eqb-true i a q)))
  skips-by i n rest false q h g =
      let l : i < a = omega (arith, eqb-false i a q) in
      rw (q, lt-ltb i a l) (ap (λ (r : List Message). f i ∷ r) (rest l (omega arith)))

  skips : (i n : ℕ) → i ≤ a → a ≤ i + n → Skips i n
  unfolding from without
  skips i zero h g = rw (eq-eqb i a (omega arith))
  skips i (suc n) h g = skips-by i n (skips (suc i) n) (eqb i a) refl h g

pub items-others : (n a : ℕ) (v : Scans) → a < n → items_of (to_others n a (Internal v 0)) ≡ map (Internal v) (every_other a n)
unfolding items_of item_of
items-others zero a v h = absurd (not-suc-le-zero h)
items-others (suc n) a v h = rw (sub-one (suc n)) (skips (Internal v) a 0 n (omega arith) (omega arith))

-- ---- an acceptor's acknowledgements

next-by : (f g : ℕ → Message) → ((k : ℕ) → f (suc k) ≡ g k) → (i n : ℕ) → map f (from (suc i) n) ≡ map g (from i n)
unfolding from
next-by f g h i zero = refl
next-by f g h i (suc n) = rw (h i) (ap (λ (r : List Message). g i ∷ r) (next-by f g h (suc i) n))

pub items-acknowledgements : (n p j k : ℕ) (v : Scans)
    → items_of (acknowledgements n (Announcement p j k v 0)) ≡ Acknowledgement j k v p ∷ map (Announcement p j k v) (every_one n)
unfolding items_of item_of from
items-acknowledgements n p j k v =
    rw (add-one n)
    (ap (λ (r : List Message). Acknowledgement j k v p ∷ r)
    (next-by (item_of (acknowledgements n (Announcement p j k v 0))) (Announcement p j k v) (λ i. rw (eqb-suc-zero i, sub-one (suc i))) 0 n))
