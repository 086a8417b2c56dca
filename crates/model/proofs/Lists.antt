-- What holds at every place of a list: after a store, in a list of copies, and in the table after messages are sent.
use mathlib.Core.List.{List, [], ◌∷◌, map}
use Prim.Native.Nat.{ℕ, zero, suc, ◌+◌, ◌≤◌, ◌<◌}
use native.Mathlib.Omega.{arith}
use lib.ListN.{get_or, set, replicate}
use lib.Dec.{eqb}
use Rattle.model.specs.declared.Message.{Message}
use Rattle.model.specs.Records.{free_slot}
use Rattle.model.specs.Table.{is_free, place, post, from, every_one, without, every_other}
use Rattle.choice.proofs.Tests.{if-ind}

-- ---- a list read by place, after a store

-- what stands at a place, related to what stood there
pub set-rel : {B : Type 0} (R : B → B → Type 0) (rr : (x : B) → R x x) (d : B) (l : List B) (i : ℕ) (x : B)
    → R (get_or l i d) x → (j : ℕ) → R (get_or l j d) (get_or (set l i x) j d)
set-rel R rr d [] i x r j = rr d
set-rel R rr d (y ∷ ys) zero x r zero = r
set-rel R rr d (y ∷ ys) zero x r (suc j) = rr (get_or ys j d)
set-rel R rr d (y ∷ ys) (suc i) x r zero = rr y
set-rel R rr d (y ∷ ys) (suc i) x r (suc j) = set-rel R rr d ys i x r j

-- what holds of each place and what stands there
pub set-each : {B : Type 0} (Q : ℕ → B → Type 0) (d : B) (l : List B) (i : ℕ) (x : B)
    → ((j : ℕ) → Q j (get_or l j d)) → Q i x → (j : ℕ) → Q j (get_or (set l i x) j d)
set-each Q d [] i x h q j = h j
set-each Q d (y ∷ ys) zero x h q zero = q
set-each Q d (y ∷ ys) zero x h q (suc j) = h (suc j)
set-each Q d (y ∷ ys) (suc i) x h q zero = h zero
set-each Q d (y ∷ ys) (suc i) x h q (suc j) = set-each (λ n. Q (suc n)) d ys i x (λ n. h (suc n)) q j

pub set_all : {B : Type 0} (Q : B → Type 0) (d : B) (l : List B) (i : ℕ) (x : B)
    → ((j : ℕ) → Q (get_or l j d)) → Q x → (j : ℕ) → Q (get_or (set l i x) j d)
set_all Q = set-each (λ j. Q)

-- what holds of the one value of a list of copies, and of what a read past its end gives
pub replicate-all : {B : Type 0} (Q : B → Type 0) (n : ℕ) (x d : B) → Q x → Q d → (i : ℕ) → Q (get_or (replicate n x) i d)
replicate-all Q zero x d q r i = r
replicate-all Q (suc n) x d q r zero = q
replicate-all Q (suc n) x d q r (suc i) = replicate-all Q n x d q r i

-- ---- every member of a list

pub data All {B : Type 0} (Q : B → Type 0) : List B → Type 0 where
  none : All Q []
  also : {x : B} {xs : List B} → Q x → All Q xs → All Q (x ∷ xs)

pub map-all : {B : Type 0} {R : ℕ → Type 0} (Q : B → Type 0) (f : ℕ → B) → ((k : ℕ) → R k → Q (f k)) → {l : List ℕ} → All R l → All Q (map f l)
map-all Q f h none = none
map-all Q f h (also {x} r rs) = also (h x r) (map-all Q f h rs)

from-below : (i n m : ℕ) → i + n ≤ m → All (λ (k : ℕ). k < m) (from i n)
unfolding from
from-below i zero m h = none
from-below i (suc n) m h = also {x = i} (omega arith) (from-below (suc i) n m (omega arith))

-- the addressees of a message to every one of n, and to every other one
pub every-one-below : (n : ℕ) → All (λ (k : ℕ). k < n) (every_one n)
every-one-below n = from-below 0 n n (omega arith)

without_all : (Q : ℕ → Type 0) (a : ℕ) {l : List ℕ} → All Q l → All Q (without a l)
unfolding without
without_all Q a none = none
without_all Q a (also {x} {xs} q qs) =
    if-ind (All Q) (eqb x a) (without a xs) (x ∷ without a xs) (λ e. without_all Q a qs) (λ e. also q (without_all Q a qs))

pub every-other-below : (a n : ℕ) → All (λ (k : ℕ). k < n) (every_other a n)
every-other-below a n = without_all (λ (k : ℕ). k < n) a (every-one-below n)

-- ---- the table after messages are sent

place-all : (Q : Message → Type 0) (m : Message) (t : List Message)
    → Q m → ((i : ℕ) → Q (get_or t i free_slot)) → (i : ℕ) → Q (get_or (place m t) i free_slot)
unfolding place
place-all Q m [] q h i = h i
place-all Q m (x ∷ t) q h i =
    if-ind (λ (u : List Message). Q (get_or u i free_slot)) (is_free x) (m ∷ t) (x ∷ place m t)
    (λ e. set_all Q free_slot (x ∷ t) 0 m h q i)
    (λ e. later (place-all Q m t q (λ n. h (suc n))) i)
  where
    later : ((i : ℕ) → Q (get_or (place m t) i free_slot)) → (i : ℕ) → Q (get_or (x ∷ place m t) i free_slot)
    later rest zero = h zero
    later rest (suc i) = rest i

pub post-all : (Q : Message → Type 0) {ms : List Message} → All Q ms → (t : List Message)
    → ((i : ℕ) → Q (get_or t i free_slot)) → (i : ℕ) → Q (get_or (post ms t) i free_slot)
unfolding post
post-all Q none t h = h
post-all Q (also {x = m} q qs) t h = post-all Q qs (place m t) (place-all Q m t q h)
