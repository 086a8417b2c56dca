-- The shortest form of a number, group by group, and what is left of it to put. Assumes nothing.
use mathlib.Core.Path.{◌≡◌, refl, sym, ap, ◌∙◌}
use mathlib.Core.Bool.{Bool, true, false}
use mathlib.Core.List.{List, [], ◌∷◌}
use Prim.Native.Nat.{ℕ, zero, suc, ◌+◌, ◌/◌, ◌%◌, ◌^◌, ◌<◌, ◌≤◌}
use native.Mathlib.Omega.{arith}
use native.Mathlib.Nat.{pow-suc, div-lt_iff_lt-mul, le-div_iff_mul-le}
use native.Mathlib.Numerals.{add-one}
use lib.Dec.{ltb, lit<}
use lib.ListN.{length, get_or, set, length-set}
use lib.Seq.{sets}
use borrow.Author.Tests.{ltb-true, lt-ltb, le-ltb}
use Rattle.std.specs.Prelude.{if◌then◌else◌}
use Rattle.numbers.specs.Coding.{form_in, form, put_end}
use Rattle.numbers.proofs.Ends.{Ends, sets-out, end-cons}

-- more than one group
pub form-more : (g x : ℕ) → 128 ≤ x → form_in (suc g) x ≡ (x % 128 + 128) ∷ form_in g (x / 128)
unfolding form_in
form-more g x h = rw (le-ltb x 128 h)

-- one group
pub form-last : (g x : ℕ) → x < 128 → form_in (suc g) x ≡ x ∷ []
unfolding form_in
form-last g x h = rw (lt-ltb x 128 h)

-- a form has a byte
pub form-in-some : (g x : ℕ) → 1 ≤ length (form_in (suc g) x)
unfolding form_in
form-in-some g x = go (ltb x 128)
  where
    go : (t : Bool) → 1 ≤ length (if t then x ∷ [] else (x % 128 + 128) ∷ form_in g (x / 128))
    go true = omega arith
    go false = omega arith

-- a form in g groups has at most g bytes
pub form-in-most : (g x : ℕ) → length (form_in g x) ≤ g
unfolding form_in
form-in-most zero x = omega arith
form-in-most (suc g) x = go (form-in-most g (x / 128)) (ltb x 128)
  where
    go : length (form_in g (x / 128)) ≤ g → (t : Bool) → length (if t then x ∷ [] else (x % 128 + 128) ∷ form_in g (x / 128)) ≤ suc g
    go h true = omega arith
    go h false = omega arith

-- one group less is left above the first
pub less : (g x : ℕ) → x < 128 ^ suc g → x / 128 < 128 ^ g
less g x h = (div-lt_iff_lt-mul (lit< tt)).1 (rw (pow-suc 128 g) at h)

-- a number below 128 ^ (g + 1) has at most g + 1 groups, whatever its form may take
pub form-short : (g f x : ℕ) → x < 128 ^ suc g → length (form_in f x) ≤ suc g
unfolding form_in
form-short g zero x s = omega arith
form-short zero (suc f) x s = rw (form-last f x (omega arith)) (omega arith)
form-short (suc g) (suc f) x s = go (form-short g f (x / 128) (less (suc g) x s)) (ltb x 128)
  where
    go : length (form_in f (x / 128)) ≤ suc g → (t : Bool) → length (if t then x ∷ [] else (x % 128 + 128) ∷ form_in f (x / 128)) ≤ suc (suc g)
    go h true = omega arith
    go h false = omega arith

-- a number below 128 ^ (g + 1), and not below 128 ^ g, has g + 1 groups
pub form-size : (g f x : ℕ) → g ≤ f → (0 < g → 128 ^ g ≤ x) → x < 128 ^ suc g → length (form_in (suc f) x) ≡ suc g
form-size zero f x l b s = rw (form-last f x (omega arith))
form-size (suc g) zero x l b s = absurd (omega arith)
form-size (suc g) (suc f) x l b s =
    let h = rw (pow-suc 128 g) at (b (omega arith)) in
    rw (form-more (suc f) x (omega arith)) (ap suc (form-size g f (x / 128) (omega arith) (λ z. (le-div_iff_mul-le (lit< tt)).1 h) (less (suc g) x s)))

-- a list of bytes
abbrev pub Bytes : List ℕ → Type 0
Bytes s = (i : ℕ) → get_or s i 0 < 256

-- a form is bytes
pub form-in-bytes : (g x : ℕ) → Bytes (form_in g x)
unfolding form_in
form-in-bytes zero x i = omega arith
form-in-bytes (suc g) x i = go (form-in-bytes g (x / 128)) (ltb x 128) refl i
  where
    go : ((k : ℕ) → get_or (form_in g (x / 128)) k 0 < 256) → (t : Bool) → ltb x 128 ≡ t → (k : ℕ) → get_or (if t then x ∷ [] else (x % 128 + 128) ∷ form_in g (x / 128)) k 0 < 256
    go r true e zero = omega (arith, ltb-true x 128 e)
    go r true e (suc k) = omega arith
    go r false e zero = omega arith
    go r false e (suc k) = r k

-- x is left of v, to be put from i on; what the whole comes to is fixed
pub record Left (d₀ : List ℕ) (at v : ℕ) (d : List ℕ) (i x : ℕ) : Type 0 where
  pub g : ℕ
  pub small : x < 128 ^ suc g
  pub same : length d ≡ length d₀
  pub ends : put_end (form_in (suc g) x) d i ≡ put_end (form v) d₀ at
  pub left : sets d i (form_in (suc g) x) ≡ sets d₀ at (form v)

-- before the first group
pub begin : (d : List ℕ) (at v : ℕ) → v < 2 ^ 64 → Left d at v d at v
unfolding form
begin d at v h = record { g = 9; small = omega arith; same = refl; ends = refl; left = refl }

module _ {d₀ : List ℕ} {at v : ℕ} {d : List ℕ} {i x : ℕ} (l : Left d₀ at v d i x) where
  -- after one group of several
  pub more : i < length d → 128 ≤ x → Left d₀ at v (set d i (x % 128 + 128)) (i + 1) (x / 128)
  more r h = go l.g l.small l.ends l.left
    where
      go : (g : ℕ) → x < 128 ^ suc g → put_end (form_in (suc g) x) d i ≡ put_end (form v) d₀ at → sets d i (form_in (suc g) x) ≡ sets d₀ at (form v) → Left d₀ at v (set d i (x % 128 + 128)) (i + 1) (x / 128)
      go zero s e f = absurd (omega arith)
      go (suc g) s e f = record {
        g = g;
        small = less (suc g) x s;
        same = length-set d i (x % 128 + 128) ∙ l.same;
        ends = end-cons (x % 128 + 128) (form_in (suc g) (x / 128)) d i r ∙ rw (form-more (suc g) x h) at e;
        left = rw (add-one i) (rw (form-more (suc g) x h) at f);
      }

  -- after the last group
  pub last : i < length d → x < 128 → Ends (form v) d₀ at (i + 1) (set d i x)
  unfolding put_end
  last r h = (let q = rw (form-last l.g x h) at l.ends in omega arith, rw (form-last l.g x h) at l.left)

  -- where the buffer ends
  pub full : length d ≤ i → Ends (form v) d₀ at i d
  unfolding put_end
  full h = (omega (arith, l.ends), sym (sets-out (form_in (suc l.g) x) d i h) ∙ l.left)
