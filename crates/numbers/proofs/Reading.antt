-- How a reader of groups comes to its answer, and what each answer says of the bytes. Assumes nothing.
use mathlib.Core.Path.{◌≡◌, refl, sym, ap, ◌∙◌}
use mathlib.Core.Bool.{Bool, true, false, ◌&&◌}
use mathlib.Core.List.{List, [], ◌∷◌, ◌++◌}
use mathlib.Core.Logic.{◌⊎◌, inl, inr}
use Prim.Native.Nat.{ℕ, zero, suc, ◌+◌, ◌-◌, ◌*◌, ◌/◌, ◌%◌, ◌^◌, ◌<◌, ◌≤◌}
use native.Mathlib.Omega.{arith}
use native.Mathlib.Nat.{add_assoc, add-mul, mul_assoc, mul_comm, mod-add-div'}
use lib.Dec.{eqb, ltb}
use lib.ListN.{length, take, get_or}
use borrow.Author.Tests.{ltb-true, ltb-false, lt-ltb, le-ltb, ne_eqb}
use Rattle.std.specs.Prelude.{if◌then◌else◌}
use Rattle.std.specs.Prelude.{Err}
use Rattle.choice.specs.Refusals.{no_in}
use Rattle.numbers.specs.Coding.{Read, number_to, read_value, read_next, last_group, groups_from, form_in}
use Rattle.numbers.proofs.Forms.{form-last, form-more, less}

-- ---- the ways to an answer

-- no group may follow; the bytes end; the last group is refused; the last group ends a number; one group, and the rest
pub data Reads (most : ℕ) : ℕ → Bool → ℕ → ℕ → List ℕ → ℕ → Read → Type 0 where
  late : {later : Bool} {low weight : ℕ} {bs : List ℕ} {i : ℕ} → Reads most zero later low weight bs i (Err 12)
  cut : {g : ℕ} {later : Bool} {low weight i : ℕ} → Reads most (suc g) later low weight [] i (Err 11)
  bad : {g : ℕ} {later : Bool} {low weight b : ℕ} {bs : List ℕ} {i : ℕ} → b < 128 → Reads most (suc g) later low weight (b ∷ bs) i (Err 12)
  found : {g : ℕ} {later : Bool} {low weight b : ℕ} {bs : List ℕ} {i : ℕ} → b < 128 → (eqb b 0 && later) ≡ false → low + b * weight ≤ most → Reads most (suc g) later low weight (b ∷ bs) i (number_to (low + b * weight) (i + 1))
  more : {g : ℕ} {later : Bool} {low weight b : ℕ} {bs : List ℕ} {i : ℕ} {r : Read} → 128 ≤ b → Reads most g true (low + (b - 128) * weight) (weight * 128) bs (i + 1) r → Reads most (suc g) later low weight (b ∷ bs) i r

-- every answer comes by one of them
pub reads : (g : ℕ) (later : Bool) (most low weight : ℕ) (bs : List ℕ) (i : ℕ) → Reads most g later low weight bs i (groups_from g later most low weight bs i)
unfolding groups_from last_group
reads zero later most low weight bs i = late
reads (suc g) later most low weight [] i = cut
reads (suc g) later most low weight (b ∷ bs) i = go (reads g true most (low + (b - 128) * weight) (weight * 128) bs (i + 1)) (ltb b 128) refl
  where
    last : b < 128 → (t : Bool) → (eqb b 0 && later) ≡ t → (u : Bool) → ltb most (low + b * weight) ≡ u
        → Reads most (suc g) later low weight (b ∷ bs) i (if t then Err 12 else (if u then Err 12 else number_to (low + b * weight) (i + 1)))
    last h true e u f = bad h
    last h false e true f = bad h
    last h false e false f = found h e (ltb-false most (low + b * weight) f)

    go : Reads most g true (low + (b - 128) * weight) (weight * 128) bs (i + 1) (groups_from g true most (low + (b - 128) * weight) (weight * 128) bs (i + 1))
        → (t : Bool) → ltb b 128 ≡ t
        → Reads most (suc g) later low weight (b ∷ bs) i (if t then last_group later most low weight b (i + 1) else groups_from g true most (low + (b - 128) * weight) (weight * 128) bs (i + 1))
    go r true e = last (ltb-true b 128 e) (eqb b 0 && later) refl (ltb most (low + b * weight)) refl
    go r false e = more (ltb-false b 128 e) r

-- a refusal is no number
pub refused-number : {q : ℕ} {v n : ℕ} → ◌≡◌ {A = Read} (Err q) (number_to v n) → ⊥
refused-number e = let z : ◌≡◌ {A = ℕ} 0 1 = cc in omega arith

-- ---- what is read of a form

-- a group c of the weight w below x of the weight above it
shift : (low c w x : ℕ) → low + c * w + x * (w * 128) ≡ low + (c + x * 128) * w
shift low c w x = rw (add-mul c (x * 128) w, mul_assoc x 128 w, mul_comm 128 w) (add_assoc low (c * w) (x * (w * 128)))

-- the first group of x and the others
joins : (low w x : ℕ) → low + x % 128 * w + x / 128 * (w * 128) ≡ low + x * w
joins low w x = shift low (x % 128) w (x / 128) ∙ ap (λ (y : ℕ). low + y * w) (mod-add-div' x 128)

-- a form of one group
one-group : (g f : ℕ) (later : Bool) (most low weight x : ℕ) (after : List ℕ) (i : ℕ) → x < 128 → (eqb x 0 && later) ≡ false → low + x * weight ≤ most
    → groups_from (suc g) later most low weight (form_in (suc f) x ++ after) i ≡ number_to (low + x * weight) (i + length (form_in (suc f) x))
unfolding groups_from last_group
one-group g f later most low weight x after i h z m = rw (form-last f x h, lt-ltb x 128 h, z, le-ltb most (low + x * weight) m)

-- a form of several groups, by its first and the others
several : (g f : ℕ) (later : Bool) (most low weight x : ℕ) (after : List ℕ) (i : ℕ) → 128 ≤ x
    → groups_from g true most (low + x % 128 * weight) (weight * 128) (form_in f (x / 128) ++ after) (i + 1) ≡ number_to (low + x % 128 * weight + x / 128 * (weight * 128)) (i + 1 + length (form_in f (x / 128)))
    → groups_from (suc g) later most low weight (form_in (suc f) x ++ after) i ≡ number_to (low + x * weight) (i + length (form_in (suc f) x))
unfolding groups_from
several g f later most low weight x after i h r =
    let t : 128 ≤ x % 128 + 128 = omega arith in
    let c : x % 128 + 128 - 128 ≡ x % 128 = omega arith in
    let q : i + 1 + length (form_in f (x / 128)) ≡ i + suc (length (form_in f (x / 128))) = omega arith in
    rw (form-more f x h, le-ltb (x % 128 + 128) 128 t, c) (r ∙ rw (joins low weight x, q))

-- the shortest form of a number reads as the number
pub reads-form : (g f : ℕ) (later : Bool) (most low weight x : ℕ) (after : List ℕ) (i : ℕ) → g ≤ f → x < 128 ^ suc g → (eqb x 0 && later) ≡ false → low + x * weight ≤ most
    → groups_from (suc g) later most low weight (form_in (suc f) x ++ after) i ≡ number_to (low + x * weight) (i + length (form_in (suc f) x))
reads-form zero f later most low weight x after i l s z m = one-group zero f later most low weight x after i (omega arith) z m
reads-form (suc g) zero later most low weight x after i l s z m = absurd (omega arith)
reads-form (suc g) (suc f) later most low weight x after i l s z m = go (reads-form g f true most (low + x % 128 * weight) (weight * 128) (x / 128) after (i + 1)) (ltb x 128) refl
  where
    go : (g ≤ f → x / 128 < 128 ^ suc g → (eqb (x / 128) 0 && true) ≡ false → low + x % 128 * weight + x / 128 * (weight * 128) ≤ most
        → groups_from (suc g) true most (low + x % 128 * weight) (weight * 128) (form_in (suc f) (x / 128) ++ after) (i + 1) ≡ number_to (low + x % 128 * weight + x / 128 * (weight * 128)) (i + 1 + length (form_in (suc f) (x / 128))))
        → (t : Bool) → ltb x 128 ≡ t
        → groups_from (suc (suc g)) later most low weight (form_in (suc (suc f)) x ++ after) i ≡ number_to (low + x * weight) (i + length (form_in (suc (suc f)) x))
    go r true e = one-group (suc g) (suc f) later most low weight x after i (ltb-true x 128 e) z m
    go r false e =
        let h : 128 ≤ x = ltb-false x 128 e in
        let k : x / 128 ≡ 0 → ⊥ = λ (y : x / 128 ≡ 0). omega arith in
        several (suc g) (suc f) later most low weight x after i h (r (omega arith) (less (suc g) x s) (rw (ne_eqb (x / 128) 0 k)) (omega (arith, joins low weight x)))

-- ---- what a number that is read says of the bytes

-- a group that is not 0
not-zero : (b : ℕ) → (eqb b 0 && true) ≡ false → 0 < b
not-zero zero e = let z : ◌≡◌ {A = Bool} true false = e in let y : ◌≡◌ {A = ℕ} 0 1 = cc in absurd (omega arith)
not-zero (suc b) e = omega arith

-- the bytes begin with the shortest form of some x, and the number is x above what came before
pub record Found (f : ℕ) (later : Bool) (most low weight : ℕ) (bs : List ℕ) (i v n : ℕ) : Type 0 where
  pub x : ℕ
  pub value : v ≡ low + x * weight
  pub above : later ≡ true → 0 < x
  pub place : n ≡ i + length (form_in f x)
  pub inside : length (form_in f x) ≤ length bs
  pub bytes : take (length (form_in f x)) bs ≡ form_in f x
  pub within : v ≤ most

-- the last group
found-last : (f : ℕ) (later : Bool) (most low weight b : ℕ) (bs : List ℕ) (i v n : ℕ) → b < 128 → (eqb b 0 && later) ≡ false → low + b * weight ≤ most → number_to (low + b * weight) (i + 1) ≡ number_to v n
    → Found (suc f) later most low weight (b ∷ bs) i v n
found-last f later most low weight b bs i v n h z m e =
    let p : v ≡ low + b * weight = sym (ap (λ (r : Read). read_value r 0) e) in
    let q : n ≡ i + 1 = sym (ap (λ (r : Read). read_next r 0) e) in
    record {
      x = b;
      value = p;
      above = λ (t : later ≡ true). not-zero b (rw t at z);
      place = rw (form-last f b h) q;
      inside = rw (form-last f b h) (omega arith);
      bytes = rw (form-last f b h);
      within = omega arith;
    }

-- one group, and the others
found-more : (f : ℕ) (later : Bool) (most low weight b : ℕ) (bs : List ℕ) (i v n : ℕ) → 128 ≤ b → b < 256 → Found f true most (low + (b - 128) * weight) (weight * 128) bs (i + 1) v n
    → Found (suc f) later most low weight (b ∷ bs) i v n
found-more f later most low weight b bs i v n h l r =
    let y : ℕ = b - 128 + r.x * 128 in
    let a : 0 < r.x = r.above refl in
    let big : 128 ≤ y = omega arith in
    let c : y % 128 + 128 ≡ b = omega arith in
    let d : y / 128 ≡ r.x = omega arith in
    let e : form_in (suc f) y ≡ b ∷ form_in f r.x = form-more f y big ∙ rw (c, d) in
    record {
      x = y;
      value = r.value ∙ shift low (b - 128) weight r.x;
      above = λ (t : later ≡ true). omega arith;
      place = rw e (omega (arith, r.place));
      inside = rw e (omega (arith, r.inside));
      bytes = rw e (ap (λ (w : List ℕ). b ∷ w) r.bytes);
      within = r.within;
    }

pub found-form : {most g : ℕ} {later : Bool} {low weight : ℕ} {bs : List ℕ} {i : ℕ} {r : Read} → Reads most g later low weight bs i r → (f : ℕ) → g ≤ f → ((k : ℕ) → get_or bs k 0 < 256) → (v n : ℕ) → r ≡ number_to v n
    → Found f later most low weight bs i v n
found-form late f l h v n e = absurd (refused-number e)
found-form cut f l h v n e = absurd (refused-number e)
found-form (bad b) f l h v n e = absurd (refused-number e)
found-form (found s z m) zero l h v n e = absurd (omega arith)
found-form {most} (found {later = later} {low = low} {weight = weight} {b = b} {bs = bs} {i = i} s z m) (suc f) l h v n e = found-last f later most low weight b bs i v n s z m e
found-form (more s p) zero l h v n e = absurd (omega arith)
found-form {most} (more {later = later} {low = low} {weight = weight} {b = b} {bs = bs} {i = i} s p) (suc f) l h v n e =
    found-more f later most low weight b bs i v n s (h 0) (found-form p f (omega arith) (λ (k : ℕ). h (suc k)) v n e)

-- ---- refusals

-- 11 and 12 are the only refusals
pub reads-refusals : {most g : ℕ} {later : Bool} {low weight : ℕ} {bs : List ℕ} {i : ℕ} {r : Read} → Reads most g later low weight bs i r → (q : ℕ) → r ≡ Err q → (q ≡ 11) ⊎ (q ≡ 12)
reads-refusals late q e = inr (sym (ap no_in e))
reads-refusals cut q e = inl (sym (ap no_in e))
reads-refusals (bad b) q e = inr (sym (ap no_in e))
reads-refusals (found s z m) q e = absurd (refused-number (sym e))
reads-refusals (more s p) q e = reads-refusals p q e

-- the bytes end before the number: fewer are left than it may have groups, and each has its top bit set
pub record Cut (g : ℕ) (left : List ℕ) : Type 0 where
  pub few : length left < g
  pub top : (k : ℕ) → k < length left → 128 ≤ get_or left k 0

twelve-eleven : ◌≡◌ {A = Read} (Err 12) (Err 11) → ⊥
twelve-eleven e = let z : ◌≡◌ {A = ℕ} 12 11 = ap no_in e in omega arith

cut-more : {g b : ℕ} {bs : List ℕ} → 128 ≤ b → Cut g bs → Cut (suc g) (b ∷ bs)
cut-more {g} {b} {bs} h c = record { few = omega arith; top = top' }
  where
    top' : (k : ℕ) → k < length (b ∷ bs) → 128 ≤ get_or (b ∷ bs) k 0
    top' zero l = h
    top' (suc k) l = c.top k (omega arith)

cut-less : {g b : ℕ} {bs : List ℕ} → Cut (suc g) (b ∷ bs) → Cut g bs
cut-less c = record { few = omega arith; top = λ k l. c.top (suc k) (omega arith) }

-- 11 is given only where the bytes end before the number
pub reads-cut : {most g : ℕ} {later : Bool} {low weight : ℕ} {bs : List ℕ} {i : ℕ} {r : Read} → Reads most g later low weight bs i r → r ≡ Err 11 → Cut g bs
reads-cut late e = absurd (twelve-eleven e)
reads-cut cut e = record { few = omega arith; top = λ k l. absurd (omega arith) }
reads-cut (bad b) e = absurd (twelve-eleven e)
reads-cut (found s z m) e = absurd (refused-number (sym e))
reads-cut (more s p) e = cut-more s (reads-cut p e)

-- and wherever they do
pub cut-reads : {most g : ℕ} {later : Bool} {low weight : ℕ} {bs : List ℕ} {i : ℕ} {r : Read} → Reads most g later low weight bs i r → Cut g bs → r ≡ Err 11
cut-reads late c = absurd (omega arith)
cut-reads cut c = refl
cut-reads (bad b) c = absurd (omega (arith, c.top 0 (omega arith)))
cut-reads (found s z m) c = absurd (omega (arith, c.top 0 (omega arith)))
cut-reads (more s p) c = cut-reads p (cut-less c)
