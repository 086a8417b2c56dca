-- How a learner's places are read, tested and put.
use mathlib.Core.Bool.{Bool, true, ◌&&◌}
use mathlib.Core.List.{List, [], ◌∷◌, ◌++◌, append_assoc, map}
use mathlib.Core.Logic.{⊎_elim}
use mathlib.Core.Path.{◌≡◌, refl, sym, ap, ◌∙◌}
use Prim.Native.Nat.{ℕ, zero, suc, ◌+◌, ◌-◌, ◌*◌, ◌≤◌, ◌<◌, min}
use native.Mathlib.Nat.{min-eq_left, min-eq_right, min-le_right}
use native.Mathlib.Numerals.{add-one}
use native.Mathlib.Omega.{arith}
use lib.ListN.{length, get_or, set, take, drop, replicate, length-set, length-append, length-replicate}
use lib.Seq.{sets, sets-eq, take_at, drop_at, split_at, length-take-le, set_split}
use borrow.Author.Tests.{eq-eqb}
use Rattle.std.specs.List.{range_with_len, list_all}
use Rattle.std.proofs.lemmas.List.FromFn.{map-range_with_len_more}
use Rattle.sets.specs.Scans.{fits}
use Rattle.sizes.specs.Sizes.{sizes_in_range}
use Rattle.sizes.specs.declared.Sizes.{Sizes}
use Rattle.forms.proofs.Steps.{sets-append}
use Rattle.model.specs.Records.{unheard}
use Rattle.model.specs.Ranges.{all, heard_in_range, learner_in_range}
use Rattle.model.specs.Rules.{listening}
use Rattle.model.specs.declared.Heard.{Heard}
use Rattle.model.specs.declared.Learner.{Learner}
use Rattle.model.specs.declared.Message.{Message}
use Rattle.model.proofs.RuleLaws.{listening-heard}
use Rattle.model.proofs.Moments.{earlier}
use Rattle.layouts.specs.Layout.{sizes_of, word_bytes, set_size, set_at, set_bytes, number_bytes, acceptors_bytes, is_flag, flag_bytes, flagged, flagged_size, heard_size, heard_place, heard_bytes, heard_at, places_bytes, places_at, is_learner, learner_at, learner_bytes}
use Rattle.layouts.proofs.Parts.{put_whole, learner-length, learner-sizes, few-proposers}

-- ---- reading

pub length-places-at : (n : ℕ) (bytes : List ℕ) → length (places_at n bytes) ≡ n
unfolding places_at
length-places-at zero bytes = refl
length-places-at (suc n) bytes =
    length-append (places_at n bytes) (heard_at bytes (heard_place n) ∷ []) ∙ omega (arith, length-places-at n bytes)

-- the first i places are read, of eight
abbrev pub places : ℕ → List ℕ → List Heard
places i bytes = places_at i bytes ++ replicate (8 - i) unheard

eight-read : (i : ℕ) (bytes : List ℕ) → i ≤ 8 → length (places i bytes) ≡ 8
eight-read i bytes h =
    length-append (places_at i bytes) (replicate (8 - i) unheard) ∙ omega (arith, length-places-at i bytes, length-replicate (8 - i) unheard)

-- a greater number than eight leaves none unread
pub eight-left : (p : ℕ) → 8 - min p 8 ≡ 8 - p
eight-left p =
    ⊎_elim
    (λ (h : p ≤ 8). ap (λ (n : ℕ). 8 - n) (min-eq_left h))
    (λ (h : 8 ≤ p). let e : 8 - p ≡ 0 = omega arith in ap (λ (n : ℕ). 8 - n) (min-eq_right h) ∙ sym e)
    (earlier p 8)

pub eight-heard : (p : ℕ) (bytes : List ℕ) → length (learner_at p bytes).heard ≡ 8
unfolding learner_at
eight-heard p bytes = rw (sym (eight-left p)) (eight-read (min p 8) bytes (min-le_right p 8))

pub eight-listening : (a p : ℕ) (bytes : List ℕ) (m : Message) → length (listening a (learner_at p bytes) m).heard ≡ 8
eight-listening a p bytes m = ap length (listening-heard a (learner_at p bytes) m) ∙ simp length-set (eight-heard p bytes)

-- ---- testing

-- the first places, by the numbers of their proposers
places_listed : (n : ℕ) (bytes : List ℕ) → places_at n bytes ≡ map (λ i. heard_at bytes (heard_place i)) (range_with_len 0 n)
unfolding places_at
places_listed zero bytes = refl
places_listed (suc n) bytes =
    let f = λ (i : ℕ). heard_at bytes (heard_place i) in
    ap (λ (hs : List Heard). hs ++ f n ∷ []) (places_listed n bytes)
    ∙ sym (map-range_with_len_more f 0 n n (omega arith))
    ∙ ap (λ (k : ℕ). map f (range_with_len 0 k)) (add-one n)

all_mapped : {A B : Type 0} (f : B → Bool) (g : A → B) (xs : List A) → list_all (λ x. f (g x)) xs ≡ all f (map g xs)
unfolding all
all_mapped f g [] = refl
all_mapped f g (x ∷ xs) = ap (λ (t : Bool). f (g x) && t) (all_mapped f g xs)

pub places-tested : (z : Sizes) (n : ℕ) (bytes : List ℕ)
    → list_all (λ i. heard_in_range z (heard_at bytes (heard_place i))) (range_with_len 0 n) ≡ all (heard_in_range z) (places_at n bytes)
places-tested z n bytes =
    all_mapped (heard_in_range z) (λ i. heard_at bytes (heard_place i)) (range_with_len 0 n) ∙ ap (λ (hs : List Heard). all (heard_in_range z) hs) (sym (places_listed n bytes))

-- what is left to test of a learner's record after its sizes, its length, its flag and what it learnt
pub learner-left : (p a s : ℕ) (bytes : List ℕ) {t : Bool} → sizes_in_range (sizes_of p a s) ≡ true → length bytes ≡ heard_place p → is_flag bytes 0 ≡ true → fits (set_at bytes 1) s ≡ t
    → is_learner p a s bytes ≡ (t && all (heard_in_range (sizes_of p a s)) (places_at p bytes))
unfolding is_learner learner_in_range learner_at
learner-left p a s bytes e n f g =
    rw (e, eq-eqb (length bytes) (heard_place p) n, f, g, min-eq_left (few-proposers p a s e), take_at (places_at p bytes) (replicate (8 - p) unheard) p (length-places-at p bytes))

-- ---- writing

pub length-heard : (h : Heard) → length (heard_bytes h) ≡ heard_size
unfolding word_bytes heard_bytes
length-heard h = refl

pub length-places : (hs : List Heard) → length (places_bytes hs) ≡ heard_size * length hs
unfolding places_bytes
length-places [] = refl
length-places (h ∷ hs) = length-append (heard_bytes h) (places_bytes hs) ∙ omega (arith, length-heard h, length-places hs)

pub places-append : (hs ks : List Heard) → places_bytes (hs ++ ks) ≡ places_bytes hs ++ places_bytes ks
unfolding places_bytes
places-append [] ks = refl
places-append (h ∷ hs) ks = ap (λ (l : List ℕ). heard_bytes h ++ l) (places-append hs ks) ∙ sym (append_assoc (heard_bytes h) (places_bytes hs) (places_bytes ks))

-- bytes put over as many in the middle
pub sets-middle : (us old rest new : List ℕ) (at : ℕ) → length us ≡ at → length old ≡ length new → sets (us ++ old ++ rest) at new ≡ us ++ new ++ rest
sets-middle us old rest new at e f =
    let l = us ++ old ++ rest in
    let n : length (us ++ old) ≡ at + length new = length-append us old ∙ omega arith in
    let m : at + length new ≤ length l = omega (arith, length-append (us ++ old) rest) in
    sets-eq new l at m ∙ rw (ap (take at) (append_assoc us old rest) ∙ take_at us (old ++ rest) at e, drop_at (us ++ old) rest (at + length new) n)

-- one place put over
pub put-over : (front : List ℕ) (hs : List Heard) (i : ℕ) (h : Heard) → length front ≡ flagged_size → i < length hs
    → sets (front ++ places_bytes hs) (heard_place i) (heard_bytes h) ≡ front ++ places_bytes (set hs i h)
unfolding places_bytes
put-over front hs i h f lt =
    let us = places_bytes (take i hs) in
    let rest = places_bytes (drop (suc i) hs) in
    let old = get_or hs i unheard in
    let parts : (k : Heard) → front ++ places_bytes (take i hs ++ k ∷ drop (suc i) hs) ≡ front ++ us ++ heard_bytes k ++ rest =
    λ k. ap (λ (l : List ℕ). front ++ l) (places-append (take i hs) (k ∷ drop (suc i) hs)) ∙ sym (append_assoc (front ++ us) (heard_bytes k) rest ∙ append_assoc front us (heard_bytes k ++ rest)) in
    let at : length (front ++ us) ≡ heard_place i = length-append front us ∙ omega (arith, length-places (take i hs), length-take-le i hs (omega arith)) in
    ap (λ (l : List ℕ). sets l (heard_place i) (heard_bytes h)) (ap (λ (ks : List Heard). front ++ places_bytes ks) (split_at hs i unheard lt) ∙ parts old)
    ∙ sets-middle (front ++ us) (heard_bytes old) rest (heard_bytes h) (heard_place i) at (length-heard old ∙ sym (length-heard h))
    ∙ sym (ap (λ (ks : List Heard). front ++ places_bytes ks) (set_split hs i h lt) ∙ parts h)

-- the three fields of a place, put one after the other
pub put-heard-fields : (b₀ : List ℕ) (at : ℕ) {b₁ b₂ b₃ : List ℕ} (h : Heard)
    → b₁ ≡ sets b₀ at (number_bytes h.number)
    → b₂ ≡ sets b₁ (at + 2) (set_bytes h.set)
    → b₃ ≡ sets b₂ (at + (2 + set_size)) (acceptors_bytes h.acceptors)
    → b₃ ≡ sets b₀ at (heard_bytes h)
unfolding word_bytes heard_bytes
put-heard-fields b₀ at h e₁ e₂ e₃ =
    let n = number_bytes h.number in
    let v = set_bytes h.set in
    let q = acceptors_bytes h.acceptors in
    e₃ ∙ ap (λ (l : List ℕ). sets l (at + (2 + set_size)) q) (e₂ ∙ ap (λ (l : List ℕ). sets l (at + 2) v) e₁ ∙ sym (sets-append n v b₀ at)) ∙ sym (sets-append (n ++ v) q b₀ at)

pub length-learner : (p : ℕ) (l : Learner) → p ≤ length l.heard → length (learner_bytes p l) ≡ heard_place p
unfolding word_bytes learner_bytes
length-learner p l h =
    let hs = take p l.heard in
    length-append (flagged l.alive l.learnt) (places_bytes hs) ∙ omega (arith, length-places hs, length-take-le p l.heard h)

pub learner-whole : (p a s : ℕ) (bytes : List ℕ) (l : Learner) → length l.heard ≡ 8 → is_learner p a s bytes ≡ true → sets bytes 0 (learner_bytes p l) ≡ learner_bytes p l
learner-whole p a s bytes l h e =
    let m : p ≤ length l.heard = omega (arith, few-proposers p a s (learner-sizes p a s bytes e)) in
    put_whole bytes (learner_bytes p l) (learner-length p a s bytes e ∙ sym (length-learner p l m))

-- the parts of a learner's record, put one after the other
pub put-learner-parts : (b₀ : List ℕ) (p : ℕ) {b₁ b₂ b₃ : List ℕ} (l : Learner) {hs : List Heard}
    → hs ≡ take p l.heard
    → b₁ ≡ sets b₀ 0 (flag_bytes l.alive)
    → b₂ ≡ sets b₁ 1 (set_bytes l.learnt)
    → b₃ ≡ sets b₂ flagged_size (places_bytes hs)
    → b₃ ≡ sets b₀ 0 (learner_bytes p l)
unfolding word_bytes learner_bytes
put-learner-parts b₀ p l {hs = hs} own e₁ e₂ e₃ =
    e₃
    ∙ ap (λ (b : List ℕ). sets b flagged_size (places_bytes hs)) (e₂ ∙ ap (λ (b : List ℕ). sets b 1 (set_bytes l.learnt)) e₁)
    ∙ sym (sets-append (flagged l.alive l.learnt) (places_bytes hs) b₀ 0)
    ∙ ap (λ (ks : List Heard). sets b₀ 0 (flagged l.alive l.learnt ++ places_bytes ks)) own
