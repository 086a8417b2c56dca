-- The laws of the layouts: reading what was written gives the record back, and writing what was read gives the bytes back. So a record has one written form.
use mathlib.Core.Bool.{Bool, true, false}
use mathlib.Core.List.{List, [], ◌∷◌, ◌++◌, append-nil}
use mathlib.Core.Logic.{⊎_elim}
use mathlib.Core.Path.{◌≡◌, refl, sym, ap, ◌∙◌}
use Prim.Native.Nat.{ℕ, zero, suc, ◌+◌, ◌-◌, ◌*◌, ◌/◌, ◌%◌, ◌^◌, ◌≤◌, ◌<◌}
use native.Mathlib.Nat.{not-suc-le-zero, le_of_suc-le-suc, eq-or-lt_of_le, pow-suc, div-add-mod', min-eq_left}
use native.Mathlib.Omega.{arith}
use lib.Arith.{digits_div, digits_mod}
use lib.Dec.{eqb}
use lib.ListN.{length, get_or, set, take, drop, replicate, take-append-drop, get_or-append}
use lib.Seq.{sets, set-get_or, get_or_at, get_or-drop, drop-cons, drop_at, drop-drop, take-suc, take_at, take_all, take-set-lt, length-take-le}
use borrow.Author.Tests.{leb-true}
use Rattle.std.specs.Prelude.{if◌then◌else◌}
use Rattle.sets.specs.Scans.{most_scans, fits, first_word, of_first_word}
use Rattle.sets.specs.declared.scans.Scans.{Scans}
use Rattle.sets.proofs.ScanLaws.{first-of-first, of-first-word, first-within}
use Rattle.sizes.specs.Sizes.{sizes_in_range}
use Rattle.sizes.specs.declared.Sizes.{Sizes}
use Rattle.sizes.proofs.SizeLaws.{bounds}
use Rattle.forms.proofs.Steps.{sets-append}
use Rattle.model.specs.Records.{unheard, heard_of}
use Rattle.model.specs.Ranges.{all, acceptor_in_range, proposer_in_range, heard_in_range, learner_in_range}
use Rattle.model.specs.declared.Acceptor.{Acceptor}
use Rattle.model.specs.declared.Heard.{Heard}
use Rattle.model.specs.declared.Learner.{Learner}
use Rattle.model.specs.declared.Proposer.{Proposer}
use Rattle.choice.proofs.Tests.{and_l, and_r}
use Rattle.layouts.specs.Layout.{word_at, word_bytes, set_size, set_at, set_bytes, is_flag, flag_at, flag_bytes, flagged, flagged_size, is_acceptor, acceptor_at, acceptor_bytes, buffered_place, proposed_place, gathered_place, number_place, acknowledged_place, rejected_place, decided_place, is_proposer, proposer_at, proposer_bytes, heard_size, heard_place, heard_at, heard_bytes, places_at, places_bytes, is_learner, learner_at, learner_bytes}
use Rattle.layouts.proofs.Parts.{put_whole, proposer-whole, put-fields, acceptor-length, learner-sizes, few-proposers}
use Rattle.layouts.proofs.Places.{eight-heard, length-places-at, length-places, places-append, sets-middle, put-over, put-heard-fields, learner-whole, put-learner-parts}

-- bytes are below 256
abbrev pub AreBytes : List ℕ → Type 0
AreBytes bytes = (k : ℕ) → get_or bytes k 0 < 256

-- ---- numbers

word-past : (n x : ℕ) (bytes : List ℕ) (at : ℕ) → word_at n (x ∷ bytes) (suc at) ≡ word_at n bytes at
unfolding word_at
word-past zero x bytes at = refl
word-past (suc n) x bytes at = ap (λ (w : ℕ). w * 256 + get_or bytes at 0) (word-past n x bytes (suc at))

pub word_back : (n word : ℕ) → word < 256 ^ n → word_at n (word_bytes n word) 0 ≡ word
unfolding word_at word_bytes
word_back zero word h = omega arith
word_back (suc n) word h =
    let t = word_bytes n (word / 256) in
    let m : word / 256 < 256 ^ n = omega (arith, rw (pow-suc 256 n) at h) in
    ap (λ (w : ℕ). w * 256 + word % 256) (word-past n (word % 256) t 0 ∙ word_back n (word / 256) m) ∙ div-add-mod' word 256

pub word_same : (n : ℕ) (bytes : List ℕ) → AreBytes bytes → (at : ℕ) → sets bytes at (word_bytes n (word_at n bytes at)) ≡ bytes
unfolding word_at word_bytes
word_same zero bytes b at = refl
word_same (suc n) bytes b at =
    rw (digits_mod (word_at n bytes (suc at)) (b at), digits_div (word_at n bytes (suc at)) (b at), set-get_or bytes at 0) (word_same n bytes b (suc at))

-- ---- flags

flag-back : (t : Bool) → eqb (if t then 1 else 0) 1 ≡ t
flag-back true = refl
flag-back false = refl

flag-value : (n : ℕ) → n ≤ 1 → (if eqb n 1 then 1 else 0) ≡ n
flag-value zero h = refl
flag-value (suc zero) h = refl
flag-value (suc (suc n)) h = absurd (not-suc-le-zero (le_of_suc-le-suc h))

flag_same : (bytes : List ℕ) (at : ℕ) → is_flag bytes at ≡ true → sets bytes at (flag_bytes (flag_at bytes at)) ≡ bytes
flag_same bytes at e = rw (flag-value (get_or bytes at 0) (leb-true (get_or bytes at 0) 1 e)) (set-get_or bytes at 0)

-- ---- sets

set_back : (z : Sizes) (v : Scans) → sizes_in_range z ≡ true → fits v z.scans ≡ true → set_at (set_bytes v) 0 ≡ v
unfolding most_scans
set_back z v e f =
    let s = (bounds z e).few-scans in
    ap of_first_word (word_back 8 (first_word v) (first-within v z.scans f s)) ∙ of-first-word v z.scans f s

pub set_same : (bytes : List ℕ) → AreBytes bytes → (at : ℕ) → sets bytes at (set_bytes (set_at bytes at)) ≡ bytes
set_same bytes b at =
    ap (λ (w : ℕ). sets bytes at (word_bytes 8 w)) (first-of-first (word_at 8 bytes at)) ∙ word_same 8 bytes b at

-- ---- an acceptor's record

module _ (z : Sizes) (q : Acceptor) (e : sizes_in_range z ≡ true) (x : acceptor_in_range z q ≡ true) where
  accepted-fits : fits q.accepted z.scans ≡ true
  unfolding acceptor_in_range
  accepted-fits = x

  pub acceptor-back : acceptor_at (acceptor_bytes q) ≡ q
  unfolding acceptor_at acceptor_bytes word_at word_bytes
  acceptor-back =
      let v = set_back z q.accepted e accepted-fits in
      λ i. record { alive = flag-back q.alive i; accepted = v i }

pub acceptor-same : (s : ℕ) (bytes : List ℕ) → AreBytes bytes → is_acceptor s bytes ≡ true → acceptor_bytes (acceptor_at bytes) ≡ bytes
unfolding is_acceptor acceptor_at acceptor_bytes word_bytes
acceptor-same s bytes b e =
    let f : is_flag bytes 0 ≡ true = search (and_l, and_r) depth 9 in
    let g = flag_same bytes 0 f in
    sym (put_whole bytes (acceptor_bytes (acceptor_at bytes)) (acceptor-length s bytes e))
    ∙ ap (λ (l : List ℕ). sets l 1 (set_bytes (set_at bytes 1))) g
    ∙ set_same bytes b 1

-- ---- a proposer's record

module _ (z : Sizes) (p : Proposer) (e : sizes_in_range z ≡ true) (x : proposer_in_range z p ≡ true) where
  pub proposer-back : proposer_at (proposer_bytes p) ≡ p
  unfolding proposer_in_range proposer_at proposer_bytes word_at word_bytes
  proposer-back =
      let n : p.number ≤ 1_000 = search (and_l, and_r, leb-true) depth 9 in
      let v₁ = set_back z p.buffered e (search (and_l, and_r) depth 12) in
      let v₂ = set_back z p.proposed e (search (and_l, and_r) depth 12) in
      let v₃ = set_back z p.gathered e (search (and_l, and_r) depth 12) in
      let v₄ = set_back z p.decided e (search (and_l, and_r) depth 12) in
      let w = word_back 2 p.number (omega arith) in
      λ i. record {
        alive = flag-back p.alive i;
        active = flag-back p.active i;
        buffered = v₁ i;
        proposed = v₂ i;
        gathered = v₃ i;
        number = w i;
        acknowledged = p.acknowledged;
        rejected = p.rejected;
        decided = v₄ i;
      }

pub proposer-same : (a s : ℕ) (bytes : List ℕ) → AreBytes bytes → is_proposer a s bytes ≡ true → proposer_bytes (proposer_at bytes) ≡ bytes
unfolding is_proposer proposer_at
proposer-same a s bytes b e =
    let f : is_flag bytes 0 ≡ true = search (and_l, and_r) depth 9 in
    let g : is_flag bytes 1 ≡ true = search (and_l, and_r) depth 9 in
    sym
    (put-fields
    bytes
    (proposer_at bytes)
    (sym (flag_same bytes 0 f))
    (sym (flag_same bytes 1 g))
    (sym (set_same bytes b buffered_place))
    (sym (set_same bytes b proposed_place))
    (sym (set_same bytes b gathered_place))
    (sym (word_same 2 bytes b number_place))
    (sym (set-get_or bytes acknowledged_place 0))
    (sym (set-get_or bytes rejected_place 0))
    (sym (set_same bytes b decided_place))
    ∙ proposer-whole a s bytes (proposer_at bytes) e)

-- ---- a learner's record

-- the places of the run's own proposers; past them nothing is heard
abbrev pub own_places : ℕ → Learner → Learner
own_places p l = record { alive = l.alive; learnt = l.learnt; heard = take p l.heard ++ replicate (8 - p) unheard }

word-drop : (n : ℕ) (bytes : List ℕ) (k at : ℕ) → word_at n (drop k bytes) at ≡ word_at n bytes (k + at)
unfolding word_at
word-drop zero bytes k at = refl
word-drop (suc n) bytes k at =
    let p : k + suc at ≡ suc (k + at) = omega arith in
    rw (get_or-drop k bytes at 0) (ap (λ (w : ℕ). w * 256 + get_or bytes (k + at) 0) (word-drop n bytes k (suc at) ∙ ap (word_at n bytes) p))

-- a place is read in what follows its beginning
heard-drop : (bytes : List ℕ) (k : ℕ) → heard_at (drop k bytes) 0 ≡ heard_at bytes k
unfolding heard_at
heard-drop bytes k =
    let z : k + 0 ≡ k = omega arith in
    λ i. record {
      number = (word-drop 2 bytes k 0 ∙ ap (word_at 2 bytes) z) i;
      set = of_first_word (word-drop 8 bytes k 2 i);
      acceptors = record { bits = get_or-drop k bytes (2 + set_size) 0 i };
    }

heard-back : (z : Sizes) (h : Heard) (rest : List ℕ) → sizes_in_range z ≡ true → heard_in_range z h ≡ true → heard_at (heard_bytes h ++ rest) 0 ≡ h
unfolding heard_in_range heard_at heard_bytes word_at word_bytes
heard-back z h rest e x =
    let n : h.number ≤ 1_000 = search (and_l, and_r, leb-true) depth 9 in
    let w = word_back 2 h.number (omega arith) in
    let v = set_back z h.set e (search (and_l, and_r) depth 12) in
    λ i. record { number = w i; set = v i; acceptors = h.acceptors }

drop-places : (n : ℕ) (hs : List Heard) → n ≤ length hs → drop (heard_size * n) (places_bytes hs) ≡ places_bytes (drop n hs)
drop-places n hs h =
    let e : places_bytes hs ≡ places_bytes (take n hs) ++ places_bytes (drop n hs) = ap places_bytes (sym (take-append-drop n hs)) ∙ places-append (take n hs) (drop n hs) in
    rw e (drop_at (places_bytes (take n hs)) (places_bytes (drop n hs)) (heard_size * n) (length-places (take n hs) ∙ ap (λ (k : ℕ). heard_size * k) (length-take-le n hs h)))

module _ (z : Sizes) (front : List ℕ) (hs : List Heard) (f : length front ≡ flagged_size) (e : sizes_in_range z ≡ true) where
  place-back : (n : ℕ) → n < length hs → heard_in_range z (get_or hs n unheard) ≡ true → heard_at (front ++ places_bytes hs) (heard_place n) ≡ get_or hs n unheard
  unfolding places_bytes
  place-back n h x =
      let bytes = front ++ places_bytes hs in
      let d : drop (heard_place n) bytes ≡ heard_bytes (get_or hs n unheard) ++ places_bytes (drop (suc n) hs) =
      sym (drop-drop (heard_size * n) flagged_size bytes) ∙ ap (drop (heard_size * n)) (drop_at front (places_bytes hs) flagged_size f) ∙ drop-places n hs (omega arith) ∙ ap places_bytes (drop-cons hs n unheard h) in
      sym (heard-drop bytes (heard_place n)) ∙ ap (λ (l : List ℕ). heard_at l 0) d ∙ heard-back z (get_or hs n unheard) (places_bytes (drop (suc n) hs)) e x

  places-back : (n : ℕ) → n ≤ length hs → ((i : ℕ) → i < n → heard_in_range z (get_or hs i unheard) ≡ true) → places_at n (front ++ places_bytes hs) ≡ take n hs
  unfolding places_at
  places-back zero h x = refl
  places-back (suc n) h x =
      ap (λ (l : List Heard). l ++ heard_at (front ++ places_bytes hs) (heard_place n) ∷ []) (places-back n (omega arith) (λ i j. x i (omega arith)))
      ∙ ap (λ (g : Heard). take n hs ++ g ∷ []) (place-back n h (x n (omega arith)))
      ∙ sym (take-suc hs n unheard h)

every : {B : Type 0} (f : B → Bool) (d : B) (l : List B) (i : ℕ) → i < length l → all f l ≡ true → f (get_or l i d) ≡ true
unfolding all
every f d [] i h e = absurd (not-suc-le-zero h)
every f d (x ∷ xs) zero h e = and_l (f x) (all f xs) e
every f d (x ∷ xs) (suc i) h e = every f d xs i (le_of_suc-le-suc h) (and_r (f x) (all f xs) e)

module _ (z : Sizes) (l : Learner) (many : z.proposers ≤ length l.heard) (e : sizes_in_range z ≡ true) (x : learner_in_range z l ≡ true) where
  few : z.proposers ≤ 8
  unfolding sizes_in_range
  few = search (and_l, and_r, leb-true) depth 9

  own : List Heard
  own = take z.proposers l.heard

  own-many : length own ≡ z.proposers
  unfolding own
  own-many = length-take-le z.proposers l.heard many

  own_range : (i : ℕ) → i < z.proposers → heard_in_range z (get_or own i unheard) ≡ true
  unfolding learner_in_range own
  own_range i h = every (heard_in_range z) unheard own i (omega (arith, own-many)) (search (and_l, and_r) depth 9)

  learnt-fits : fits l.learnt z.scans ≡ true
  unfolding learner_in_range
  learnt-fits = search and_l depth 9

  own_back : places_at z.proposers (learner_bytes z.proposers l) ≡ own
  unfolding learner_bytes own word_bytes
  own_back =
      places-back z (flagged l.alive l.learnt) own refl e z.proposers (omega (arith, own-many)) own_range
      ∙ take_all z.proposers own (omega (arith, own-many))

  pub learner-back : learner_at z.proposers (learner_bytes z.proposers l) ≡ own_places z.proposers l
  unfolding learner_at learner_bytes own word_at word_bytes
  learner-back =
      let v = set_back z l.learnt e learnt-fits in
      λ i. record {
        alive = flag-back l.alive i;
        learnt = v i;
        heard = (ap (λ (n : ℕ). places_at n (learner_bytes z.proposers l)) (min-eq_left few) ∙ own_back) i ++ replicate (8 - z.proposers) unheard;
      }

module _ (bytes : List ℕ) (b : AreBytes bytes) where
  heard-same : (at : ℕ) → sets bytes at (heard_bytes (heard_at bytes at)) ≡ bytes
  unfolding heard_at
  heard-same at =
      sym (put-heard-fields bytes at (heard_at bytes at) (sym (word_same 2 bytes b at)) (sym (set_same bytes b (at + 2))) (sym (set-get_or bytes (at + (2 + set_size)) 0)))

  places_same : (n : ℕ) → sets bytes flagged_size (places_bytes (places_at n bytes)) ≡ bytes
  unfolding places_at places_bytes
  places_same zero = refl
  places_same (suc n) =
      let us = places_bytes (places_at n bytes) in
      let h = heard_at bytes (heard_place n) in
      let m : flagged_size + length us ≡ heard_place n = omega (arith, length-places (places_at n bytes), length-places-at n bytes) in
      ap (sets bytes flagged_size) (places-append (places_at n bytes) (h ∷ []) ∙ ap (λ (l : List ℕ). us ++ l) (append-nil (heard_bytes h)))
      ∙ sets-append us (heard_bytes h) bytes flagged_size
      ∙ rw (places_same n, m) (heard-same (heard_place n))

  pub learner-same : (p a s : ℕ) → is_learner p a s bytes ≡ true → learner_bytes p (learner_at p bytes) ≡ bytes
  unfolding is_learner learner_at
  learner-same p a s e =
      let f : is_flag bytes 0 ≡ true = search (and_l, and_r) depth 9 in
      let m : p ≤ 8 = few-proposers p a s (learner-sizes p a s bytes e) in
      let t : take p (learner_at p bytes).heard ≡ places_at p bytes = rw (min-eq_left m) (take_at (places_at p bytes) (replicate (8 - p) unheard) p (length-places-at p bytes)) in
      sym
      (put-learner-parts
      bytes
      p
      (learner_at p bytes)
      (sym t)
      (sym (flag_same bytes 0 f))
      (sym (set_same bytes b 1))
      (sym (places_same p))
      ∙ learner-whole p a s bytes (learner_at p bytes) (eight-heard p bytes) e)

-- ---- one place of a learner's record

place_at : (n : ℕ) (bytes : List ℕ) (i : ℕ) → i < n → get_or (places_at n bytes) i unheard ≡ heard_at bytes (heard_place i)
unfolding places_at
place_at zero bytes i h = absurd (not-suc-le-zero h)
place_at (suc n) bytes i h =
    let hs = places_at n bytes in
    let x = heard_at bytes (heard_place n) in
    ⊎_elim
    (λ (q : i ≡ n). rw q (get_or_at hs x [] unheard n (length-places-at n bytes)))
    (λ (q : i < n). get_or-append hs (x ∷ []) unheard i (omega (arith, length-places-at n bytes)) ∙ place_at n bytes i q)
    (eq-or-lt_of_le (le_of_suc-le-suc h))

-- what was heard of one of the run's own proposers stands at its place
pub place_read : (p : ℕ) (bytes : List ℕ) (i : ℕ) → p ≤ 8 → i < p → heard_of (learner_at p bytes) i ≡ heard_at bytes (heard_place i)
unfolding learner_at
place_read p bytes i few h =
    rw (min-eq_left few) (get_or-append (places_at p bytes) (replicate (8 - p) unheard) unheard i (omega (arith, length-places-at p bytes)) ∙ place_at p bytes i h)

-- what is put at its place is heard of it, and nothing else is changed
pub place-put : (bytes : List ℕ) → AreBytes bytes → (p a s : ℕ) → is_learner p a s bytes ≡ true → (i : ℕ) (h : Heard) → i < p
    → sets bytes (heard_place i) (heard_bytes h)
    ≡ learner_bytes p (record { alive = (learner_at p bytes).alive; learnt = (learner_at p bytes).learnt; heard = set (learner_at p bytes).heard i h })
unfolding learner_bytes word_bytes
place-put bytes b p a s e i h lt =
    let l = learner_at p bytes in
    let front = flagged l.alive l.learnt in
    let many : length (take p l.heard) ≡ p = length-take-le p l.heard (omega (arith, eight-heard p bytes, few-proposers p a s (learner-sizes p a s bytes e))) in
    ap (λ (k : List ℕ). sets k (heard_place i) (heard_bytes h)) (sym (learner-same bytes b p a s e))
    ∙ put-over front (take p l.heard) i h refl (omega arith)
    ∙ ap (λ (hs : List Heard). front ++ places_bytes hs) (sym (take-set-lt p l.heard i h lt))

-- and so it is with alive and learnt
pub flagged-put : (p : ℕ) (l : Learner) (t : Bool) (v : Scans) → sets (learner_bytes p l) 0 (flagged t v) ≡ learner_bytes p (record { alive = t; learnt = v; heard = l.heard })
unfolding learner_bytes word_bytes
flagged-put p l t v = sets-middle [] (flagged l.alive l.learnt) (places_bytes (take p l.heard)) (flagged t v) 0 refl refl
