-- The write rule: the three answers of a writer of bytes, each with the buffer after it, and what follows for every writer. Assumes nothing.
use mathlib.Core.Path.{◌≡◌, refl, sym, ap, ◌∙◌}
use mathlib.Core.Bool.{Bool, true, false}
use mathlib.Core.Logic.{◌⊎◌, inl, inr, ⊎_elim}
use mathlib.Core.List.{List, [], ◌∷◌}
use Prim.Native.Nat.{ℕ, suc, ◌+◌, ◌<◌, ◌≤◌}
use native.Mathlib.Omega.{arith}
use lib.Dec.{eqb, leb}
use lib.ListN.{length, get_or, set}
use lib.Seq.{sets, length-sets, get_or-set_other}
use borrow.Author.Tests.{leb-true, leb-false, lt-leb, le-leb, eqb-true, eqb-false, ne_eqb}
use Rattle.std.specs.Prelude.{Result, Ok, Err}
use Rattle.choice.specs.Tests.{◌unless◌, ◌⨾◌, ok}
use Rattle.choice.proofs.Tests.{stands}
use Rattle.choice.specs.Refusals.{number, numbered, no, no_in}
use Rattle.choice.specs.declared.refusals.Refusal.{Refusal}
use Rattle.numbers.specs.Coding.{Written, put_no, put_answer, after_put}
use Rattle.numbers.proofs.Ends.{Ends, end_fits}

-- a place and a refusal are not the same
pub refused-next : {r n : ℕ} → ◌≡◌ {A = Written} (Err r) (Ok n) → ⊥
refused-next e = let z : ◌≡◌ {A = ℕ} 0 1 = cc in omega arith

-- writing bytes at a place of d, or refusing with n, answers w and leaves e; w has the number of the refusal
abbrev pub Puts : ℕ → List ℕ → List ℕ → ℕ → Written → List ℕ → Type 0
Puts n bytes d at w e = (w ≡ put_answer n bytes d at) × (e ≡ after_put n bytes d at) × (no_in w ≡ put_no n bytes d at)

-- the same of an answer by the type of refusals
abbrev pub Writes : ℕ → List ℕ → List ℕ → ℕ → Result ℕ Refusal → List ℕ → Type 0
Writes n bytes d at r e = (numbered r ≡ put_answer n bytes d at) × (e ≡ after_put n bytes d at) × (no r ≡ put_no n bytes d at)

module _ (n : ℕ) (bytes d : List ℕ) (at : ℕ) where
  -- a refusal by its number
  pub writes-refused : {r : Result ℕ Refusal} {q : Refusal} {m : ℕ} {e : List ℕ} → r ≡ Err q → number q ≡ m → Puts n bytes d at (Err m) e → Writes n bytes d at r e
  writes-refused p h w = rw (p, h) w

  -- ---- the answers

  -- there is a refusal
  refused-with : (m : ℕ) → put_no n bytes d at ≡ m → (m ≡ 0 → ⊥) → Puts n bytes d at (Err m) d
  unfolding put_answer after_put
  refused-with m e h = (rw (e, ne_eqb m 0 h), rw (e, ne_eqb m 0 h), sym e)

  -- it comes before the room
  pub refuses : (n ≡ 0 → ⊥) → Puts n bytes d at (Err n) d
  unfolding put_no
  refuses h = refused-with n (stands n (8 unless leb (at + length bytes) (length d) ⨾ ok) h) h

  -- the bytes do not fit
  pub no_room : n ≡ 0 → length d < at + length bytes → Puts n bytes d at (Err 8) d
  unfolding put_no
  no_room e h = refused-with 8 (rw (e, lt-leb (at + length bytes) (length d) h)) (λ z. omega arith)

  -- they fit
  pub wrote : n ≡ 0 → at + length bytes ≤ length d → Puts n bytes d at (Ok (at + length bytes)) (sets d at bytes)
  unfolding put_no put_answer after_put
  wrote e h = (rw (e, le-leb (at + length bytes) (length d) h), rw (e, le-leb (at + length bytes) (length d) h), rw (e, le-leb (at + length bytes) (length d) h))

  -- they have been put
  pub put-wrote : {m : ℕ} {e : List ℕ} → n ≡ 0 → at + length bytes ≤ length d → Ends bytes d at m e → Puts n bytes d at (Ok m) e
  put-wrote z h p =
      let w = wrote z h in
      (ap Ok (p.0 ∙ end_fits bytes d at h) ∙ w.0, p.1 ∙ w.1, w.2)

  -- the answers, each with what leads to it
  pub data Answer : Type 0 where
    unfit : (n ≡ 0 → ⊥) → Puts n bytes d at (Err n) d → Answer
    narrow : n ≡ 0 → length d < at + length bytes → Puts n bytes d at (Err 8) d → Answer
    fits : n ≡ 0 → at + length bytes ≤ length d → Puts n bytes d at (Ok (at + length bytes)) (sets d at bytes) → Answer

  -- every answer is one of them
  pub answers : Answer
  answers = go (eqb n 0) refl (leb (at + length bytes) (length d)) refl
    where
      go : (t : Bool) → eqb n 0 ≡ t → (u : Bool) → leb (at + length bytes) (length d) ≡ u → Answer
      go false e u f = let h = eqb-false n 0 e in unfit h (refuses h)
      go true e false f = let z = eqb-true n 0 e in let l = leb-false (at + length bytes) (length d) f in narrow z l (no_room z l)
      go true e true f = let z = eqb-true n 0 e in let l = leb-true (at + length bytes) (length d) f in fits z l (wrote z l)

  -- ---- what they say

  -- an answer has the number of the refusal
  pub put-number : no_in (put_answer n bytes d at) ≡ put_no n bytes d at
  put-number = go answers
    where
      go : Answer → no_in (put_answer n bytes d at) ≡ put_no n bytes d at
      go (Answer.unfit h w) = ap no_in (sym w.0) ∙ w.2
      go (Answer.narrow h l w) = ap no_in (sym w.0) ∙ w.2
      go (Answer.fits h l w) = ap no_in (sym w.0) ∙ w.2

  -- a refusal is n, whatever the room is, or 8 where n is none and the bytes do not fit
  pub put-refusals : (r : ℕ) → put_answer n bytes d at ≡ Err r
      → ((r ≡ n) × (n ≡ 0 → ⊥)) ⊎ ((r ≡ 8) × (n ≡ 0) × (length d < at + length bytes))
  put-refusals r e = go answers
    where
      go : Answer → ((r ≡ n) × (n ≡ 0 → ⊥)) ⊎ ((r ≡ 8) × (n ≡ 0) × (length d < at + length bytes))
      go (Answer.unfit h w) = inl (sym (ap no_in (w.0 ∙ e)), h)
      go (Answer.narrow h l w) = inr (sym (ap no_in (w.0 ∙ e)), h, l)
      go (Answer.fits h l w) = absurd (refused-next (sym (w.0 ∙ e)))

  -- a refusal leaves the buffer as it was
  pub put_refused : (r : ℕ) → put_answer n bytes d at ≡ Err r → after_put n bytes d at ≡ d
  put_refused r e = go answers
    where
      go : Answer → after_put n bytes d at ≡ d
      go (Answer.unfit h w) = sym w.1
      go (Answer.narrow h l w) = sym w.1
      go (Answer.fits h l w) = absurd (refused-next (sym (w.0 ∙ e)))

  -- a place m as the answer: there is no refusal, m is past the bytes, and they have been stored
  pub record Put (m : ℕ) : Type 0 where
    pub passes : n ≡ 0
    pub place : m ≡ at + length bytes
    pub room : m ≤ length d
    pub buffer : after_put n bytes d at ≡ sets d at bytes

  -- what a writer says by a next place
  pub put_next : (m : ℕ) → put_answer n bytes d at ≡ Ok m → Put m
  put_next m e = go answers
    where
      go : Answer → Put m
      go (Answer.unfit h w) = absurd (refused-next (w.0 ∙ e))
      go (Answer.narrow h l w) = absurd (refused-next (w.0 ∙ e))
      go (Answer.fits h l w) =
          let q : Ok (at + length bytes) ≡ Ok m = w.0 ∙ e in
          let p : m ≡ at + length bytes = cc in
          record { passes = h; place = p; room = omega arith; buffer = sym w.1 }

  -- writing keeps the length of the buffer
  pub put-length : length (after_put n bytes d at) ≡ length d
  put-length = go answers
    where
      go : Answer → length (after_put n bytes d at) ≡ length d
      go (Answer.unfit h w) = ap length (sym w.1)
      go (Answer.narrow h l w) = ap length (sym w.1)
      go (Answer.fits h l w) = ap length (sym w.1) ∙ length-sets d at bytes

-- places that a run of stores does not reach
pub sets-stays : (vs l : List ℕ) (i k : ℕ) → (k < i) ⊎ (i + length vs ≤ k) → get_or (sets l i vs) k 0 ≡ get_or l k 0
sets-stays [] l i k h = refl
sets-stays (a ∷ vs) l i k h =
    let far : (k < suc i) ⊎ (suc i + length vs ≤ k) = ⊎_elim (λ (b : k < i). inl (omega arith)) (λ (b : i + length (a ∷ vs) ≤ k). inr (omega arith)) h in
    let off : k ≡ i → ⊥ = λ (e : k ≡ i). ⊎_elim (λ (b : k < i). omega arith) (λ (b : i + length (a ∷ vs) ≤ k). omega arith) h in
    sets-stays vs (set l i a) (suc i) k far ∙ get_or-set_other l i k a 0 off

-- bytes before the place and from the next place on stay as they were
pub put-stays : (n : ℕ) (bytes d : List ℕ) (at m i : ℕ) → put_answer n bytes d at ≡ Ok m → (i < at) ⊎ (m ≤ i) → get_or (after_put n bytes d at) i 0 ≡ get_or d i 0
put-stays n bytes d at m i e h =
    let s = put_next n bytes d at m e in
    let p = s.place in
    rw s.buffer (sets-stays bytes d at i (⊎_elim (λ (b : i < at). inl b) (λ (b : m ≤ i). inr (omega arith)) h))
