-- Bytes put as far as a buffer goes. Assumes nothing.
use mathlib.Core.Path.{◌≡◌, refl, sym, ◌∙◌}
use mathlib.Core.Bool.{Bool, true, false}
use mathlib.Core.List.{List, [], ◌∷◌, ◌++◌}
use Prim.Native.Nat.{ℕ, suc, ◌+◌, ◌<◌, ◌≤◌}
use native.Mathlib.Omega.{arith}
use native.Mathlib.Nat.{add-zero, add-suc, suc-add}
use lib.Dec.{leb}
use lib.ListN.{length, set, length-set, length-append}
use lib.Seq.{sets, set_out, length-sets}
use borrow.Author.Tests.{leb-true, leb-false}
use Rattle.numbers.specs.Coding.{put_end}

-- stores past the end change nothing
pub sets-out : (vs l : List ℕ) (i : ℕ) → length l ≤ i → sets l i vs ≡ l
sets-out [] l i h = refl
sets-out (v ∷ vs) l i h = rw (set_out l i v h) (sets-out vs l (suc i) (omega arith))

-- a run of stores and then another
pub sets-append : (us vs l : List ℕ) (i : ℕ) → sets l i (us ++ vs) ≡ sets (sets l i us) (i + length us) vs
sets-append [] vs l i = rw (add-zero i)
sets-append (u ∷ us) vs l i = sets-append us vs (set l i u) (suc i) ∙ rw (suc-add i (length us), add-suc i (length us))

-- putting bytes at a place of d gives m, the place after them, and leaves e
abbrev pub Ends : List ℕ → List ℕ → ℕ → ℕ → List ℕ → Type 0
Ends bytes d at m e = (m ≡ put_end bytes d at) × (e ≡ sets d at bytes)

-- bytes that have room are all put
pub end_fits : (bytes d : List ℕ) (at : ℕ) → at + length bytes ≤ length d → put_end bytes d at ≡ at + length bytes
unfolding put_end
end_fits bytes d at h = omega arith

-- a byte that has room, and then others
pub end-cons : (b : ℕ) (bytes d : List ℕ) (at : ℕ) → at < length d → put_end bytes (set d at b) (at + 1) ≡ put_end (b ∷ bytes) d at
unfolding put_end
end-cons b bytes d at h = omega (arith, length-set d at b)

module _ (us vs d : List ℕ) (at : ℕ) where
  end-append : put_end vs (sets d at us) (put_end us d at) ≡ put_end (us ++ vs) d at
  unfolding put_end
  end-append = omega (arith, length-append us vs, length-sets d at us)

  sets_end : sets (sets d at us) (put_end us d at) vs ≡ sets d at (us ++ vs)
  unfolding put_end
  sets_end = go (leb (at + length us) (length d)) refl
    where
      go : (t : Bool) → leb (at + length us) (length d) ≡ t → sets (sets d at us) (put_end us d at) vs ≡ sets d at (us ++ vs)
      go true e = rw (end_fits us d at (leb-true (at + length us) (length d) e)) (sym (sets-append us vs d at))
      go false e =
          let h = leb-false (at + length us) (length d) e in
          let l = length-sets d at us in
          sets-out vs (sets d at us) (put_end us d at) (omega arith)
          ∙ sym (sets-append us vs d at ∙ sets-out vs (sets d at us) (at + length us) (omega arith))

  -- some bytes put and then others are both put in a row
  pub ends-append : {m n : ℕ} {e f : List ℕ} → Ends us d at m e → Ends vs e m n f → Ends (us ++ vs) d at n f
  ends-append p q = (q.0 ∙ rw (p.0, p.1) end-append, q.1 ∙ rw (p.0, p.1) sets_end)
