-- What is left to put of numbers. Assumes nothing.
use mathlib.Core.Path.{◌≡◌, refl, ap, ◌∙◌}
use mathlib.Core.List.{List}
use Prim.Native.Nat.{ℕ, ◌+◌, ◌<◌, ◌≤◌}
use native.Mathlib.Omega.{arith}
use lib.ListN.{length, drop, get_or}
use lib.Seq.{length-sets}
use Rattle.numbers.specs.Coding.{form, put_end}
use Rattle.numbers.proofs.Ends.{Ends, ends-append}
use Rattle.forms.specs.Forms.{forms}
use Rattle.forms.proofs.Steps.{forms-next, forms-none}

-- the numbers from i on are left of vs, to be put from n on; what the whole comes to is fixed
pub record Left (vs d₀ : List ℕ) (at : ℕ) (d : List ℕ) (n i : ℕ) : Type 0 where
  pub same : length d ≡ length d₀
  pub passed : i ≤ length vs
  pub rest : {m : ℕ} {e : List ℕ} → Ends (forms (drop i vs)) d n m e → Ends (forms vs) d₀ at m e

-- before the first number
pub begin : (vs d : List ℕ) (at : ℕ) → Left vs d at d at 0
begin vs d at = record { same = refl; passed = omega arith; rest = λ p. p }

module _ {vs d₀ : List ℕ} {at : ℕ} {d : List ℕ} {n i : ℕ} (l : Left vs d₀ at d n i) where
  -- after the next number
  pub more : {m : ℕ} {e : List ℕ} → i < length vs → Ends (form (get_or vs i 0)) d n m e → Left vs d₀ at e m (i + 1)
  more h p =
      let v = get_or vs i 0 in
      record {
        same = ap length p.1 ∙ length-sets d n (form v) ∙ l.same;
        passed = omega arith;
        rest = λ q. l.rest (rw (forms-next vs i h) (ends-append (form v) (forms (drop (i + 1) vs)) d n p q));
      }

  -- after the last number
  pub last : length vs ≤ i → Ends (forms vs) d₀ at n d
  unfolding put_end
  last h = l.rest (rw (forms-none vs i h) (omega arith, refl))
