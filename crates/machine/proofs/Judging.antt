-- A test of every element of a list, one after the other: what is found so far, and what is still to be tested.
use Rattle.std.proofs.Common.{◌≡◌, refl, ap, ◌∙◌, sym, ℕ, ◌+◌, ◌≤◌, ◌<◌, Bool, true, false, ◌&&◌, List, [], ◌∷◌, length, drop, get_or}
use lib.ListN.{drop_of_length-le}
use Rattle.model.specs.Ranges.{all}
use Rattle.machine.proofs.LeftOver.{drop-next}

and_assoc : (a b c : Bool) → ((a && b) && c) ≡ (a && (b && c))
and_assoc true b c = refl
and_assoc false b c = refl

and-true : (a : Bool) → (a && true) ≡ a
and-true true = refl
and-true false = refl

module _ {X : Type 0} (f : X → Bool) (l : List X) where
  on-by : (x : X) (r : List X) (a : Bool) → ((a && f x) && all f r) ≡ (a && all f (x ∷ r))
  unfolding all
  on-by x r a = and_assoc a (f x) (all f r)

  none_left : (a : Bool) → (a && all f []) ≡ a
  unfolding all
  none_left a = and-true a

  pub all-on : (i : ℕ) (x : X) (a : Bool) → i < length l → x ≡ get_or l i x → ((a && f x) && all f (drop (i + 1) l)) ≡ (a && all f (drop i l))
  all-on i x a h e =
      on-by x (drop (i + 1) l) a
      ∙ ap (λ (y : X). a && all f (y ∷ drop (i + 1) l)) e
      ∙ ap (λ (r : List X). a && all f r) (sym (drop-next l i x h))

  pub all-off : (i : ℕ) (a : Bool) → length l ≤ i → (a && all f (drop i l)) ≡ a
  all-off i a h = ap (λ (r : List X). a && all f r) (drop_of_length-le l h) ∙ none_left a
