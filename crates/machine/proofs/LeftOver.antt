-- What is left of a list from a place on.
use Rattle.std.proofs.Common.{◌≡◌, ap, ◌∙◌, sym, ℕ, ◌+◌, ◌<◌, List, ◌∷◌, length, drop, get_or}
use native.Mathlib.Numerals.{add-one}
use lib.Seq.{drop-cons}

-- it is the element there, and what is left from the next place on
pub drop-next : {X : Type 0} (l : List X) (i : ℕ) (d : X) → i < length l → drop i l ≡ get_or l i d ∷ drop (i + 1) l
drop-next l i d h = drop-cons l i d h ∙ ap (λ (k : ℕ). get_or l i d ∷ drop k l) (sym (add-one i))
