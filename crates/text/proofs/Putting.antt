-- A word put as far as it has room. Assumes nothing.
use Rattle.std.proofs.Common.{◌≡◌, ℕ, ◌+◌, ◌-◌, ◌≤◌, ◌<◌, List, ◌++◌, arith, min, length, take, drop, sym, ap, ◌∙◌, [], ◌∷◌, suc, refl, append-nil, length-drop, length-take-le, take_all, take-append-drop, ⊎_elim}
use Rattle.std.proofs.lemmas.Bool.{cases_lt}
use Rattle.std.proofs.lemmas.List.Edits.{sets}
use borrow.Rule.Slice.PartMut.{put_mid}
use native.Mathlib.Numerals.{add-one}
use lib.ListN.{set, get_or, drop_of_length-le}
use lib.Seq.{drop-cons}
use Rattle.std.proofs.lemmas.List.{set-append_right}
use Rattle.forms.proofs.Steps.{sets-out}

-- what is left of a word, put from its place on, makes the whole: with one byte more, and where the room or the word ends
pub put_next : (room₀ word room : List ℕ) (i : ℕ) → i < length word → sets room i (drop i word) ≡ sets room₀ 0 word → sets (set room i (get_or word i 0)) (i + 1) (drop (i + 1) word) ≡ sets room₀ 0 word
put_next room₀ word room i h e = rw (add-one i) (rw (drop-cons word i 0 h) at e)

pub put_last : (room₀ word room : List ℕ) (i : ℕ) → min (length room) (length word) ≤ i → sets room i (drop i word) ≡ sets room₀ 0 word → room ≡ sets room₀ 0 word
put_last room₀ word room i h e = ⊎_elim
    (λ (fewer : length room < length word). sym (sets-out (drop i word) room i (omega (arith, h, fewer))) ∙ e)
    (λ (all : length word ≤ length room). let none : length word ≤ i = omega (arith, h, all) in rw (drop_of_length-le word none) at e)
    (cases_lt (length room) (length word))

-- what is put into the second of two parts is put into the whole
sets-part : (a b word : List ℕ) (i : ℕ) → a ++ sets b i word ≡ sets (a ++ b) (length a + i) word
sets-part a b [] i = refl
sets-part a b (w ∷ word) i =
    let here : length a + i - length a ≡ i = omega arith in
    let next : length a + suc i ≡ suc (length a + i) = omega arith in
    let stored : set (a ++ b) (length a + i) w ≡ a ++ set b i w = set-append_right a b (length a) (length a + i) w refl (omega arith) ∙ ap (λ k. a ++ set b k w) here in
    sets-part a (set b i w) word (suc i) ∙ ap (λ k. sets (a ++ set b i w) k word) next ∙ ap (λ l. sets l (suc (length a + i)) word) (sym stored)

-- the part of the buffer from a place on
pub put : (d word : List ℕ) (at start k : ℕ) → start ≡ min (length d) at → k ≡ length d - start → put_mid start k d (sets (take k (drop start d)) 0 word) ≡ sets d at word
put d word at start k p q =
    let rest : List ℕ = drop start d in
    let size : length rest ≡ k = length-drop start d ∙ sym q in
    let front : length (take start d) + 0 ≡ start = omega (arith, length-take-le start d (omega (arith, p))) in
    let all : take k rest ≡ rest = take_all k rest (omega (arith, size)) in
    let none : drop k rest ≡ [] = drop_of_length-le rest (omega (arith, size)) in
    let whole : put_mid start k d (sets (take k rest) 0 word) ≡ sets d start word =
    ap (λ r. take start d ++ (sets (take k rest) 0 word ++ r)) none
    ∙ ap (λ r. take start d ++ r) (append-nil (sets (take k rest) 0 word) ∙ ap (λ r. sets r 0 word) all)
    ∙ sets-part (take start d) rest word 0
    ∙ ap (λ n. sets (take start d ++ rest) n word) front
    ∙ ap (λ l. sets l start word) (take-append-drop start d) in
    whole ∙ ⊎_elim
    (λ (l : at < length d). let e : start ≡ at = omega (arith, p, l) in ap (λ n. sets d n word) e)
    (λ (m : length d ≤ at). sets-out word d start (omega (arith, p, m)) ∙ sym (sets-out word d at m))
    (cases_lt at (length d))
