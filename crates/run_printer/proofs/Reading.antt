-- What is read decides what is written. Assumes nothing.
use Rattle.std.proofs.Common.{◌≡◌, ℕ, ◌≤◌, ◌<◌, List, [], ◌∷◌, ◌++◌, Option, None, Some, IfSome, arith, length, take, sym, ap, ◌∙◌, subst, take_all, take_at, append-nil, ⊎_elim, Result, OnOk, EachIndex, get_or}
use Rattle.std.proofs.lemmas.List.{get_or_past}
use Rattle.std.proofs.lemmas.Bool.{cases_lt}
use Rattle.std.specs.Io.KnownBytes.{Appends, Consumes, IsAtEnd}
use Rattle.printer.specs.Printing.{text}
use Rattle.printer.proofs.Files.{text-decided}
use Rattle.std.proofs.lemmas.Result.{on_ok_weaker}

cons_not_nil : {y : ℕ} {ys : List ℕ} → ◌≡◌ {A = List ℕ} (y ∷ ys) [] → ⊥
cons_not_nil e = let z : ◌≡◌ {A = ℕ} 1 0 = ap (λ (l : List ℕ). length (take 1 l)) e in omega arith

-- the first m of the bytes, where no more than m were taken off, and fewer only at the end
first_bytes : (m : ℕ) (bs ys : List ℕ) → length bs ≤ m → (length bs < m → ys ≡ []) → take m (bs ++ ys) ≡ bs
first_bytes m bs [] h end = ap (take m) (append-nil bs) ∙ take_all m bs h
first_bytes m bs (y ∷ ys) h end =
    let full : length bs ≡ m = ⊎_elim (λ (l : length bs < m). absurd (cons_not_nil (end l))) (λ (l : m ≤ length bs). omega (arith, h, l)) (cases_lt (length bs) m) in
    take_at bs (y ∷ ys) m full

-- what holds of the bytes that were taken off holds of the first m
read_first : (m : ℕ) (a b : Option (List ℕ)) (bs : List ℕ) (P : List ℕ → Type 0) → length bs ≤ m → (length bs < m → IsAtEnd b) → Consumes a b bs → P bs → IfSome a (λ xs. P (take m xs))
read_first m None b bs P h end p q = tt
read_first m (Some x) None bs P h end p q = absurd p
read_first m (Some x) (Some y) bs P h end p q = subst P (sym (ap (take m) p ∙ first_bytes m bs y h end)) q

weaker : (a : Option (List ℕ)) (P Q : List ℕ → Type 0) → ((xs : List ℕ) → P xs → Q xs) → IfSome a P → IfSome a Q
weaker None P Q f p = tt
weaker (Some x) P Q f p = f x p

all_bytes : (xs : List ℕ) → EachIndex xs (λ k. get_or xs k 0 < 256) → (k : ℕ) → get_or xs k 0 < 256
all_bytes xs h k = ⊎_elim (λ (l : k < length xs). h k l) (λ (l : length xs ≤ k). omega (arith, get_or_past xs k 0 l)) (cases_lt k (length xs))

-- where all goes well, the text of all bytes is written, since it is that of the first ones
pub writes_text : {T E : Type 0} (r : Result T E) (a b c d : Option (List ℕ)) (bs out : List ℕ)
    → length bs ≤ 36_873 → (length bs < 36_873 → IsAtEnd b) → Consumes a b bs → out ≡ text bs
    → OnOk r (Appends c d out) → OnOk r (IfSome a (λ xs. EachIndex xs (λ k. get_or xs k 0 < 256) → Appends c d (text xs)))
writes_text r a b c d bs out h end p e =
    let First : List ℕ → Type 0 = λ xs. Appends c d (text (take 36_873 xs)) in
    let All : List ℕ → Type 0 = λ xs. EachIndex xs (λ k. get_or xs k 0 < 256) → Appends c d (text xs) in
    let whole : (xs : List ℕ) → First xs → All xs = λ xs w k. subst (Appends c d) (text-decided xs (all_bytes xs k)) w in
    on_ok_weaker r
    (λ q. weaker a First All whole (read_first 36_873 a b bs (λ xs. Appends c d (text xs)) h end p (subst (Appends c d) e q)))
