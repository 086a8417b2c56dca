-- An answer is known by its number: each refusal has one of its own, and none has 0.
use Rattle.std.proofs.Common.{◌≡◌, ℕ, zero, suc, ◌-◌, List, [], ◌∷◌, get_or, refl, sym, ap, ◌∙◌}
use native.Mathlib.Nat.{suc-ne-zero}
use Rattle.std.specs.Prelude.{Result, Ok, Err, Bool, true, false, ⊤}
use Rattle.choice.specs.declared.refusals.Refusal.{Refusal}
use Rattle.choice.specs.declared.refusals.Refusal.TheVariants as refusal
use Rattle.choice.specs.Tests.{◌unless◌, ◌⨾◌, ok}
use Rattle.choice.specs.Refusals.{number, numbered, no, no_in}

pub no-numbered : {T : Type 0} (r : Result T Refusal) → no_in (numbered r) ≡ no r
no-numbered (Ok x) = refl
no-numbered (Err r) = refl

-- the refusal of a number
abbrev of_number : ℕ → Refusal
of_number n =
    get_or
    (refusal.OutOfRange ∷ refusal.OutOfRange ∷ refusal.NoSuchCode ∷ refusal.NotThere ∷ refusal.FreeSlot
    ∷ refusal.Crashed ∷ refusal.NotEnabled ∷ refusal.LastNumber ∷ refusal.NoRoom ∷ refusal.TimeOutOfRange
    ∷ refusal.NoSuchDevice ∷ refusal.EndsEarly ∷ refusal.NotShortest ∷ refusal.BytesFollow ∷ [])
    n
    refusal.OutOfRange

of-number : (r : Refusal) → of_number (number r) ≡ r
of-number refusal.OutOfRange = refl
of-number refusal.NoSuchCode = refl
of-number refusal.NotThere = refl
of-number refusal.FreeSlot = refl
of-number refusal.Crashed = refl
of-number refusal.NotEnabled = refl
of-number refusal.LastNumber = refl
of-number refusal.NoRoom = refl
of-number refusal.TimeOutOfRange = refl
of-number refusal.NoSuchDevice = refl
of-number refusal.EndsEarly = refl
of-number refusal.NotShortest = refl
of-number refusal.BytesFollow = refl

abbrev unnumbered : {T : Type 0} → Result T ℕ → Result T Refusal
unnumbered (Ok x) = Ok x
unnumbered (Err n) = Err (of_number n)

un-numbered : {T : Type 0} (r : Result T Refusal) → unnumbered (numbered r) ≡ r
un-numbered (Ok x) = refl
un-numbered (Err r) = ap Err (of-number r)

-- two answers that are one by their numbers are one
pub numbered-apart : {T : Type 0} (r s : Result T Refusal) → numbered r ≡ numbered s → r ≡ s
numbered-apart r s e = sym (un-numbered r) ∙ ap unnumbered e ∙ un-numbered s

-- no refusal has 0
pub number-some : (r : Refusal) → number r ≡ 0 → ⊥
number-some refusal.OutOfRange e = absurd (suc-ne-zero 0 e)
number-some refusal.NoSuchCode e = absurd (suc-ne-zero 1 e)
number-some refusal.NotThere e = absurd (suc-ne-zero 2 e)
number-some refusal.FreeSlot e = absurd (suc-ne-zero 3 e)
number-some refusal.Crashed e = absurd (suc-ne-zero 4 e)
number-some refusal.NotEnabled e = absurd (suc-ne-zero 5 e)
number-some refusal.LastNumber e = absurd (suc-ne-zero 6 e)
number-some refusal.NoRoom e = absurd (suc-ne-zero 7 e)
number-some refusal.TimeOutOfRange e = absurd (suc-ne-zero 8 e)
number-some refusal.NoSuchDevice e = absurd (suc-ne-zero 9 e)
number-some refusal.EndsEarly e = absurd (suc-ne-zero 10 e)
number-some refusal.NotShortest e = absurd (suc-ne-zero 11 e)
number-some refusal.BytesFollow e = absurd (suc-ne-zero 12 e)

-- a test that refused has failed, and its refusal is that one
pub refused-unless : (n : ℕ) (t : Bool) (r : Refusal) → number r ≡ (n unless t ⨾ ok) → (t ≡ false) × (number r ≡ n)
refused-unless n true r e = absurd (number-some r e)
refused-unless n false r e = (refl, e)

-- the answer of a test, by its number
abbrev of_no : ℕ → Result ⊤ Refusal
of_no zero = Ok tt
of_no (suc n) = Err (of_number (suc n))

of-no : (r : Result ⊤ Refusal) → of_no (no r) ≡ r
of-no (Ok tt) = refl
of-no (Err refusal.OutOfRange) = refl
of-no (Err refusal.NoSuchCode) = refl
of-no (Err refusal.NotThere) = refl
of-no (Err refusal.FreeSlot) = refl
of-no (Err refusal.Crashed) = refl
of-no (Err refusal.NotEnabled) = refl
of-no (Err refusal.LastNumber) = refl
of-no (Err refusal.NoRoom) = refl
of-no (Err refusal.TimeOutOfRange) = refl
of-no (Err refusal.NoSuchDevice) = refl
of-no (Err refusal.EndsEarly) = refl
of-no (Err refusal.NotShortest) = refl
of-no (Err refusal.BytesFollow) = refl

-- two tests' answers with one number are one
pub no-apart : (r s : Result ⊤ Refusal) → no r ≡ no s → r ≡ s
no-apart r s e = sym (of-no r) ∙ ap of_no e ∙ of-no s
