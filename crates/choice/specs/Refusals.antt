-- The refusals and their numbers, and answers by these numbers.
use Rattle.std.specs.Prelude.{ℕ, Result, Ok, Err}
use Rattle.choice.specs.declared.refusals.Refusal.{Refusal}
use Rattle.choice.specs.declared.refusals.Refusal.TheVariants as refusal

-- the number of a refusal
abbrev pub number : Refusal → ℕ
number refusal.OutOfRange = 1
number refusal.NoSuchCode = 2
number refusal.NotThere = 3
number refusal.FreeSlot = 4
number refusal.Crashed = 5
number refusal.NotEnabled = 6
number refusal.LastNumber = 7
number refusal.NoRoom = 8
number refusal.TimeOutOfRange = 9
number refusal.NoSuchDevice = 10
number refusal.EndsEarly = 11
number refusal.NotShortest = 12
number refusal.BytesFollow = 13

-- an answer with a number in the place of what refuses it
abbrev pub numbered_by : {T R : Type 0} → (R → ℕ) → Result T R → Result T ℕ
numbered_by f (Ok x) = Ok x
numbered_by f (Err r) = Err (f r)

-- an answer with the number of its refusal in the refusal's place
abbrev pub numbered : {T : Type 0} → Result T Refusal → Result T ℕ
numbered r = numbered_by number r

-- document 01's number of an answer: 0, or the refusal's
abbrev pub no : {T : Type 0} → Result T Refusal → ℕ
no (Ok x) = 0
no (Err r) = number r

-- the same of an answer that has the number in the refusal's place
abbrev pub no_in : {T : Type 0} → Result T ℕ → ℕ
no_in (Ok x) = 0
no_in (Err n) = n
