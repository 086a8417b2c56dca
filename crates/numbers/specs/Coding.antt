-- The number coding of document 01, "Written forms".
use Rattle.std.specs.Prelude.{Bool, true, false, ◌&&◌, List, [], ◌∷◌, ℕ, zero, suc, ◌+◌, ◌-◌, ◌*◌, ◌/◌, ◌%◌, ◌^◌, min, eqb, ltb, leb, length, drop, Result, Ok, Err}
use Rattle.std.proofs.lemmas.List.Edits.{sets}
use Rattle.std.specs.Prelude.{if◌then◌else◌}
use Rattle.choice.specs.Tests.{◌unless◌, refusal, ◌⨾◌, ok}
use Rattle.numbers.specs.declared.Limit.{Limit}
use Rattle.numbers.specs.declared.Limit.TheVariants.{Schedule, Table}
use Rattle.numbers.specs.declared.Number.{Number}

-- schedule numbers have at most three groups, scan table numbers seven
unfoldable pub groups_of : Limit → ℕ
groups_of Schedule = 3
groups_of Table = 7

-- schedule numbers are at most 65,535, scan table numbers at most 2 ^ 48 - 1
unfoldable pub most_of : Limit → ℕ
most_of Schedule = 65_535
most_of Table = 2 ^ 48 - 1

-- ---- reading

-- what reading a number answers: the number and the place after it, or a refusal
abbrev pub Read : Type 0
Read = Result Number ℕ

-- the number v, and next, the place after it
abbrev pub number_to : ℕ → ℕ → Read
number_to v next = Ok (record { value = v; next = next })

-- the last group of a number: it is 0 only for the number 0 itself, where no group came before; the number is not too large
unfoldable pub last_group : Bool → ℕ → ℕ → ℕ → ℕ → ℕ → Read
last_group later most low weight group next =
    if eqb group 0 && later
    then Err 12
    else (if ltb most (low + group * weight) then Err 12 else number_to (low + group * weight) next)

-- the groups of seven bits from a place on, low group first, the top bit set while more follow: at most so many groups, `low` what those before came to
unfoldable pub groups_from : ℕ → Bool → ℕ → ℕ → ℕ → List ℕ → ℕ → Read
groups_from zero later most low weight bytes at = Err 12
groups_from (suc g) later most low weight [] at = Err 11
groups_from (suc g) later most low weight (b ∷ bytes) at =
    if ltb b 128
    then last_group later most low weight b (at + 1)
    else groups_from g true most (low + (b - 128) * weight) (weight * 128) bytes (at + 1)

-- the number at a place of the bytes, and the place after it
unfoldable pub read_number : Limit → List ℕ → ℕ → Read
read_number limit bytes at = groups_from (groups_of limit) false (most_of limit) 0 1 (drop at bytes) at

-- ---- the shortest form

-- the shortest form, in at most g groups
unfoldable pub form_in : ℕ → ℕ → List ℕ
form_in zero v = []
form_in (suc g) v = if ltb v 128 then v ∷ [] else (v % 128 + 128) ∷ form_in g (v / 128)

-- the shortest form of a number below 2 ^ 64: at most ten groups
unfoldable pub form : ℕ → List ℕ
form v = form_in 10 v

-- ---- writing into a buffer

-- bytes put at a place of a buffer, those left out that would stand past its end: the place after those that are put
unfoldable pub put_end : List ℕ → List ℕ → ℕ → ℕ
put_end bytes buffer at = at + min (length bytes) (length buffer - at)

-- bytes at a place of a buffer: the refusal n where there is one, then 8 unless the bytes fit
unfoldable pub put_no : ℕ → List ℕ → List ℕ → ℕ → ℕ
put_no n bytes buffer at =
    refusal n
    ⨾ 8 unless leb (at + length bytes) (length buffer)
    ⨾ ok

-- what writing answers: the place after what is written, or a refusal
abbrev pub Written : Type 0
Written = Result ℕ ℕ

-- what writing them answers: the place after them, or the refusal
unfoldable pub put_answer : ℕ → List ℕ → List ℕ → ℕ → Written
put_answer n bytes buffer at =
    if eqb (put_no n bytes buffer at) 0
    then Ok (at + length bytes)
    else Err (put_no n bytes buffer at)

-- the buffer after it: a refusal leaves it as it was
unfoldable pub after_put : ℕ → List ℕ → List ℕ → ℕ → List ℕ
after_put n bytes buffer at = if eqb (put_no n bytes buffer at) 0 then sets buffer at bytes else buffer

-- a number is within the limit
unfoldable pub limit_no : Limit → ℕ → ℕ
limit_no limit v = 12 unless leb v (most_of limit) ⨾ ok

-- the shortest form of a number at a place of a buffer: the refusal, the answer, the buffer after it
abbrev pub number_written_no : Limit → ℕ → List ℕ → ℕ → ℕ
number_written_no limit v buffer at = put_no (limit_no limit v) (form v) buffer at

abbrev pub number_written : Limit → ℕ → List ℕ → ℕ → Written
number_written limit v buffer at = put_answer (limit_no limit v) (form v) buffer at

abbrev pub after_number : Limit → ℕ → List ℕ → ℕ → List ℕ
after_number limit v buffer at = after_put (limit_no limit v) (form v) buffer at

-- ---- an answer as numbers

-- the number that an answer gives, or what stood there before
abbrev pub read_value : Read → ℕ → ℕ
read_value (Ok n) old = n.value
read_value (Err r) old = old

-- the place that an answer gives, or what stood there before
abbrev pub read_next : Read → ℕ → ℕ
read_next (Ok n) old = n.next
read_next (Err r) old = old

-- the place that an answer gives, or what stood there before
abbrev pub written_next : Written → ℕ → ℕ
written_next (Ok n) old = n
written_next (Err r) old = old
