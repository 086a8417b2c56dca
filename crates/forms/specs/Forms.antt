-- What written forms are made of: numbers of the coding, one after the other, each tested when read.
use Rattle.std.specs.Prelude.{Bool, List, [], ◌∷◌, ◌++◌, ℕ, zero, suc, ◌+◌, eqb, ltb, leb, length, drop, replicate, Result, Ok, Err}
use Rattle.std.specs.List.{list_all}
use Rattle.std.proofs.lemmas.List.Edits.{sets}
use Rattle.std.specs.Prelude.{if◌then◌else◌}
use Rattle.choice.specs.Tests.{◌unless◌, refusal, ◌⨾◌, ok}
use Rattle.numbers.specs.Coding.{Read, Written, most_of, read_number, form, put_no, put_answer, after_put}
use Rattle.numbers.specs.declared.Limit.{Limit}

-- ---- reading

-- what reading a piece of a form gives: the numbers read and the place after them, or a refusal
pub data Outcome : Type 0 where
  got : List ℕ → ℕ → Outcome
  refused : ℕ → Outcome

-- a test of a number: 0, or the refusal that it gives
abbrev pub Test : Type 0
Test = ℕ → ℕ

-- a number is tested when it is read
unfoldable pub test_read : Test → Read → Outcome
test_read test (Ok n) = if eqb (test n.value) 0 then got (n.value ∷ []) n.next else refused (test n.value)
test_read test (Err r) = refused r

unfoldable pub prepend : List ℕ → Outcome → Outcome
prepend vs (got ws next) = got (vs ++ ws) next
prepend vs (refused r) = refused r

-- a piece and then the rest, from the place after it
unfoldable pub and_then : Outcome → (ℕ → Outcome) → Outcome
and_then (got vs next) rest = prepend vs (rest next)
and_then (refused r) rest = refused r

-- a row of numbers from a place on, one for each test
unfoldable pub row : List Test → Limit → List ℕ → ℕ → Outcome
row [] limit bytes at = got [] at
row (test ∷ tests) limit bytes at =
    and_then (test_read test (read_number limit bytes at)) (λ next. row tests limit bytes next)

-- n such rows
unfoldable pub rows : ℕ → List Test → Limit → List ℕ → ℕ → Outcome
rows zero tests limit bytes at = got [] at
rows (suc n) tests limit bytes at =
    and_then (row tests limit bytes at) (λ next. rows n tests limit bytes next)

abbrev pub untested : Test
untested v = 0

-- n numbers that are not tested
abbrev pub plain : ℕ → Limit → List ℕ → ℕ → Outcome
plain n limit bytes at = row (replicate n untested) limit bytes at

-- where reading a piece ends: the place after it, or a refusal
abbrev pub Place : Type 0
Place = Result ℕ ℕ

abbrev pub place_of : Outcome → Place
place_of (got vs next) = Ok next
place_of (refused r) = Err r

unfoldable pub then_numbers : Read → (ℕ → List ℕ) → List ℕ
then_numbers (Ok n) rest = n.value ∷ rest n.next
then_numbers (Err r) rest = []

-- the first n numbers from a place on, as far as they can be read
unfoldable pub numbers_at : ℕ → Limit → List ℕ → ℕ → List ℕ
numbers_at zero limit bytes at = []
numbers_at (suc n) limit bytes at =
    then_numbers (read_number limit bytes at) (λ next. numbers_at n limit bytes next)

-- ---- a whole form: a header, then numbers, then the end

-- what reading it gives: its header and the numbers after it, or a refusal
pub data FormRead (H : Type 0) : Type 0 where
  read_as : H → List ℕ → FormRead H
  unread : ℕ → FormRead H

-- what is read, unless n refuses it
abbrev pub read_unless : {H : Type 0} → ℕ → FormRead H → FormRead H
read_unless n o = if eqb n 0 then o else unread n

-- the numbers after a header, and then the end: 13 where bytes follow
unfoldable pub whole : {H : Type 0} → List ℕ → H → Outcome → FormRead H
whole bytes header (got vs next) = if ltb next (length bytes) then unread 13 else read_as header vs
whole bytes header (refused r) = unread r

-- document 01's number of what was read: 0, or the refusal's
unfoldable pub form_no : {H : Type 0} → FormRead H → ℕ
form_no (read_as header vs) = 0
form_no (unread r) = r

-- the numbers after the header
unfoldable pub numbers_in : {H : Type 0} → FormRead H → List ℕ
numbers_in (read_as header vs) = vs
numbers_in (unread r) = []

-- reading into room: 8, after all else, where the room is smaller than the numbers
unfoldable pub room_no : {H : Type 0} → FormRead H → List ℕ → ℕ
room_no o room =
    refusal (form_no o)
    ⨾ 8 unless leb (length (numbers_in o)) (length room)
    ⨾ ok

unfoldable pub into_room : {H : Type 0} → FormRead H → List ℕ → FormRead H
into_room o room = read_unless (room_no o room) o

-- the room after it: the numbers fill its first places; a refusal leaves it as it was
unfoldable pub after_room : {H : Type 0} → FormRead H → List ℕ → List ℕ
after_room o room = if eqb (room_no o room) 0 then sets room 0 (numbers_in o) else room

-- the end of a form whose numbers end at a place
abbrev pub ended_at : ℕ → Place → Place
ended_at end (Ok next) = if ltb next end then Err 13 else Ok next
ended_at end (Err r) = Err r

-- ---- writing

-- the written forms of numbers, one after the other
unfoldable pub forms : List ℕ → List ℕ
forms [] = []
forms (v ∷ vs) = form v ++ forms vs

-- the first refusal of a row's tests: 0 where there is none
unfoldable pub row_no : List Test → List ℕ → ℕ
row_no [] vs = 0
row_no (test ∷ tests) [] = 0
row_no (test ∷ tests) (v ∷ vs) = refusal (test v) ⨾ row_no tests vs

-- the first refusal of n rows
unfoldable pub rows_no : ℕ → List Test → List ℕ → ℕ
rows_no zero tests vs = 0
rows_no (suc n) tests vs = refusal (row_no tests vs) ⨾ rows_no n tests (drop (length tests) vs)

-- a number to be written is tested as the reader would: 12 where it is too large for the coding, then its own test
unfoldable pub as_read : Limit → Test → Test
as_read limit test v = 12 unless leb v (most_of limit) ⨾ test v

-- all the numbers are within the limit
unfoldable pub all_within : Limit → List ℕ → Bool
all_within limit vs = list_all (λ v. leb v (most_of limit)) vs

-- each of the numbers is within the limit
unfoldable pub limits_no : Limit → List ℕ → ℕ
limits_no limit vs = 12 unless all_within limit vs ⨾ ok

-- numbers from a place of a buffer on: the refusal, the answer, the buffer after it
abbrev pub numbers_written_no : Limit → List ℕ → List ℕ → ℕ → ℕ
numbers_written_no limit vs buffer at = put_no (limits_no limit vs) (forms vs) buffer at

abbrev pub numbers_written : Limit → List ℕ → List ℕ → ℕ → Written
numbers_written limit vs buffer at = put_answer (limits_no limit vs) (forms vs) buffer at

abbrev pub after_numbers : Limit → List ℕ → List ℕ → ℕ → List ℕ
after_numbers limit vs buffer at = after_put (limits_no limit vs) (forms vs) buffer at
