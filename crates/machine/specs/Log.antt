-- The log of a run: how an answer is written as numbers, and how it is read back.
use Rattle.std.specs.Prelude.{List, [], ◌∷◌, ◌++◌, map, ℕ, ◌+◌, ◌*◌, ◌%◌, eqb, ltb, length, drop, get_or}
use Rattle.std.proofs.lemmas.List.Edits.{sets}
use Rattle.std.specs.Prelude.{if◌then◌else◌, Ok, Err}
use Rattle.model.specs.Table.{from}
use Rattle.model.specs.declared.Answer.TheVariants.{Done, Learnt, Decided}
use Rattle.model.specs.Step.{Answered}

-- ---- one answer

-- how many numbers of a log it has
abbrev pub per_answer : ℕ
per_answer = 2

-- the first: 0 for ok, a refusal's number, 256 and the learner, 512 and the proposer
unfoldable pub said_no : Answered → ℕ
said_no (Ok Done) = 0
said_no (Ok (Learnt l v)) = 256 + l.0
said_no (Ok (Decided p v)) = 512 + p.0
said_no (Err n) = n

-- the set learnt or decided, scan 0 the lowest bit
unfoldable pub said_set : Answered → ℕ
said_set (Ok Done) = 0
said_set (Ok (Learnt l v)) = v.bits
said_set (Ok (Decided p v)) = v.bits
said_set (Err n) = 0

abbrev pub said_numbers : Answered → List ℕ
said_numbers w = said_no w ∷ said_set w ∷ []

-- the answer that a first number and a set say
unfoldable pub read_answer_of : ℕ → ℕ → Answered
read_answer_of code set =
    if eqb code 0
    then Ok Done
    else (if ltb code 256
    then Err code
    else (if ltb code 512
    then Ok (Learnt (record { 0 = code % 256 }) (record { bits = set }))
    else Ok (Decided (record { 0 = code % 256 }) (record { bits = set }))))

-- the answer whose numbers come first
abbrev pub read_numbers : List ℕ → Answered
read_numbers ns = read_answer_of (get_or ns 0 0) (get_or ns 1 0)

-- ---- a log

-- the answers as they stand in it
unfoldable pub said : List Answered → List ℕ
said [] = []
said (w ∷ ws) = said_numbers w ++ said ws

-- what stands past them stays
abbrev pub logged : List Answered → List ℕ → List ℕ
logged ws log = said ws ++ drop (per_answer * length ws) log

-- answer k noted
abbrev pub noted : List ℕ → ℕ → Answered → List ℕ
noted log k w = sets log (per_answer * k) (said_numbers w)

-- answer k read
abbrev pub answer_at : List ℕ → ℕ → Answered
answer_at log k = read_numbers (drop (per_answer * k) log)

-- the first n of them
abbrev pub answers_in : List ℕ → ℕ → List Answered
answers_in log n = map (answer_at log) (from 0 n)
