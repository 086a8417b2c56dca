-- Document 01, the end of "Written forms": what the run printer prints.
use Rattle.std.specs.Prelude.{List, [], ◌∷◌, ◌++◌, ℕ, suc, ◌+◌, ◌*◌, eqb, length, Ok, Err}
use Rattle.std.specs.Prelude.{if◌then◌else◌}
use Rattle.sets.specs.Scans.{first_word}
use Rattle.sets.specs.declared.scans.Scans.{Scans}
use Rattle.sizes.specs.Events.{most_events}
use Rattle.numbers.specs.Coding.{Written, put_no, put_answer, after_put}
use Rattle.text.specs.Words.{bytes}
use Rattle.text.specs.Digits.{decimal, hex_of}
use Rattle.model.specs.Step.{Answered, answer_no}
use Rattle.model.specs.declared.Answer.TheVariants.{Done, Learnt, Decided}

-- ---- a set of a run of s scans: hex digits, lower case, the highest first, scan 0 the lowest bit

-- how many digits every set of the run has: 16, whatever s is
unfoldable pub set_width : ℕ → ℕ
set_width s = 16

-- they are those of its first word, which holds all scans that a run can have
unfoldable pub set_text : ℕ → Scans → List ℕ
set_text s v = hex_of (set_width s) (first_word v)

-- no run's sets have more digits
abbrev pub widest_set : ℕ
widest_set = 16

-- ---- one event of a run of s scans: its place, then ok, or refused and the number

abbrev pub ok_line : ℕ → List ℕ
ok_line place = decimal place ++ bytes " ok\n"

abbrev pub refused_line : ℕ → ℕ → List ℕ
refused_line place n = decimal place ++ bytes " refused " ++ decimal n ++ bytes "\n"

-- its place, a word, a party and its set
abbrev pub set_line : ℕ → ℕ → List ℕ → ℕ → Scans → List ℕ
set_line s place word party v = decimal place ++ word ++ decimal party ++ bytes " " ++ set_text s v ++ bytes "\n"

-- a Deliver that changes a learnt set adds place, learnt, learner, the set
abbrev pub learnt_line : ℕ → ℕ → ℕ → Scans → List ℕ
learnt_line s place learner v = set_line s place (bytes " learnt ") learner v

-- a Decide adds place, decided, proposer, set
abbrev pub decided_line : ℕ → ℕ → ℕ → Scans → List ℕ
decided_line s place proposer v = set_line s place (bytes " decided ") proposer v

unfoldable pub lines : ℕ → ℕ → Answered → List ℕ
lines s place (Ok Done) = ok_line place
lines s place (Ok (Learnt l v)) = ok_line place ++ learnt_line s place l.0 v
lines s place (Ok (Decided p v)) = ok_line place ++ decided_line s place p.0 v
lines s place (Err n) = refused_line place n

-- ---- a run of s scans: its events from a place on, then end, events, ok count, refused count

unfoldable pub lines_from : ℕ → ℕ → List Answered → List ℕ
lines_from s place [] = []
lines_from s place (w ∷ ws) = lines s place w ++ lines_from s (suc place) ws

unfoldable pub ok_count : List Answered → ℕ
ok_count [] = 0
ok_count (w ∷ ws) = if eqb (answer_no w) 0 then suc (ok_count ws) else ok_count ws

unfoldable pub refused_count : List Answered → ℕ
refused_count [] = 0
refused_count (w ∷ ws) = if eqb (answer_no w) 0 then refused_count ws else suc (refused_count ws)

abbrev pub end_with : ℕ → ℕ → ℕ → List ℕ
end_with events ok refused = bytes "end " ++ decimal events ++ bytes " " ++ decimal ok ++ bytes " " ++ decimal refused ++ bytes "\n"

abbrev pub end_line : List Answered → List ℕ
end_line ws = end_with (length ws) (ok_count ws) (refused_count ws)

unfoldable pub run_text : ℕ → List Answered → List ℕ
run_text s ws = lines_from s 1 ws ++ end_line ws

-- no text of at most 4,096 events of a run is longer: 24 bytes and a set for each, and 19 for the last line
abbrev pub longest_text : ℕ
longest_text = most_events * (24 + widest_set) + 19

-- ---- a refused schedule prints only this

unfoldable pub refused_text : ℕ → List ℕ
refused_text n = bytes "schedule refused " ++ decimal n ++ bytes "\n"

-- ---- a text at the start of a buffer: the refusal (8 alone), the answer, the buffer after it

abbrev pub text_written_no : List ℕ → List ℕ → ℕ
text_written_no text buffer = put_no 0 text buffer 0

abbrev pub text_written : List ℕ → List ℕ → Written
text_written text buffer = put_answer 0 text buffer 0

abbrev pub after_text : List ℕ → List ℕ → List ℕ
after_text text buffer = after_put 0 text buffer 0
