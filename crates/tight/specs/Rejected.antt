-- Document 01, "How tight the statements are": programs of the step, the run, the whole run and the printer, what it is to keep the call's promise, and the five that have to be rejected. They are looked at on document 01's example.
use Rattle.std.specs.Prelude.{◌≡◌, List, [], ◌∷◌, ◌++◌, ℕ, ◌*◌, ◌≤◌, length, take, drop, Ok, Err}
use Rattle.sizes.specs.declared.Sizes.{Sizes}
use Rattle.choice.specs.Refusals.{no_in}
use Rattle.numbers.specs.Coding.{Written}
use Rattle.model.specs.Records.{State, fresh}
use Rattle.model.specs.Step.{Answered, Stepped, run}
use Rattle.model.specs.declared.Event.{Event}
use Rattle.machine.specs.Log.{per_answer, answers_in}
use Rattle.machine.specs.Calls.{events_in, StepCall, RunCall, WholeRunCall}
use Rattle.printer.specs.Text.{lines_from, ok_count, refused_count, end_with, end_line, text_written_no, text_written, after_text}
use Rattle.printer.specs.Printing.{text}

-- ---- programs: what a call answers and leaves, of what it is given

-- one step: sizes, records, event
abbrev pub StepProgram : Type 0
StepProgram = Sizes → State → Event → Stepped

pub record RunLeft : Type 0 where
  pub no : ℕ
  pub state : State
  pub log : List ℕ

-- a run: sizes, records, the events' numbers, how many events, log
abbrev pub RunProgram : Type 0
RunProgram = Sizes → State → List ℕ → ℕ → List ℕ → RunLeft

pub record WholeRunLeft : Type 0 where
  pub no : ℕ
  pub log : List ℕ

-- a whole run, on records of its own
abbrev pub WholeRunProgram : Type 0
WholeRunProgram = Sizes → List ℕ → ℕ → List ℕ → WholeRunLeft

pub record PrintLeft : Type 0 where
  pub answer : Written
  pub buffer : List ℕ

-- a printer: buffer, the schedule's bytes
abbrev pub PrintProgram : Type 0
PrintProgram = List ℕ → List ℕ → PrintLeft

-- ---- a program keeps its call's promise, for every input

abbrev pub StepKept : StepProgram → Type 0
StepKept f = (z : Sizes) (s : State) (e : Event) → StepCall z s e (f z s e).answer (f z s e).state

abbrev pub RunKept : RunProgram → Type 0
RunKept f = (z : Sizes) (s : State) (ns : List ℕ) (n : ℕ) (log : List ℕ)
    → RunCall z s ns n log (f z s ns n log).no (f z s ns n log).state (f z s ns n log).log

abbrev pub WholeRunKept : WholeRunProgram → Type 0
WholeRunKept f = (z : Sizes) (ns : List ℕ) (n : ℕ) (log : List ℕ) → WholeRunCall z ns n log (f z ns n log).no (f z ns n log).log

abbrev pub PrintKept : PrintProgram → Type 0
PrintKept f = (buffer bytes : List ℕ)
    → ((f buffer bytes).answer ≡ text_written (text bytes) buffer)
    × ((f buffer bytes).buffer ≡ after_text (text bytes) buffer)
    × (no_in (f buffer bytes).answer ≡ text_written_no (text bytes) buffer)

-- ---- document 01's example

abbrev pub small : Sizes
small = record { proposers = 2; acceptors = 1; learners = 1; slots = 16; scans = 2 }

-- seven events: code, a, b
abbrev pub numbers : List ℕ
numbers = 1 ∷ 0 ∷ 0 ∷ 5 ∷ 0 ∷ 0 ∷ 2 ∷ 1 ∷ 0 ∷ 7 ∷ 0 ∷ 0 ∷ 2 ∷ 2 ∷ 0 ∷ 2 ∷ 1 ∷ 0 ∷ 7 ∷ 0 ∷ 0 ∷ []

-- the schedule's bytes: each number is below 128, and so one byte
abbrev pub example : List ℕ
example = 2 ∷ 1 ∷ 1 ∷ 16 ∷ 2 ∷ 7 ∷ numbers

-- ---- what programs that keep their promises say of the example's events

-- one step after the other
unfoldable pub said_by : StepProgram → Sizes → State → List Event → List Answered
said_by f z s [] = []
said_by f z s (e ∷ es) = (f z s e).answer ∷ said_by f z (f z s e).state es

unfoldable pub left_by : StepProgram → Sizes → State → List Event → State
left_by f z s [] = s
left_by f z s (e ∷ es) = left_by f z (f z s e).state es

-- what was printed: nothing where the buffer was refused
abbrev pub shown : Written → List ℕ → List ℕ
shown (Ok n) buffer = take n buffer
shown (Err r) buffer = []

abbrev pub printed : PrintLeft → List ℕ
printed p = shown p.answer p.buffer

-- what the seven events are said to be: by seven steps, by the log of a run or of a whole run, or by a printed text's lines, of whatever number of scans and whatever its last line counts
pub data Says : List Answered → Type 0 where
  by_steps : (f : StepProgram) → StepKept f → Says (said_by f small (fresh small) (events_in numbers 7))
  by_run : (f : RunProgram) → RunKept f → (log : List ℕ) → per_answer * 7 ≤ length log → Says (answers_in (f small (fresh small) numbers 7 log).log 7)
  by_whole_run : (f : WholeRunProgram) → WholeRunKept f → (log : List ℕ) → per_answer * 7 ≤ length log → Says (answers_in (f small numbers 7 log).log 7)
  by_text : (f : PrintProgram) → PrintKept f → (buffer : List ℕ) (s : ℕ) (ws : List Answered) (events ok refused : ℕ)
      → printed (f buffer example) ≡ lines_from s 1 ws ++ end_with events ok refused → Says ws

-- the records that the seven events leave: by seven steps, or by a run
pub data LeftBehind : State → Type 0 where
  by_steps : (f : StepProgram) → StepKept f → LeftBehind (left_by f small (fresh small) (events_in numbers 7))
  by_run : (f : RunProgram) → RunKept f → (log : List ℕ) → per_answer * 7 ≤ length log → LeftBehind (f small (fresh small) numbers 7 log).state

-- ---- the five programs

-- none of the events is ok
abbrev pub RefusesEvery : List Answered → Type 0
RefusesEvery ws = ok_count ws ≡ 0

-- none of the events is refused
abbrev pub AlwaysOk : List Answered → Type 0
AlwaysOk ws = refused_count ws ≡ 0

-- the records are fresh as they were
abbrev pub ChangesNothing : State → Type 0
ChangesNothing t = t ≡ fresh small

-- after the first event all are said to be ok
abbrev pub PretendsOk : List Answered → Type 0
PretendsOk ws = refused_count (drop 1 ws) ≡ 0

-- the records are those that the first event, truly done, leaves
abbrev pub PretendsDone : State → Type 0
PretendsDone t = t ≡ run small (fresh small) (events_in numbers 1)

-- a text's last line is not that of the lines before it
pub record InventsCounts (t : List ℕ) : Type 0 where
  pub scans : ℕ
  pub said : List Answered
  pub events : ℕ
  pub ok : ℕ
  pub refused : ℕ
  pub lines : t ≡ lines_from scans 1 said ++ end_with events ok refused
  pub invented : end_with events ok refused ≡ end_line said → ⊥
