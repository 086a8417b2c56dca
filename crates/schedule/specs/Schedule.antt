-- The schedule of document 01, "Written forms".
use Rattle.std.specs.Prelude.{List, [], ◌∷◌, ◌++◌, ℕ, ◌*◌, ◌/◌, ◌%◌, eqb, leb, length, get_or, Result, Ok, Err}
use Rattle.choice.specs.Tests.{◌unless◌, refusal, ◌⨾◌, ok}
use Rattle.sizes.specs.Sizes.{sizes_in_range}
use Rattle.sizes.specs.Events.{most_events}
use Rattle.sizes.specs.declared.Sizes.{Sizes}
use Rattle.numbers.specs.Coding.{Written, most_of, put_no, put_answer, after_put}
use Rattle.numbers.specs.declared.Limit.TheVariants as limit
use Rattle.forms.specs.Forms.{Outcome, got, refused, plain, FormRead, read_as, unread, read_unless, whole, forms, all_within}
use Rattle.schedule.specs.declared.Header.{Header}

-- the six numbers P, A, L, M, S, E
unfoldable pub header_of : List ℕ → Header
header_of six =
    record {
      sizes = record {
        proposers = get_or six 0 0;
        acceptors = get_or six 1 0;
        learners = get_or six 2 0;
        slots = get_or six 3 0;
        scans = get_or six 4 0;
      };
      events = get_or six 5 0;
    }

unfoldable pub numbers_of : Header → List ℕ
numbers_of h =
    h.sizes.proposers
    ∷ h.sizes.acceptors
    ∷ h.sizes.learners
    ∷ h.sizes.slots
    ∷ h.sizes.scans
    ∷ h.events
    ∷ []

-- the six are read, then sizes tested (1), then E above 4,096 (3)
unfoldable pub header_no : Header → ℕ
header_no h =
    1 unless sizes_in_range h.sizes
    ⨾ 3 unless leb h.events most_events
    ⨾ ok

-- ---- reading

-- after the six come E events of code, a, b, and then the end; codes are not tested
unfoldable pub after_six : List ℕ → Outcome → FormRead Header
after_six bytes (got six next) =
    read_unless (header_no (header_of six))
    (whole bytes (header_of six) (plain ((header_of six).events * 3) limit.Schedule bytes next))
after_six bytes (refused r) = unread r

-- what reading a schedule gives: its header and the numbers of its events, or a refusal
unfoldable pub read_schedule : List ℕ → FormRead Header
read_schedule bytes = after_six bytes (plain 6 limit.Schedule bytes 0)

-- what it answers: the six numbers, or the refusal
abbrev pub ScheduleRead : Type 0
ScheduleRead = Result Header ℕ

unfoldable pub schedule_answer : FormRead Header → ScheduleRead
schedule_answer (read_as header fields) = Ok header
schedule_answer (unread r) = Err r

-- ---- writing

-- how many events their numbers are
abbrev pub event_count : List ℕ → ℕ
event_count fields = length fields / 3

abbrev pub header_for : Sizes → List ℕ → Header
header_for z fields = record { sizes = z; events = event_count fields }

-- a writer tests its values as the reader would; numbers that are not whole events give 1
unfoldable pub schedule_no : Sizes → List ℕ → ℕ
schedule_no z fields =
    12 unless leb (event_count fields) (most_of limit.Schedule)
    ⨾ 1 unless eqb (length fields % 3) 0
    ⨾ refusal (header_no (header_for z fields))
    ⨾ 12 unless all_within limit.Schedule fields
    ⨾ ok

-- the written form
unfoldable pub schedule_form : Sizes → List ℕ → List ℕ
schedule_form z fields = forms (numbers_of (header_for z fields)) ++ forms fields

-- a schedule at the start of a buffer: the refusal, the answer, the buffer after it
abbrev pub schedule_written_no : Sizes → List ℕ → List ℕ → ℕ
schedule_written_no z fields buffer = put_no (schedule_no z fields) (schedule_form z fields) buffer 0

abbrev pub schedule_written : Sizes → List ℕ → List ℕ → Written
schedule_written z fields buffer = put_answer (schedule_no z fields) (schedule_form z fields) buffer 0

abbrev pub after_schedule : Sizes → List ℕ → List ℕ → List ℕ
after_schedule z fields buffer = after_put (schedule_no z fields) (schedule_form z fields) buffer 0

-- ---- an answer as numbers

-- the six numbers that an answer gives, or what stood there before
abbrev pub schedule_header : ScheduleRead → List ℕ → List ℕ
schedule_header (Ok h) old = numbers_of h
schedule_header (Err r) old = old
