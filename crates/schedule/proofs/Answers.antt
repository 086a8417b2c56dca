-- The answers of the reader and of the writer, each with the room or the buffer after it. Assumes nothing.
use mathlib.Core.Path.{◌≡◌, refl, ap, ◌∙◌}
use mathlib.Core.List.{List}
use Prim.Native.Nat.{ℕ, ◌+◌, ◌≤◌, ◌<◌}
use native.Mathlib.Omega.{arith}
use lib.ListN.{length, length-append}
use lib.Seq.{sets}
use Rattle.sizes.specs.declared.Sizes.{Sizes}
use Rattle.numbers.proofs.Ends.{Ends, ends-append}
use Rattle.numbers.proofs.Puts.{Puts, no_room, put-wrote}
use Rattle.forms.specs.Forms.{FormRead, read_as, unread, form_no, room_no, into_room, after_room, forms}
use Rattle.forms.proofs.Rooms.{Fills, form-refused, room-short, room-enough}
use Rattle.schedule.specs.Schedule.{numbers_of, schedule_answer, header_for, schedule_no, schedule_form}
use Rattle.std.specs.Prelude.{Ok, Err}
use Rattle.choice.specs.Refusals.{no_in}
use Rattle.schedule.specs.Schedule.{ScheduleRead}
use Rattle.schedule.specs.declared.Header.{Header}

-- ---- reading

-- an answer has the number of what was read
pub answer-number : (o : FormRead Header) → no_in (schedule_answer o) ≡ form_no o
unfolding schedule_answer form_no
answer-number (read_as header fields) = refl
answer-number (unread r) = refl

pub answered : (o : FormRead Header) {a : ScheduleRead} → a ≡ schedule_answer o → (a ≡ schedule_answer o) × (no_in a ≡ form_no o)
answered o e = (e, ap no_in e ∙ answer-number o)

-- reading o into room answers a and leaves e; a has the number of the refusal
abbrev pub Reads : FormRead Header → List ℕ → ScheduleRead → List ℕ → Type 0
Reads o room a e = (a ≡ schedule_answer (into_room o room)) × (e ≡ after_room o room) × (no_in a ≡ room_no o room)

reads : (o f : FormRead Header) (room e : List ℕ) → Fills o room f e → Reads o room (schedule_answer f) e
reads o f room e w = (ap schedule_answer w.0, w.1, answer-number f ∙ w.2)

module _ (room : List ℕ) where
  -- the form is refused
  pub no-form : (r : ℕ) → Reads (unread r) room (Err r) room
  unfolding schedule_answer
  no-form r = reads (unread r) (unread r) room room (form-refused Header room r)

  -- the room is too small
  pub small : (h : Header) (fields : List ℕ) → length room < length fields → Reads (read_as h fields) room (Err 8) room
  unfolding schedule_answer
  small h fields l = reads (read_as h fields) (unread 8) room room (room-short Header room h fields l)

  -- the events fill its first places
  pub filled : (h : Header) (fields : List ℕ) → length fields ≤ length room → Reads (read_as h fields) room (Ok h) (sets room 0 fields)
  unfolding schedule_answer
  filled h fields l = reads (read_as h fields) (read_as h fields) room (sets room 0 fields) (room-enough Header room h fields l)

-- ---- writing

-- how many bytes a schedule takes
pub form-length : (z : Sizes) (fields : List ℕ) → length (schedule_form z fields) ≡ length (forms (numbers_of (header_for z fields))) + length (forms fields)
unfolding schedule_form
form-length z fields = length-append (forms (numbers_of (header_for z fields))) (forms fields)

module _ (z : Sizes) (fields d : List ℕ) where
  -- the buffer is too short
  pub short : schedule_no z fields ≡ 0 → length d < length (schedule_form z fields) → Puts (schedule_no z fields) (schedule_form z fields) d 0 (Err 8) d
  short h l = no_room (schedule_no z fields) (schedule_form z fields) d 0 h (omega arith)

  -- the six are put and then the events
  pub both : {m n : ℕ} {b e : List ℕ} → schedule_no z fields ≡ 0 → length (schedule_form z fields) ≤ length d
      → Ends (forms (numbers_of (header_for z fields))) d 0 m b → Ends (forms fields) b m n e → Puts (schedule_no z fields) (schedule_form z fields) d 0 (Ok n) e
  unfolding schedule_form
  both h l p q = put-wrote (schedule_no z fields) (schedule_form z fields) d 0 h (omega arith) (ends-append (forms (numbers_of (header_for z fields))) (forms fields) d 0 p q)
