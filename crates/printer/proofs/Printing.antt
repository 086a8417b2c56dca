-- A schedule that is read, run and printed: what is printed is the text of its bytes.
use mathlib.Core.Path.{◌≡◌, refl, sym, ap, ◌∙◌}
use mathlib.Core.Bool.{true}
use mathlib.Core.List.{List, ◌++◌, map}
use Prim.Native.Nat.{ℕ, zero, suc, ◌+◌, ◌*◌, ◌≤◌}
use native.Mathlib.Omega.{arith}
use lib.ListN.{length, drop, get_or, get_or-append}
use lib.Seq.{sets, sets-eq, length-sets}
use borrow.Author.Tests.{le-leb}
use Rattle.sizes.specs.Sizes.{sizes_in_range}
use Rattle.sizes.specs.Events.{most_events}
use Rattle.sizes.specs.declared.Sizes.{Sizes}
use Rattle.std.specs.Prelude.{Result, Ok, Err}
use Rattle.numbers.specs.Coding.{Written}
use Rattle.text.proofs.DigitLaws.{decimal-most}
use Rattle.numbers.proofs.Puts.{wrote}
use Rattle.forms.specs.Forms.{FormRead, read_as, unread, into_room, after_room}
use Rattle.forms.proofs.Rooms.{Fills, form-refused, room-enough}
use Rattle.schedule.specs.Schedule.{ScheduleRead, read_schedule, schedule_answer}
use Rattle.schedule.specs.declared.Header.{Header}
use Rattle.schedule.proofs.ScheduleLaws.{schedule-whole}
use Rattle.model.specs.Records.{fresh}
use Rattle.model.specs.Table.{from}
use Rattle.model.specs.Step.{Answered, answers}
use Rattle.model.specs.declared.Event.{Event}
use Rattle.model.specs.declared.Answer.TheVariants.{Done, Learnt, Decided}
use Rattle.model.proofs.Lists.{All, none, also}
use Rattle.model.proofs.Answers.{Named, names_none, names_learner, names_proposer, names_refusal, all_named}
use Rattle.machine.specs.Log.{per_answer, logged, answers_in}
use Rattle.machine.specs.Calls.{event_of, events_in, has_numbers, log_after_whole_run}
use Rattle.sizes.proofs.SizeLaws.{bounds}
use Rattle.machine.proofs.RunLaws.{length_from, length-answers}
use Rattle.machine.proofs.ReadBack.{Small, read_back}
use Rattle.printer.specs.Text.{run_text, refused_text, longest_text, text_written, after_text}
use Rattle.printer.specs.Printing.{text_of_run, text_of_read, text}
use Rattle.printer.proofs.Lengths.{refusal-length}
use Rattle.printer.proofs.Longest.{Short, longest}

-- ---- the answers of a run are read back from its log

named_small : (z : Sizes) → sizes_in_range z ≡ true → (w : Answered) → Named z w → Small w
named_small z h (Ok Done) names_none = tt
named_small z h (Ok (Learnt l v)) (names_learner i) = omega (arith, (bounds z h).few-learners)
named_small z h (Ok (Decided p v)) (names_proposer i) = omega (arith, (bounds z h).few-proposers)
named_small z h (Err n) (names_refusal l m) = (l, omega arith)

-- what holds of each answer that names what exists
all-answers : {z : Sizes} (Q : Answered → Type 0) → ((w : Answered) → Named z w → Q w) → {ws : List Answered} → All (Named z) ws → All Q ws
all-answers Q f none = none
all-answers Q f (also {x = w} x xs) = also (f w x) (all-answers Q f xs)

module _ (z : Sizes) (ns log : List ℕ) (n : ℕ) (h : sizes_in_range z ≡ true) (few : n ≤ most_events) (numbers : 3 * n ≤ length ns) (room : per_answer * n ≤ length log) where
  there : has_numbers ns n log ≡ true
  there = rw (le-leb (3 * n) (length ns) numbers, le-leb (per_answer * n) (length log) room)

  many : length (answers z (fresh z) (events_in ns n)) ≡ n
  many = length-answers z (fresh z) (events_in ns n) ∙ length_from (event_of ns) 0 n

  run-log : answers_in (log_after_whole_run z ns n log) n ≡ answers z (fresh z) (events_in ns n)
  run-log =
      let ws = answers z (fresh z) (events_in ns n) in
      rw (h, le-leb n most_events few, there)
      (ap (answers_in (logged ws log)) (sym many) ∙ read_back ws (drop (per_answer * length ws) log) (all-answers Small (named_small z h) (all_named z (fresh z) (events_in ns n))))

  pub run-printed : (buffer log' : List ℕ) (r : Written) (left : List ℕ) → log' ≡ log_after_whole_run z ns n log
      → (r ≡ text_written (run_text z.scans (answers_in log' n)) buffer) × (left ≡ after_text (run_text z.scans (answers_in log' n)) buffer)
      → (r ≡ text_written (text_of_run z ns n) buffer) × (left ≡ after_text (text_of_run z ns n) buffer)
  run-printed buffer log' r left e p =
      let w : answers_in log' n ≡ answers z (fresh z) (events_in ns n) = ap (λ (l : List ℕ). answers_in l n) e ∙ run-log in
      (p.0 ∙ ap (λ (ws : List Answered). text_written (run_text z.scans ws) buffer) w, p.1 ∙ ap (λ (ws : List Answered). after_text (run_text z.scans ws) buffer) w)

-- ---- the events of a schedule that is read

-- numbers behind those of the events change nothing
events-before : (ns rest : List ℕ) (k n : ℕ) → 3 * (k + n) ≤ length ns → map (event_of (ns ++ rest)) (from k n) ≡ map (event_of ns) (from k n)
unfolding from
events-before ns rest k zero h = refl
events-before ns rest k (suc n) h =
    let a : get_or (ns ++ rest) (3 * k) 0 ≡ get_or ns (3 * k) 0 = get_or-append ns rest 0 (3 * k) (omega arith) in
    let b : get_or (ns ++ rest) (3 * k + 1) 0 ≡ get_or ns (3 * k + 1) 0 = get_or-append ns rest 0 (3 * k + 1) (omega arith) in
    let d : get_or (ns ++ rest) (3 * k + 2) 0 ≡ get_or ns (3 * k + 2) 0 = get_or-append ns rest 0 (3 * k + 2) (omega arith) in
    rw (a, b, d, events-before ns rest (suc k) n (omega arith))

events-in-room : (room ns : List ℕ) (n : ℕ) → 3 * n ≤ length ns → length ns ≤ length room → events_in (sets room 0 ns) n ≡ events_in ns n
events-in-room room ns n h l = rw (sets-eq ns room 0 (omega arith)) (events-before ns (drop (0 + length ns) room) 0 n (omega arith))

-- room for 4,096 events is never too small
module _ (bytes room : List ℕ) (size : length room ≡ 12_288) where
  fills : (h : Header) (fields : List ℕ) → read_schedule bytes ≡ read_as h fields → Fills (read_as h fields) room (read_as h fields) (sets room 0 fields)
  fills h fields e = let w = schedule-whole bytes e in room-enough Header room h fields (omega (arith, w.count, w.right.count))

  pub record Ran (h : Header) : Type 0 where
    pub sizes : sizes_in_range h.sizes ≡ true
    pub few : h.events ≤ most_events
    pub numbers : 3 * h.events ≤ length (after_room (read_schedule bytes) room)
    pub same : text_of_run h.sizes (after_room (read_schedule bytes) room) h.events ≡ text bytes

  ran-by : (o : FormRead Header) → read_schedule bytes ≡ o → (h : Header) → schedule_answer (into_room o room) ≡ Ok h → Ran h
  unfolding schedule_answer text_of_read
  ran-by (read_as g fields) e h q =
      let w = schedule-whole bytes e in
      let f = fills g fields e in
      let k : g ≡ h = let z : ◌≡◌ {A = ScheduleRead} (Ok g) (Ok h) = ap schedule_answer f.0 ∙ q in cc in
      record {
        sizes = rw (← k) w.right.sizes;
        few = rw (← k) w.right.count;
        numbers = rw (e, ← f.1, length-sets room 0 fields, ← k) (omega (arith, w.right.count));
        same = rw (e, ← f.1, ← k) (ap (λ (es : List Event). run_text g.sizes.scans (answers g.sizes (fresh g.sizes) es)) (events-in-room room fields g.events (omega (arith, w.count)) (omega (arith, w.count, w.right.count))));
      }
  ran-by (unread r) e h q = absurd (let y : ◌≡◌ {A = ScheduleRead} (Err r) (Ok h) = ap schedule_answer (form-refused Header room r).0 ∙ q in let z : ◌≡◌ {A = ℕ} 0 1 = cc in omega arith)

  pub ran : (h : Header) → schedule_answer (into_room (read_schedule bytes) room) ≡ Ok h → Ran h
  ran h q = ran-by (read_schedule bytes) refl h q

  refused-by : (o : FormRead Header) → read_schedule bytes ≡ o → (r : ℕ) → schedule_answer (into_room o room) ≡ Err r → refused_text r ≡ text bytes
  unfolding schedule_answer text_of_read
  refused-by (read_as g fields) e r q = absurd (let z : ◌≡◌ {A = ScheduleRead} (Ok g) (Err r) = ap schedule_answer (fills g fields e).0 ∙ q in let y : ◌≡◌ {A = ℕ} 0 1 = cc in omega arith)
  refused-by (unread s) e r q =
      let y : ◌≡◌ {A = ScheduleRead} (Err s) (Err r) = ap schedule_answer (form-refused Header room s).0 ∙ q in
      rw e (ap refused_text (let z : r ≡ s = cc in z))

  pub refused-printed : (r : ℕ) → schedule_answer (into_room (read_schedule bytes) room) ≡ Err r → refused_text r ≡ text bytes
  refused-printed r q = refused-by (read_schedule bytes) refl r q

-- ---- no text is longer than the bound

named-short : (z : Sizes) → sizes_in_range z ≡ true → (w : Answered) → Named z w → Short w
named-short z h (Ok Done) names_none = tt
named-short z h (Ok (Learnt l v)) (names_learner i) = omega (arith, (bounds z h).few-learners)
named-short z h (Ok (Decided p v)) (names_proposer i) = omega (arith, (bounds z h).few-proposers)
named-short z h (Err n) (names_refusal l m) = omega arith

text-by : (bytes : List ℕ) (o : FormRead Header) → read_schedule bytes ≡ o → length (text_of_read o) ≤ longest_text
unfolding text_of_read
text-by bytes (read_as h fields) e =
    let w = (schedule-whole bytes e).right in
    let z = h.sizes in
    let es = events_in fields h.events in
    longest z.scans (answers z (fresh z) es) (omega (arith, length-answers z (fresh z) es, length_from (event_of fields) 0 h.events, w.count)) (all-answers Short (named-short z w.sizes) (all_named z (fresh z) es))
text-by bytes (unread r) e = omega (arith, refusal-length r, decimal-most 20 r)

-- whatever the bytes are
pub text-most : (bytes : List ℕ) → length (text bytes) ≤ longest_text
text-most bytes = text-by bytes (read_schedule bytes) refl

-- so a buffer of that length is never too short
pub never-eight : (bytes buffer : List ℕ) → longest_text ≤ length buffer → text_written (text bytes) buffer ≡ Ok (length (text bytes))
never-eight bytes buffer h =
    let n : length (text bytes) ≡ 0 + length (text bytes) = omega arith in
    sym (ap Ok n ∙ (wrote 0 (text bytes) buffer 0 refl (omega (arith, text-most bytes))).0)
