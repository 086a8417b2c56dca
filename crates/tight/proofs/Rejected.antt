-- None of the five programs keeps its promise: of the counts by any schedule, of the others by document 01's example.
use mathlib.Core.Path.{◌≡◌, refl, sym, ap, subst, ◌∙◌}
use mathlib.Core.Logic.{◌⊎◌, inl, inr}
use mathlib.Core.Bool.{Bool, true, false, false≢true}
use mathlib.Core.List.{List, [], ◌∷◌, ◌++◌, map}
use Prim.Native.Nat.{ℕ, ◌+◌, ◌*◌, ◌≤◌}
use native.Mathlib.Omega.{arith}
use lib.Dec.{leb}
use lib.ListN.{length, take, drop}
use lib.Seq.{sets-eq, take-append_seam}
use borrow.Author.Tests.{le-leb, leb-true, leb-false}
use Rattle.std.specs.Prelude.{Ok, Err}
use Rattle.sizes.specs.Sizes.{sizes_in_range}
use Rattle.sizes.specs.declared.Sizes.{Sizes}
use Rattle.sets.specs.Scans.{only, holds}
use Rattle.numbers.proofs.Puts.{no_room, wrote, put-number}
use Rattle.forms.specs.Forms.{FormRead, read_as, unread}
use Rattle.schedule.specs.Schedule.{read_schedule}
use Rattle.schedule.specs.declared.Header.{Header}
use Rattle.text.specs.Words.{bytes}
use Rattle.text.specs.Digits.{decimal_of, digits_of}
use Rattle.model.specs.Records.{State, fresh, learner_of}
use Rattle.model.specs.Table.{from}
use Rattle.model.specs.Ranges.{records_in_range}
use Rattle.model.specs.Step.{Answered, step, run, answers}
use Rattle.model.specs.declared.Event.{Event}
use Rattle.model.specs.declared.Answer.TheVariants.{Done, Learnt, Decided}
use Rattle.model.proofs.Lists.{All, none, also}
use Rattle.model.proofs.Answers.{Named, all_named}
use Rattle.model.proofs.Computing.{the_sets, the_step, settled_run, run_settled}
use Rattle.model.proofs.Examples.{seven-answers}
use Rattle.machine.specs.Log.{per_answer, logged, answers_in}
use Rattle.machine.specs.Calls.{events_in, has_numbers, run_no, after_run, log_after_run, whole_run_no, log_after_whole_run}
use Rattle.printer.specs.Text.{set_width, set_text, lines, lines_from, ok_count, refused_count, end_with, end_line, run_text, text_written, after_text}
use Rattle.printer.specs.Printing.{text_of_read, text}
use Rattle.printer.proofs.Example.{example-text}
use Rattle.tight.specs.Rejected.{StepProgram, PrintProgram, StepKept, RunKept, WholeRunKept, PrintKept, small, numbers, example, said_by, left_by, shown, printed, Says, LeftBehind, RefusesEvery, AlwaysOk, ChangesNothing, PretendsOk, PretendsDone, InventsCounts}
use Rattle.machine.proofs.AnswerNumbers.{step-number}
use Rattle.machine.proofs.ReadBack.{Small, read_back}
use Rattle.tight.proofs.One.{one-step, one-run}
use Rattle.tight.proofs.Texts.{refusal-no-run, nothing-no-run, Alike, ok_same, refused-same, later-alike, one-text}

-- ---- there are programs that keep their promises

pub step_kept : StepKept step
step_kept z s e = (refl, (step-number z s e, (refl, (refl, (refl, refl)))))

pub run-kept : RunKept (λ z s ns n log. record { no = run_no z s ns n log; state = after_run z s ns n log; log = log_after_run z s ns n log })
run-kept z s ns n log = (refl, ((refl, (refl, (refl, refl))), refl))

pub whole-run-kept : WholeRunKept (λ z ns n log. record { no = whole_run_no z ns n log; log = log_after_whole_run z ns n log })
whole-run-kept z ns n log = (refl, refl)

pub print-kept : PrintKept (λ buffer bytes. record { answer = text_written (text bytes) buffer; buffer = after_text (text bytes) buffer })
print-kept buffer bytes = (refl, refl, put-number 0 (text bytes) buffer 0)

-- ---- programs of the step, called with one event after the other

module _ (f : StepProgram) (k : StepKept f) (z : Sizes) where
  one-called : (s : State) (e : Event) → ((f z s e).answer ≡ (step z s e).answer) × ((f z s e).state ≡ (step z s e).state)
  one-called s e = one-step z s e (k z s e) (step_kept z s e)

  steps-say : (s : State) (es : List Event) → said_by f z s es ≡ answers z s es
  unfolding said_by answers
  steps-say s [] = refl
  steps-say s (e ∷ es) = rw ((one-called s e).0, (one-called s e).1, steps-say (step z s e).state es)

  steps-leave : (s : State) (es : List Event) → left_by f z s es ≡ run z s es
  unfolding left_by run
  steps-leave s [] = refl
  steps-leave s (e ∷ es) = rw (one-called s e).1 (steps-leave (step z s e).state es)

-- ---- the example

-- what document 01 says of its events
abbrev learnt : Answered
learnt = Ok (Learnt (record { 0 = 0 }) (only 0))

abbrev decided : Answered
decided = Ok (Decided (record { 0 = 0 }) (only 0))

abbrev seven : List Answered
seven = Ok Done ∷ Ok Done ∷ Ok Done ∷ Err 6 ∷ learnt ∷ Ok Done ∷ decided ∷ []

run-says : answers small (fresh small) (events_in numbers 7) ≡ seven
unfolding from
run-says = seven-answers

all-seven : All (Named small) seven
all-seven = subst (All (Named small)) run-says (all_named small (fresh small) (events_in numbers 7))

small-seven : All Small seven
small-seven = also tt (also tt (also tt (also {x = Err 6} (omega arith, omega arith) (also {x = learnt} (omega arith) (also tt (also {x = decided} (omega arith) none))))))

-- where there is room for their answers
module _ (log : List ℕ) (h : per_answer * 7 ≤ length log) where
  enough : has_numbers numbers 7 log ≡ true
  enough = rw (le-leb (per_answer * 7) (length log) h)

  in-range : records_in_range small (fresh small) ≡ true
  unfolding the_step
  in-range = refl

  in-sizes : sizes_in_range small ≡ true
  unfolding the_sets
  in-sizes = refl

  run-state : after_run small (fresh small) numbers 7 log ≡ run small (fresh small) (events_in numbers 7)
  run-state = rw (in-range, enough)

  run-log : log_after_run small (fresh small) numbers 7 log ≡ logged seven log
  run-log = rw (in-range, enough, run-says)

  whole-log : log_after_whole_run small numbers 7 log ≡ logged seven log
  whole-log = rw (in-sizes, enough, run-says)

  logged-back : answers_in (logged seven log) 7 ≡ seven
  logged-back = read_back seven (drop (per_answer * 7) log) small-seven

-- ---- printed texts

shown_by : (t buffer : List ℕ) (b : Bool) → leb (0 + length t) (length buffer) ≡ b → (shown (text_written t buffer) (after_text t buffer) ≡ []) ⊎ (shown (text_written t buffer) (after_text t buffer) ≡ t)
shown_by t buffer false h = inl (rw (← (no_room 0 t buffer 0 refl (leb-false (0 + length t) (length buffer) h)).0))
shown_by t buffer true h =
    let l = leb-true (0 + length t) (length buffer) h in
    let w = wrote 0 t buffer 0 refl l in
    let n : 0 + length t ≡ length t = omega arith in
    let rest = drop (0 + length t) buffer in
    inr (rw (← w.0, ← w.1) (ap (take (0 + length t)) (sets-eq t buffer 0 l) ∙ ap (λ (k : ℕ). take k (t ++ rest)) n ∙ take-append_seam t rest))

-- nothing, or the text of the bytes
module _ (f : PrintProgram) (k : PrintKept f) (buffer : List ℕ) where
  text-shown : (bytes : List ℕ) → (printed (f buffer bytes) ≡ []) ⊎ (printed (f buffer bytes) ≡ text bytes)
  text-shown bytes =
      rw ((k buffer bytes).0, (k buffer bytes).1)
      (shown_by (text bytes) buffer (leb (0 + length (text bytes)) (length buffer)) refl)

  -- a text of a run is the whole text
  run-shown : (bytes : List ℕ) (s : ℕ) (ws : List Answered) (a b c : ℕ) → printed (f buffer bytes) ≡ lines_from s 1 ws ++ end_with a b c → text bytes ≡ lines_from s 1 ws ++ end_with a b c
  run-shown bytes s ws a b c e = elim (text-shown bytes) [
    | inl h ↦ absurd (nothing-no-run s ws a b c (sym h ∙ e))
    | inr h ↦ sym h ∙ e
  ]

-- its last line is that of its lines
counts-true : (o : FormRead Header) (s : ℕ) (ws : List Answered) (a b c : ℕ) → text_of_read o ≡ lines_from s 1 ws ++ end_with a b c → end_with a b c ≡ end_line ws
unfolding text_of_read
counts-true (read_as h fields) s ws a b c e =
    let z = h.sizes in
    (one-text z (all_named z (fresh z) (events_in fields h.events)) s ws a b c (sym e)).1
counts-true (unread r) s ws a b c e = absurd (refusal-no-run r s ws a b c e)

example-says : text example ≡ run_text small.scans seven
unfolding the_sets set_width set_text lines lines_from ok_count refused_count run_text decimal_of digits_of bytes
example-says = example-text

-- ---- what is said, and what is left

is-alike : {ws us : List Answered} → ws ≡ us → Alike ws us
is-alike e = record { same = ap (map _) e }

says-seven : {ws : List Answered} → Says ws → Alike ws seven
says-seven (Says.by_steps f k) = is-alike (steps-say f k small (fresh small) (events_in numbers 7) ∙ run-says)
says-seven (Says.by_run f k log h) =
    is-alike (ap (λ (l : List ℕ). answers_in l 7) ((k small (fresh small) numbers 7 log).1.1 ∙ run-log log h) ∙ logged-back log h)
says-seven (Says.by_whole_run f k log h) = is-alike (ap (λ (l : List ℕ). answers_in l 7) ((k small numbers 7 log).1 ∙ whole-log log h) ∙ logged-back log h)
says-seven (Says.by_text f k buffer s ws a b c e) = (one-text small all-seven s ws a b c (sym (run-shown f k buffer example s ws a b c e) ∙ example-says)).0

leaves_run : {t : State} → LeftBehind t → t ≡ run small (fresh small) (events_in numbers 7)
leaves_run (LeftBehind.by_steps f k) = steps-leave f k small (fresh small) (events_in numbers 7)
leaves_run (LeftBehind.by_run f k log h) =
    (one-run small (fresh small) numbers 7 log (k small (fresh small) numbers 7 log) (run-kept small (fresh small) numbers 7 log)).1.0 ∙ run-state log h

-- the learner has learnt scan 0: not at first, nor after the first event, but at the end
learnt₀ : State → Bool
learnt₀ s = holds (learner_of s 0).learnt 0

fresh-not : learnt₀ (fresh small) ≡ false
unfolding learnt₀ the_step
fresh-not = refl

first-not : learnt₀ (run small (fresh small) (events_in numbers 1)) ≡ false
unfolding learnt₀ from the_step settled_run
first-not = ap learnt₀ (run_settled small (fresh small) (events_in numbers 1))

seven-has : learnt₀ (run small (fresh small) (events_in numbers 7)) ≡ true
unfolding learnt₀ from the_step settled_run
seven-has = ap learnt₀ (run_settled small (fresh small) (events_in numbers 7))

-- six of the seven are ok, one is refused, and it is not the first
six-ok : ok_count seven ≡ 6
unfolding ok_count
six-ok = refl

one-refused : refused_count seven ≡ 1
unfolding refused_count
one-refused = refl

later-refused : refused_count (drop 1 seven) ≡ 1
unfolding refused_count
later-refused = refl

-- ---- the five

pub refuses-every-rejected : (ws : List Answered) → Says ws → RefusesEvery ws → ⊥
refuses-every-rejected ws x h = omega (arith, ok_same (says-seven x), six-ok)

pub always-ok-rejected : (ws : List Answered) → Says ws → AlwaysOk ws → ⊥
always-ok-rejected ws x h = omega (arith, refused-same (says-seven x), one-refused)

pub changes-nothing-rejected : (t : State) → LeftBehind t → ChangesNothing t → ⊥
changes-nothing-rejected t x h = false≢true (sym fresh-not ∙ ap learnt₀ (sym h ∙ leaves_run x) ∙ seven-has)

-- in what it says, and in what it leaves
pub pretends-rejected : ((ws : List Answered) → Says ws → PretendsOk ws → ⊥) × ((t : State) → LeftBehind t → PretendsDone t → ⊥)
pretends-rejected = (
  λ ws x h. omega (arith, refused-same (later-alike (says-seven x)), later-refused),
  λ t x h. false≢true (sym first-not ∙ ap learnt₀ (sym h ∙ leaves_run x) ∙ seven-has),
)

-- whatever is printed, of any schedule
pub counts-rejected : (f : PrintProgram) → PrintKept f → (buffer bytes : List ℕ) → InventsCounts (printed (f buffer bytes)) → ⊥
counts-rejected f k buffer bytes x =
    x.invented (counts-true (read_schedule bytes) x.scans x.said x.events x.ok x.refused (run-shown f k buffer bytes x.scans x.said x.events x.ok x.refused x.lines))
