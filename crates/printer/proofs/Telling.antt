-- The text of a schedule that is read tells the answers of a safe run of the events that stand there.
use mathlib.Core.Path.{◌≡◌, sym, ap, ◌∙◌}
use mathlib.Core.List.{List, [], ◌∷◌, map}
use Prim.Native.Nat.{ℕ, zero, suc, ◌+◌, ◌*◌}
use native.Mathlib.Omega.{arith}
use native.Mathlib.Numerals.{add-one, add-two}
use lib.ListN.{length, take, drop, get_or, drop_of_length-le}
use lib.Seq.{drop-cons}
use Rattle.sizes.specs.declared.Sizes.{Sizes}
use Rattle.forms.specs.Forms.{read_as}
use Rattle.schedule.specs.Schedule.{schedule_form, read_schedule}
use Rattle.schedule.specs.declared.Header.{Header}
use Rattle.schedule.proofs.ScheduleLaws.{Bytes, schedule-whole, schedule-one-form}
use Rattle.model.specs.Records.{State, fresh}
use Rattle.model.specs.Table.{from}
use Rattle.model.specs.Step.{Answered, step, run, answers}
use Rattle.model.specs.Safety.{moment}
use Rattle.model.specs.declared.Event.{Event}
use Rattle.std.specs.Prelude.{Ok, Err}
use Rattle.model.specs.declared.Answer.TheVariants.{Done, Learnt, Decided}
use Rattle.model.proofs.Answers.{Says, is_fine, is_learnt, is_decided, is_refused, answer-says}
use Rattle.model.proofs.Safety.{safe}
use Rattle.machine.specs.Calls.{event_of, events_in}
use Rattle.printer.specs.Printing.{text_of_read}
use Rattle.printer.specs.Telling.{event_numbers, IsSo, Tells}

-- ---- the events that stand there

-- whole events are all of their numbers, from event k on
numbers-from : (ns : List ℕ) (k n : ℕ) → length ns ≡ 3 * (k + n) → event_numbers (map (event_of ns) (from k n)) ≡ drop (3 * k) ns
unfolding from event_numbers
numbers-from ns k zero l = sym (drop_of_length-le ns {i = 3 * k} (omega arith))
numbers-from ns k (suc n) l =
    let p : 3 * suc k ≡ suc (suc (suc (3 * k))) = omega arith in
    let rest : event_numbers (map (event_of ns) (from (suc k) n)) ≡ drop (suc (suc (suc (3 * k)))) ns = numbers-from ns (suc k) n (omega arith) ∙ ap (λ (i : ℕ). drop i ns) p in
    rw (add-one (3 * k), add-two (3 * k), rest)
    (sym (drop-cons ns (3 * k) 0 (omega arith) ∙ rw (drop-cons ns (suc (3 * k)) 0 (omega arith), drop-cons ns (suc (suc (3 * k))) 0 (omega arith))))

numbers-in : (ns : List ℕ) (n : ℕ) → length ns ≡ n * 3 → event_numbers (events_in ns n) ≡ ns
numbers-in ns n l = numbers-from ns 0 n (omega arith)

-- ---- what is said is so

says_so : (z : Sizes) (s : State) (w : Answered) → Says z s w → IsSo z s w
unfolding IsSo
says_so z s (Ok Done) is_fine = tt
says_so z s (Ok (Learnt _ _)) (is_learnt l v i h) = (i, h)
says_so z s (Ok (Decided _ _)) (is_decided p v i h) = (i, h)
says_so z s (Err _) (is_refused n l m) = tt

-- each answer of a run, after its event
answers-so : (z : Sizes) (s : State) (es : List Event) (i : ℕ) → IsSo z (run z s (take (suc i) es)) (get_or (answers z s es) i (Ok Done))
unfolding answers run IsSo
answers-so z s [] i = tt
answers-so z s (e ∷ es) zero = says_so z (step z s e).state (step z s e).answer (answer-says z s e)
answers-so z s (e ∷ es) (suc i) = answers-so z (step z s e).state es i

-- ---- the theorem

-- for every schedule that is read
pub tells : (bytes : List ℕ) {h : Header} {fields : List ℕ} → Bytes bytes → read_schedule bytes ≡ read_as h fields → Tells bytes h.sizes (events_in fields h.events)
unfolding text_of_read moment
tells bytes {h} {fields} b e =
    let z = h.sizes in
    let es = events_in fields h.events in
    record {
      written = (schedule-one-form bytes b e).written ∙ ap (schedule_form z) (sym (numbers-in fields h.events (schedule-whole bytes e).count));
      printed = ap text_of_read e;
      safe = safe z es;
      so = answers-so z (fresh z) es;
    }
