-- A run on lent records is the model's run: one step agrees with the model's step, and a run is its steps.
use mathlib.Core.Path.{◌≡◌, refl, sym, ◌∙◌, ap, ap₂, subst}
use mathlib.Core.Bool.{Bool, true, false}
use mathlib.Core.List.{List, [], ◌∷◌, ◌++◌, map}
use Prim.Native.Nat.{ℕ, zero, suc, ◌+◌, ◌*◌, ◌≤◌}
use native.Mathlib.Nat.{not-suc-le-zero, add-zero}
use native.Mathlib.Omega.{arith}
use lib.Dec.{eqb, leb}
use lib.ListN.{length, drop, length-append, length-drop}
use lib.Seq.{sets, sets-eq, take-append_seam, drop-append-add, drop-drop}
use borrow.Author.Tests.{leb-true}
use Rattle.std.specs.Prelude.{if◌then◌else◌}
use Rattle.sizes.specs.Events.{most_events}
use Rattle.sizes.specs.declared.Sizes.{Sizes}
use Rattle.model.specs.Records.{State}
use Rattle.model.specs.Table.{from}
use Rattle.choice.specs.Tests.{◌unless◌, ◌⨾◌, ok}
use Rattle.model.specs.Ranges.{records_in_range}
use Rattle.model.specs.Step.{Answered, step, run, answers}
use Rattle.model.specs.declared.Proposer.{Proposer}
use Rattle.model.specs.declared.Acceptor.{Acceptor}
use Rattle.model.specs.declared.Learner.{Learner}
use Rattle.model.specs.declared.Message.{Message}
use Rattle.model.specs.declared.Event.{Event}
use Rattle.choice.proofs.Tests.{and_l, and_r}
use Rattle.model.proofs.InRange.{test-ranges, sizes-in-range, step-in-range}
use Rattle.machine.specs.Stepping.{Fits, step_of}
use Rattle.machine.specs.Running.{Ran, onward, ran_to, driven, Drives}
use Rattle.machine.specs.Log.{per_answer, said_numbers, said, logged, noted}
use Rattle.machine.specs.Calls.{event_of, events_in, lent, has_numbers, run_no, after_run, log_after_run}
use Rattle.machine.proofs.StepLaws.{Agrees, step-agrees}

-- ---- one event more

map_next : {B : Type 0} (f : ℕ → B) (i n : ℕ) → map f (from i (suc n)) ≡ map f (from i n) ++ (f (i + n) ∷ [])
unfolding from
map_next {B} f i zero = ap (λ (k : ℕ). f k ∷ []) (sym (add-zero i))
map_next {B} f i (suc n) = ap (λ (l : List B). f i ∷ l) (map_next f (suc i) n ∙ ap (λ (k : ℕ). map f (from (suc i) n) ++ (f k ∷ [])) (omega arith))

events-next : (ns : List ℕ) (n : ℕ) → events_in ns (suc n) ≡ events_in ns n ++ (event_of ns n ∷ [])
events-next ns n = map_next (event_of ns) 0 n ∙ ap (λ (k : ℕ). events_in ns n ++ (event_of ns k ∷ [])) (omega arith)

pub length_from : {B : Type 0} (f : ℕ → B) (i n : ℕ) → length (map f (from i n)) ≡ n
unfolding from
length_from f i zero = refl
length_from f i (suc n) = ap suc (length_from f (suc i) n)

module _ (z : Sizes) where
  pub run-next : (s : State) (es : List Event) (e : Event) → run z s (es ++ (e ∷ [])) ≡ (step z (run z s es) e).state
  unfolding run
  run-next s [] e = refl
  run-next s (x ∷ es) e = run-next (step z s x).state es e

  answers_next : (s : State) (es : List Event) (e : Event) → answers z s (es ++ (e ∷ [])) ≡ answers z s es ++ ((step z (run z s es) e).answer ∷ [])
  unfolding run answers
  answers_next s [] e = refl
  answers_next s (x ∷ es) e = ap (λ (ws : List Answered). (step z s x).answer ∷ ws) (answers_next (step z s x).state es e)

  pub length-answers : (s : State) (es : List Event) → length (answers z s es) ≡ length es
  unfolding answers
  length-answers s [] = refl
  length-answers s (e ∷ es) = ap suc (length-answers (step z s e).state es)

  -- records in range stay so
  run-keeps : (s : State) (es : List Event) → records_in_range z s ≡ true → records_in_range z (run z s es) ≡ true
  unfolding run
  run-keeps s [] h = h
  run-keeps s (e ∷ es) h = run-keeps (step z s e).state es (step-in-range z s e h)

-- ---- one answer more in the log

said-next : (ws : List Answered) (w : Answered) → said (ws ++ (w ∷ [])) ≡ said ws ++ said_numbers w
unfolding said
said-next [] w = refl
said-next (x ∷ ws) w = ap (λ (l : List ℕ). said_numbers x ++ l) (said-next ws w)

length-said : (ws : List Answered) → length (said ws) ≡ per_answer * length ws
unfolding said
length-said [] = refl
length-said (w ∷ ws) = omega (arith, length-said ws)

-- numbers stored past p
stored : (p q ns : List ℕ) → length ns ≤ length q → sets (p ++ q) (length p) ns ≡ p ++ ns ++ drop (length ns) q
stored p q ns h = sets-eq ns (p ++ q) (length p) (rw (length-append p q) (omega arith)) ∙ rw (take-append_seam p q, drop-append-add p q (length ns))

one_more : (ws : List Answered) (w : Answered) → per_answer * length ws + per_answer ≡ per_answer * length (ws ++ (w ∷ []))
one_more ws w = omega (arith, length-append ws (w ∷ []))

noted-next : (ws : List Answered) (w : Answered) (log : List ℕ) (n : ℕ) → length ws ≡ n → per_answer * suc n ≤ length log → noted (logged ws log) n w ≡ logged (ws ++ (w ∷ [])) log
noted-next ws w log n e h =
    let rest = drop (per_answer * length ws) log in
    ap (λ (k : ℕ). sets (logged ws log) k (said_numbers w)) (ap (λ (k : ℕ). per_answer * k) (sym e) ∙ sym (length-said ws))
    ∙ stored (said ws) rest (said_numbers w) (omega (arith, length-drop (per_answer * length ws) log))
    ∙ ap (λ (l : List ℕ). l ++ drop per_answer rest) (sym (said-next ws w))
    ∙ ap (λ (l : List ℕ). said (ws ++ (w ∷ [])) ++ l) (drop-drop per_answer (per_answer * length ws) log ∙ ap (λ (k : ℕ). drop k log) (one_more ws w))

-- ---- the run

-- a run on lent records that ends with the records of s and with the numbers of a log
pub record Ends (r : Ran) (s : State) (numbers : List ℕ) : Type 0 where
  pub proposers : r.proposers ≡ s.proposers
  pub acceptors : r.acceptors ≡ s.acceptors
  pub learners : r.learners ≡ s.learners
  pub slots : r.slots ≡ s.slots
  pub log : r.log ≡ numbers

abbrev left : Ran → State
left r = lent r.proposers r.acceptors r.learners r.slots

same-state : {r : Ran} {s : State} {numbers : List ℕ} → Ends r s numbers → left r ≡ s
same-state x = λ i. record { proposers = x.proposers i; acceptors = x.acceptors i; learners = x.learners i; slots = x.slots i }

none-ends : (r : Ran) → Ends r (left r) r.log
none-ends r = record { proposers = refl; acceptors = refl; learners = refl; slots = refl; log = refl }

module _ (z : Sizes) where
  step-ends : (e : Event) {r : Ran} {s : State} {numbers : List ℕ} → Ends r s numbers → records_in_range z s ≡ true
      → Agrees (step_of z e r.proposers r.acceptors r.learners r.slots) (step z s e)
  step-ends e {s} x h =
      subst (λ (u : State). Agrees (step_of z e u.proposers u.acceptors u.learners u.slots) (step z s e)) (sym (same-state x)) (step-agrees z s e h)

  -- one event more
  onward-ends : (s : State) (es : List Event) (e : Event) (log : List ℕ) (n : ℕ) (r : Ran) → records_in_range z s ≡ true → length es ≡ n → per_answer * suc n ≤ length log
      → Ends r (run z s es) (logged (answers z s es) log)
      → Ends (onward z e n r) (run z s (es ++ (e ∷ []))) (logged (answers z s (es ++ (e ∷ []))) log)
  onward-ends s es e log n r h many room x =
      let a = step-ends e x (run-keeps z s es h) in
      let next = sym (run-next z s es e) in
      record {
        proposers = a.proposers ∙ ap (λ (u : State). u.proposers) next;
        acceptors = a.acceptors ∙ ap (λ (u : State). u.acceptors) next;
        learners = a.learners ∙ ap (λ (u : State). u.learners) next;
        slots = a.slots ∙ ap (λ (u : State). u.slots) next;
        log =
            ap₂ (λ (l : List ℕ) (w : Answered). noted l n w) x.log a.answer
            ∙ noted-next (answers z s es) (step z (run z s es) e).answer log n (length-answers z s es ∙ many) room
            ∙ ap (λ (ws : List Answered). logged ws log) (sym (answers_next z s es e));
      }

  module _ (ps : List Proposer) (acs : List Acceptor) (ls : List Learner) (t : List Message) (ns log : List ℕ) where
    -- the first n events
    pub driven-ends : records_in_range z (lent ps acs ls t) ≡ true → (n : ℕ) → per_answer * n ≤ length log
        → Ends (driven z ps acs ls t ns log n) (run z (lent ps acs ls t) (events_in ns n)) (logged (answers z (lent ps acs ls t) (events_in ns n)) log)
    unfolding ran_to run answers said from
    driven-ends h zero room = none-ends (driven z ps acs ls t ns log 0)
    driven-ends h (suc n) room =
        subst (λ (es : List Event). Ends (driven z ps acs ls t ns log (suc n)) (run z (lent ps acs ls t) es) (logged (answers z (lent ps acs ls t) es) log)) (sym (events-next ns n))
        (onward-ends (lent ps acs ls t) (events_in ns n) (event_of ns n) log n (driven z ps acs ls t ns log n) h (length_from (event_of ns) 0 n) room (driven-ends h n (omega arith)))

-- ---- the call of a run: all n events where nothing is refused

-- records in range fit
pub in-range-fits : (z : Sizes) (ps : List Proposer) (acs : List Acceptor) (ls : List Learner) (t : List Message) → records_in_range z (lent ps acs ls t) ≡ true → Fits z ps acs ls t
in-range-fits z ps acs ls t h =
    let x = test-ranges z (lent ps acs ls t) h in
    (sizes-in-range z (lent ps acs ls t) h, (omega (arith, x.many_proposers), (omega (arith, x.many_acceptors), (omega (arith, x.many_learners), omega (arith, x.many_slots)))))

-- there are numbers for the events, and room for their answers
pub numbers-there : (ns : List ℕ) (n : ℕ) (log : List ℕ) → has_numbers ns n log ≡ true → (3 * n ≤ length ns) × (per_answer * n ≤ length log)
numbers-there ns n log h = search (and_l, and_r, leb-true)

-- where nothing is refused, all that is asked for is there, and all n events are run
abbrev pub tests : Bool → Bool → Bool → ℕ
tests u w v = 1 unless u ⨾ 3 unless w ⨾ 8 unless v ⨾ ok

pub none-refused : (u w v : Bool) → tests u w v ≡ 0 → (u ≡ true) × (v ≡ true)
none-refused true true true h = (refl, refl)
none-refused true true false h = let bad : 8 ≤ 0 = omega (arith, h) in absurd (not-suc-le-zero bad)
none-refused true false v h = let bad : 3 ≤ 0 = omega (arith, h) in absurd (not-suc-le-zero bad)
none-refused false w v h = let bad : 1 ≤ 0 = omega (arith, h) in absurd (not-suc-le-zero bad)

module _ (z : Sizes) (ps : List Proposer) (acs : List Acceptor) (ls : List Learner) (t : List Message) (ns : List ℕ) (n : ℕ) (log : List ℕ) (h : run_no z (lent ps acs ls t) ns n log ≡ 0) where
  passed : (records_in_range z (lent ps acs ls t) ≡ true) × (has_numbers ns n log ≡ true)
  passed = none-refused (records_in_range z (lent ps acs ls t)) (leb n most_events) (has_numbers ns n log) h

  pub run-drives : Drives z ps acs ls t ns log n
  run-drives = (in-range-fits z ps acs ls t passed.0, numbers-there ns n log passed.1)

  pub run_ends : Ends (driven z ps acs ls t ns log n) (after_run z (lent ps acs ls t) ns n log) (log_after_run z (lent ps acs ls t) ns n log)
  run_ends =
      subst (λ (r : ℕ). Ends (driven z ps acs ls t ns log n) (if eqb r 0 then run z (lent ps acs ls t) (events_in ns n) else lent ps acs ls t) (if eqb r 0 then logged (answers z (lent ps acs ls t) (events_in ns n)) log else log)) (sym h)
      (driven-ends z ps acs ls t ns log passed.0 n (numbers-there ns n log passed.1).1)
