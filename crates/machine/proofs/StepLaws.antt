-- A step as the code does it is the model's, where the records are in range; where they are not, the model refuses with 1.
use mathlib.Core.Path.{◌≡◌, refl, sym, ap}
use mathlib.Core.Bool.{Bool, true, false}
use mathlib.Core.List.{List}
use Prim.Native.Nat.{ℕ, zero, suc, ◌-◌, ◌<◌, ◌≤◌}
use native.Mathlib.Omega.{arith}
use lib.Dec.{T as Holds, eqb, leb, eqb-suc-zero}
use lib.ListN.{length, get_or, set}
use borrow.Author.Tests.{lt-ltb, leb-true, leb-false, eq-eqb, ne_eqb}
use Rattle.std.specs.Prelude.{if◌then◌else◌, Ok, Err}
use Rattle.sizes.specs.declared.Sizes.{Sizes}
use Rattle.model.specs.Records.{State, free_slot}
use Rattle.choice.specs.Tests.{◌unless◌, ◌⨾◌, refusal, ok}
use Rattle.model.specs.Table.{free_slots, post}
use Rattle.model.specs.Ranges.{records_in_range}
use Rattle.model.specs.Events.{code_of, Effect, has_room}
use Rattle.model.specs.Step.{Stepped, sent, stepped, step_no, step}
use Rattle.model.specs.declared.Proposer.{Proposer}
use Rattle.model.specs.declared.Acceptor.{Acceptor}
use Rattle.model.specs.declared.Learner.{Learner}
use Rattle.model.specs.declared.Message.{Message}
use Rattle.model.specs.declared.Event.{Event}
use Rattle.model.proofs.Steps.{does, refusal-keeps}
use Rattle.model.proofs.InRange.{test-ranges, sizes-in-range}
use Rattle.decisions.specs.Change.{Changes}
use Rattle.decisions.specs.Sending.{is_taken, count_of, items_of, lacking}
use Rattle.decisions.specs.Change.{change_of, learner_after, slot_after, answer_of}
use Rattle.decisions.specs.Refusals.{test_no}
use Rattle.decisions.proofs.Sendable.{sendable}
use Rattle.sizes.proofs.SizeLaws.{bounds}
use Rattle.decisions.proofs.Items.{items-silence, items-count}
use Rattle.machine.specs.Stepping.{index_in, party_of, reply_of, Left, the_message, the_proposer, the_acceptor, the_learner, step_of}
use Rattle.decisions.specs.Arms.{Decision, need_of, decide_of, refused_of, finish_of}
use Rattle.machine.proofs.Readiness.{within_in, same, freed, need-none}
use Rattle.machine.proofs.EventLaws.{At, Does, Law, event-law}

-- a step on lent records answers what the model's step answers, and leaves what it leaves
pub record Agrees (l : Left) (m : Stepped) : Type 0 where
  pub answer : l.answer ≡ m.answer
  pub proposers : l.proposers ≡ m.state.proposers
  pub acceptors : l.acceptors ≡ m.state.acceptors
  pub learners : l.learners ≡ m.state.learners
  pub slots : l.slots ≡ m.state.slots

-- ---- a party that exists is found at its own place

within-there : (p n : ℕ) → p < n → index_in p n ≡ p
unfolding index_in
within-there p n h = rw (lt-ltb p n h)

found : (z : Sizes) (p : ℕ) → At z (index_in p z.proposers) (index_in p z.acceptors) (index_in p z.learners) p
found z p = record {
  proposer = within-there p z.proposers;
  acceptor = within-there p z.acceptors;
  learner = within-there p z.learners;
}

-- ---- room

-- two tests, where one holds just if the other does
test_by : (c f d : ℕ) → (c ≤ f → d ≡ 0) → (d ≡ 0 → c ≤ f) → leb c f ≡ eqb d 0
test_by c f d h g = by (leb c f) refl
  where
    by : (t : Bool) → leb c f ≡ t → t ≡ eqb d 0
    by true e = sym (eq-eqb d 0 (h (leb-true c f e)))
    by false e = sym (ne_eqb d 0 (λ n. omega (arith, g n, leb-false c f e)))

-- room once the slot is freed, or not, and the room that the code asks for before
room_by : (t : List Message) (x : ℕ) (frees : Bool) (c : ℕ) → x < length t → (Holds frees → Holds (is_taken (get_or t x free_slot)))
    → leb c (free_slots (set t x (slot_after frees (get_or t x free_slot)))) ≡ eqb (lacking (if frees then c - 1 else c) t) 0
unfolding slot_after
room_by t x true c i h =
    let e : free_slots (set t x free_slot) ≡ suc (free_slots t) = freed t x i (h tt) in
    test_by c (free_slots (set t x free_slot)) ((c - 1) - free_slots t) (λ r. omega arith) (λ r. omega arith)
room_by t x false c i h = rw (same free_slot t x) (test_by c (free_slots t) (c - free_slots t) (λ r. omega arith) (λ r. omega arith))

-- ---- the step

module _ (z : Sizes) (s : State) (e : Event) where
  -- the records that the event finds
  abbrev m : Message
  m = the_message z e s.proposers s.acceptors s.learners s.slots

  abbrev q : Proposer
  q = the_proposer z e s.proposers s.acceptors s.learners s.slots

  abbrev c : Acceptor
  c = the_acceptor z e s.proposers s.acceptors s.learners s.slots

  abbrev l : Learner
  l = the_learner z e s.proposers s.acceptors s.learners s.slots

  -- their places
  abbrev i : ℕ
  i = index_in (party_of e m) z.proposers

  abbrev j : ℕ
  j = index_in (party_of e m) z.acceptors

  abbrev k : ℕ
  k = index_in (party_of e m) z.learners

  abbrev x : ℕ
  x = index_in e.a z.slots

  -- ---- the three ways that it ends

  -- a decision, written back and answered
  abbrev left_by : Decision → Left
  left_by d = record {
    answer = reply_of z e d m l;
    proposers = set s.proposers i d.change.proposer;
    acceptors = set s.acceptors j d.change.acceptor;
    learners = set s.learners k (learner_after z d.change.hears d.change.stops m l);
    slots = post (items_of d.change.send) (set s.slots x (slot_after d.change.frees m));
  }

  refused : (n : ℕ) → Agrees (left_by (refused_of (suc n) q c)) (record { answer = Err (suc n); state = s })
  unfolding reply_of learner_after slot_after post
  refused n = rw (eqb-suc-zero n, items-silence) (search same)

  abbrev Did : Changes → Effect → Type 0
  Did d f = Does z s i j k x d (answer_of z d.hears d.proposer.decided e.a m l (code_of e.code)) f

  done : (d : Changes) (need : ℕ) (f : Effect) → Did d f → Agrees (left_by (record { no = 0; need = need; change = d })) (record { answer = Ok f.answer; state = sent f })
  unfolding reply_of
  done d need f h = record {
    answer = ap Ok h.answer;
    proposers = h.proposers;
    acceptors = h.acceptors;
    learners = h.learners;
    slots = rw (h.sends, h.slots);
  }

  ended : (n : ℕ) (room : Bool) (d : Changes) (need : ℕ) (f : Effect) → (n ≡ 0 → Did d f) → (n ≡ 0 → has_room f ≡ room)
      → Agrees (left_by (if eqb n 0 then (if room then record { no = n; need = need; change = d } else refused_of 8 q c) else refused_of n q c))
      (stepped (refusal n ⨾ 8 unless has_room f ⨾ ok) s f)
  unfolding stepped
  ended zero true d need f h r = rw (r refl) (done d need f (h refl))
  ended zero false d need f h r = rw (r refl) (refused 7)
  ended (suc n) room d need f h r = rw (eqb-suc-zero n) (refused n)

  -- ---- the law

  -- the first refusal but 8, and what is decided
  abbrev n : ℕ
  n = test_no z e.a e.b m q c.alive l.alive (code_of e.code)

  abbrev d : Changes
  d = change_of z e.a e.b m q c (code_of e.code)

  the_law : records_in_range z s ≡ true → Law z s i j k x (code_of e.code) e.a e.b
  the_law r =
      event-law z s i j k x e (code_of e.code) (sizes-in-range z s r) ((test-ranges z s r).slots x) (within-there e.a z.slots) (found z (party_of e m))

  the-room : records_in_range z s ≡ true → n ≡ 0 → has_room (does z s e) ≡ eqb (lacking (need_of n d.frees (count_of d.send)) s.slots) 0
  the-room r o =
      let many = (test-ranges z s r).many_slots in
      let there = within_in e.a z.slots (length s.slots) (omega arith) (omega (arith, (bounds z (sizes-in-range z s r)).some-slots)) in
      let taken = (sendable z e.a e.b m q c c.alive l.alive (code_of e.code) o).frees-taken in
      rw (← ((the_law r).does o).sends, ← ((the_law r).does o).slots, items-count, need-none n d.frees (count_of d.send) o)
      (room_by s.slots x d.frees (count_of d.send) there taken)

  agrees-by : records_in_range z s ≡ true → Agrees (step_of z e s.proposers s.acceptors s.learners s.slots) (step z s e)
  unfolding finish_of decide_of step step_no
  agrees-by r = rw (r, (the_law r).refuses) (ended n _ d _ (does z s e) (the_law r).does (the-room r))

  -- records out of range
  pub step-refused : records_in_range z s ≡ false → step z s e ≡ record { answer = Err 1; state = s }
  unfolding step_no
  step-refused r = refusal-keeps z s e 0 (rw r)

pub step-agrees : (z : Sizes) (s : State) (e : Event) → records_in_range z s ≡ true → Agrees (step_of z e s.proposers s.acceptors s.learners s.slots) (step z s e)
step-agrees = agrees-by
