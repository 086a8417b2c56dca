-- Event by event: its first refusal is the model's, and what the code writes back and sends is what the model leaves and sends.
use mathlib.Core.Path.{◌≡◌, refl}
use mathlib.Core.Bool.{Bool, true, false, not, ◌&&◌, false≢true}
use mathlib.Core.List.{[], ◌∷◌}
use Prim.Native.Nat.{ℕ, zero, suc, ◌<◌}
use native.Mathlib.Nat.{suc-ne-zero, mod-eq_of_lt}
use native.Mathlib.Omega.{arith}
use lib.Dec.{eqb, ltb, leb-zero}
use lib.ListN.{set}
use borrow.Author.Tests.{ltb-true, leb-true, eq-eqb}
use Rattle.std.specs.Prelude.{if◌then◌else◌}
use Rattle.sizes.specs.Sizes.{scans_in_range, sizes_in_range}
use Rattle.sizes.specs.declared.Sizes.{Sizes}
use Rattle.sets.specs.Scans.{most_scans}
use Rattle.model.specs.Records.{State, kind_of, role_of, addressed, proposer_of, acceptor_of, learner_of, slot_of, freeing}
use Rattle.model.specs.declared.Kind.{Kind}
use Rattle.model.specs.declared.Kind.TheVariants.{Free as free, Internal as internal, Proposal as proposal, Acknowledgement as acknowledgement, Rejection as rejection, Announcement as announcement, NoKind as no_kind}
use Rattle.model.specs.declared.Role.{Role}
use Rattle.model.specs.declared.Role.TheVariants.{Proposer as a_proposer, Acceptor as an_acceptor, Learner as a_learner, NoRole as no_role}
use Rattle.model.specs.Table.{is_free}
use Rattle.choice.specs.Tests.{◌unless◌, ◌⨾◌, refusal, ok}
use Rattle.model.specs.Rules.{is_current, propose_no, after_propose, refine_no, after_refine, decide_no, after_decide, accepts, accepting, gaining, answering}
use Rattle.model.specs.Ranges.{all, fields_in_range, message_in_range}
use Rattle.model.specs.Events.{Effect, quiet, effect, delivery, proposes, crashed, exists, is_alive, has_room, tests}
use Rattle.model.specs.declared.Code.{Code}
use Rattle.model.specs.declared.Code.TheVariants.{Receive as receive, Deliver as deliver, Drop as drop, Duplicate as duplicate, Propose as propose, Refine as refine, Decide as decide, Crash as crash, NoCode as no_code}
use Rattle.model.specs.declared.Proposer.{Proposer}
use Rattle.model.specs.declared.Acceptor.{Acceptor}
use Rattle.model.specs.declared.Learner.{Learner}
use Rattle.model.specs.declared.Message.{Message}
use Rattle.model.specs.declared.Event.{Event}
use Rattle.model.specs.declared.Answer.{Answer}
use Rattle.model.specs.declared.Answer.TheVariants.{Done}
use Rattle.choice.proofs.Tests.{and_l, and_r, test-passed, rest-passed, no-refusal}
use Rattle.model.proofs.RuleRanges.{all-at}
use Rattle.decisions.specs.Change.{Changes}
use Rattle.decisions.specs.Sending.{items_of}
use Rattle.decisions.specs.Change.{as_proposer, as_scan, acceptor_sends, answering_of, acknowledged_by, rejected_by, delivering_of, crashing_of, receiving_of, change_of, learner_after, slot_after, learner_answer, answer_of}
use Rattle.decisions.specs.Refusals.{alive_in, test_no}
use Rattle.sizes.proofs.SizeLaws.{bounds}
use Rattle.decisions.proofs.Items.{items-silence, items-one, items-everyone, items-others, items-acknowledgements}
use Rattle.machine.specs.Stepping.{party_at}
use Rattle.machine.proofs.Readiness.{same}

-- ---- numbers that pass the tests are what the code makes of them

module _ (z : Sizes) (sized : sizes_in_range z ≡ true) where
  proposer-number : (a : ℕ) → a < z.proposers → as_proposer a ≡ a
  proposer-number a h = mod-eq_of_lt (omega (arith, (bounds z sized).few-proposers))

  scan-number : (b : ℕ) → b < z.scans → as_scan b ≡ b
  unfolding sizes_in_range scans_in_range most_scans
  scan-number b h = mod-eq_of_lt (omega (arith, leb-true z.scans most_scans (search (and_l, and_r) depth 9)))

-- ---- tests in their order: the code makes them all, and then that of room

-- `first n` is of the refusal number after n
first : (n : ℕ) (t : Bool) (u v rest : ℕ) → (t ≡ true → u ≡ refusal v rest) → (suc n unless t) u ≡ refusal ((suc n unless t) v) rest
first n true u v rest h = h refl
first n false u v rest h = refl

in-turn : (n r rest : ℕ) → refusal (refusal n r) rest ≡ refusal n (refusal r rest)
in-turn zero r rest = refl
in-turn (suc n) r rest = refl

-- ---- messages in flight

abbrev in_flight : Kind → Bool
in_flight free = false
in_flight internal = true
in_flight proposal = true
in_flight acknowledgement = true
in_flight rejection = true
in_flight announcement = true
in_flight no_kind = true

taken-kind : (n : ℕ) → not (eqb n 0) ≡ true → in_flight (kind_of n) ≡ true
unfolding all
taken-kind zero h = h
taken-kind (suc n) h = all-at in_flight no_kind (internal ∷ proposal ∷ acknowledgement ∷ rejection ∷ announcement ∷ []) n refl refl

-- the party that one in range is addressed to exists
addressee-there : (z : Sizes) (m : Message) (kind : Kind) → fields_in_range z m kind ≡ true → in_flight kind ≡ true → exists z (addressed kind) m.addressee ≡ true
unfolding fields_in_range
addressee-there z m free y h = h
addressee-there z m internal y h = search and_l
addressee-there z m proposal y h = search and_l
addressee-there z m acknowledgement y h = search and_l
addressee-there z m rejection y h = search and_l
addressee-there z m announcement y h = search and_l
addressee-there z m no_kind y h = y

-- ---- an event that finds its records at places i, j, k and x

-- if it exists, the party p of each role is found at its own place
pub record At (z : Sizes) (i j k p : ℕ) : Type 0 where
  pub proposer : p < z.proposers → i ≡ p
  pub acceptor : p < z.acceptors → j ≡ p
  pub learner : p < z.learners → k ≡ p

module _ (z : Sizes) (s : State) (i j k x : ℕ) where
  -- the records there
  abbrev q : Proposer
  q = proposer_of s i

  abbrev c : Acceptor
  c = acceptor_of s j

  abbrev l : Learner
  l = learner_of s k

  abbrev m : Message
  m = slot_of s x

  -- a change, written back, and an answer are what the model does
  pub record Does (d : Changes) (w : Answer) (f : Effect) : Type 0 where
    pub answer : w ≡ f.answer
    pub proposers : set s.proposers i d.proposer ≡ f.left.proposers
    pub acceptors : set s.acceptors j d.acceptor ≡ f.left.acceptors
    pub learners : set s.learners k (learner_after z d.hears d.stops m l) ≡ f.left.learners
    pub slots : set s.slots x (slot_after d.frees m) ≡ f.left.slots
    pub sends : items_of d.send ≡ f.sends

  abbrev EventDoes : Code → ℕ → ℕ → Type 0
  EventDoes code a b =
      Does (change_of z a b m q c code)
      (answer_of z (change_of z a b m q c code).hears (change_of z a b m q c code).proposer.decided a m l code)
      (effect z s code a b)

  -- the code's first refusal, then 8, are the model's tests; where there is no refusal but perhaps 8, the event does what the model says
  pub record Law (code : Code) (a b : ℕ) : Type 0 where
    pub refuses : tests z s code a b ≡ (refusal (test_no z a b m q c.alive l.alive code) ⨾ 8 unless has_room (effect z s code a b) ⨾ ok)
    pub does : test_no z a b m q c.alive l.alive code ≡ 0 → EventDoes code a b

  alive-at : (r : Role) (p : ℕ) → At z i j k p → exists z r p ≡ true → is_alive s r p ≡ alive_in r q.alive c.alive l.alive
  alive-at a_proposer p at h = rw (at.proposer (ltb-true p z.proposers h))
  alive-at an_acceptor p at h = rw (at.acceptor (ltb-true p z.acceptors h))
  alive-at a_learner p at h = rw (at.learner (ltb-true p z.learners h))
  alive-at no_role p at h = refl

  -- ---- Receive

  receive-does : (b : ℕ) → sizes_in_range z ≡ true → i < z.proposers → b < z.scans → EventDoes receive i b
  unfolding change_of answer_of receiving_of effect learner_after slot_after
  receive-does b sized there scan = rw (proposer-number z sized i there, scan-number z sized b scan) (search (same, items-others))

  receive-law : (a b : ℕ) → sizes_in_range z ≡ true → At z i j k a → Law receive a b
  unfolding tests test_no
  receive-law a b sized at = record {
    refuses = search (first 2, first 4, at.proposer, and_l, ltb-true);
    does = λ o.
        let there : a < z.proposers = search (test-passed 2, and_l, ltb-true) in
        let scan : b < z.scans = search (test-passed 2, and_r, ltb-true) in
        rw (← (at.proposer there)) (receive-does b sized (rw (at.proposer there) there) scan);
  }

  -- ---- Deliver, by kind

  abbrev DeliveryDoes : Kind → Type 0
  DeliveryDoes kind =
      Does (delivering_of z m q c kind)
      (if (delivering_of z m q c kind).hears then learner_answer z m l else Done)
      (delivery z (freeing s x) m kind)

  internal-does : i ≡ m.addressee → DeliveryDoes internal
  unfolding delivering_of delivery learner_after slot_after
  internal-does e = rw (← e) (search (same, items-silence))

  proposal-does : j ≡ m.addressee → (t : Bool) → accepts c m.set ≡ t → DeliveryDoes proposal
  unfolding delivering_of answering_of answering accepting gaining acceptor_sends delivery learner_after slot_after
  proposal-does e true h = rw (← e, h) (search (same, items-acknowledgements))
  proposal-does e false h = rw (← e, h) (search (same, items-one))

  acknowledgement-does : i ≡ m.addressee → (t : Bool) → is_current q m.number ≡ t → DeliveryDoes acknowledgement
  unfolding delivering_of acknowledged_by delivery learner_after slot_after
  acknowledgement-does e true h = rw (← e, h) (search (same, items-silence))
  acknowledgement-does e false h = rw (← e, h) (search (same, items-silence))

  rejection-does : i ≡ m.addressee → (t : Bool) → is_current q m.number ≡ t → DeliveryDoes rejection
  unfolding delivering_of rejected_by delivery learner_after slot_after
  rejection-does e true h = rw (← e, h) (search (same, items-silence))
  rejection-does e false h = rw (← e, h) (search (same, items-silence))

  announcement-does : k ≡ m.addressee → DeliveryDoes announcement
  unfolding delivering_of delivery learner_answer learner_after slot_after
  announcement-does e = rw (← e) (search (same, items-silence))

  delivery-does : (kind : Kind) → At z i j k m.addressee → exists z (addressed kind) m.addressee ≡ true → DeliveryDoes kind
  delivery-does free at h = absurd (false≢true h)
  delivery-does internal at h = internal-does (at.proposer (ltb-true m.addressee z.proposers h))
  delivery-does proposal at h = proposal-does (at.acceptor (ltb-true m.addressee z.acceptors h)) (accepts c m.set) refl
  delivery-does acknowledgement at h = acknowledgement-does (at.proposer (ltb-true m.addressee z.proposers h)) (is_current q m.number) refl
  delivery-does rejection at h = rejection-does (at.proposer (ltb-true m.addressee z.proposers h)) (is_current q m.number) refl
  delivery-does announcement at h = announcement-does (at.learner (ltb-true m.addressee z.learners h))
  delivery-does no_kind at h = absurd (false≢true h)

  addressed-there : message_in_range z m ≡ true → not (is_free m) ≡ true → exists z (addressed (kind_of m.kind)) m.addressee ≡ true
  unfolding message_in_range
  addressed-there y h = addressee-there z m (kind_of m.kind) y (taken-kind m.kind h)

  -- tests 4 and 5
  message-tests : (rest : ℕ) → message_in_range z m ≡ true → At z i j k m.addressee
      → (4 unless not (is_free m) ⨾ 5 unless is_alive s (addressed (kind_of m.kind)) m.addressee ⨾ rest)
      ≡ (refusal (4 unless not (is_free m) ⨾ ok) ⨾ refusal (5 unless alive_in (addressed (kind_of m.kind)) q.alive c.alive l.alive ⨾ ok) ⨾ rest)
  message-tests rest y at = search (first 3, first 4, alive-at (addressed (kind_of m.kind)) m.addressee at, addressed-there y)

  deliver-law : (a b : ℕ) → message_in_range z m ≡ true → (a < z.slots → x ≡ a) → At z i j k m.addressee → Law deliver a b
  unfolding tests test_no effect change_of answer_of
  deliver-law a b y here at = record {
    refuses = rw in-turn (first 2 (ltb a z.slots && eqb b 0) _ _ _ (λ t. rw (← (here (search (and_l, ltb-true)))) (message-tests _ y at)));
    does = λ o.
        rw (← (here (search (no-refusal, test-passed 2, and_l, ltb-true))))
        (delivery-does (kind_of m.kind) at (addressed-there y (search (no-refusal, rest-passed 2, test-passed 3))));
  }

  -- ---- Drop and Duplicate

  drop-does : (b : ℕ) → EventDoes drop x b
  unfolding change_of answer_of effect learner_after slot_after
  drop-does b = search (same, items-silence)

  drop-law : (a b : ℕ) → (a < z.slots → x ≡ a) → Law drop a b
  unfolding tests test_no effect
  drop-law a b here = record {
    refuses = search (first 2, first 3, here, and_l, ltb-true, leb-zero);
    does = λ o. rw (← (here (search (test-passed 2, and_l, ltb-true)))) (drop-does b);
  }

  duplicate-does : (b : ℕ) → EventDoes duplicate x b
  unfolding change_of answer_of effect learner_after slot_after
  duplicate-does b = search (same, items-one)

  duplicate-law : (a b : ℕ) → (a < z.slots → x ≡ a) → Law duplicate a b
  unfolding tests test_no
  duplicate-law a b here = record {
    refuses = search (first 2, first 3, here, and_l, ltb-true);
    does = λ o. rw (← (here (search (test-passed 2, and_l, ltb-true)))) (duplicate-does b);
  }

  -- ---- Propose, Refine and Decide

  propose-does : (b : ℕ) → sizes_in_range z ≡ true → i < z.proposers → propose_no q ≡ 0 → EventDoes propose i b
  unfolding change_of answer_of effect proposes after_propose learner_after slot_after
  propose-does b sized there o = rw (proposer-number z sized i there, eq-eqb (propose_no q) 0 o) (search (same, items-everyone))

  propose-law : (a b : ℕ) → sizes_in_range z ≡ true → At z i j k a → Law propose a b
  unfolding tests test_no
  propose-law a b sized at = record {
    refuses = search (first 2, at.proposer, and_l, ltb-true);
    does = λ o.
        let there : a < z.proposers = search (test-passed 2, and_l, ltb-true) in
        rw (← (at.proposer there)) (propose-does b sized (rw (at.proposer there) there) (search (rest-passed 2)));
  }

  refine-does : (b : ℕ) → sizes_in_range z ≡ true → i < z.proposers → refine_no z.acceptors q ≡ 0 → EventDoes refine i b
  unfolding change_of answer_of effect proposes after_refine learner_after slot_after
  refine-does b sized there o = rw (proposer-number z sized i there, eq-eqb (refine_no z.acceptors q) 0 o) (search (same, items-everyone))

  refine-law : (a b : ℕ) → sizes_in_range z ≡ true → At z i j k a → Law refine a b
  unfolding tests test_no
  refine-law a b sized at = record {
    refuses = search (first 2, at.proposer, and_l, ltb-true);
    does = λ o.
        let there : a < z.proposers = search (test-passed 2, and_l, ltb-true) in
        rw (← (at.proposer there)) (refine-does b sized (rw (at.proposer there) there) (search (rest-passed 2)));
  }

  decide-does : (b : ℕ) → sizes_in_range z ≡ true → i < z.proposers → decide_no z.acceptors q ≡ 0 → EventDoes decide i b
  unfolding change_of answer_of effect after_decide learner_after slot_after
  decide-does b sized there o = rw (proposer-number z sized i there, eq-eqb (decide_no z.acceptors q) 0 o) (search (same, items-silence))

  decide-law : (a b : ℕ) → sizes_in_range z ≡ true → At z i j k a → Law decide a b
  unfolding tests test_no effect
  decide-law a b sized at = record {
    refuses = search (first 2, at.proposer, and_l, ltb-true, leb-zero);
    does = λ o.
        let there : a < z.proposers = search (test-passed 2, and_l, ltb-true) in
        rw (← (at.proposer there)) (decide-does b sized (rw (at.proposer there) there) (search (rest-passed 2)));
  }

  -- ---- Crash, by role

  crashed-does : (r : Role) (p : ℕ) → At z i j k p → exists z r p ≡ true → Does (crashing_of q c r) Done (quiet (crashed s r p))
  unfolding crashing_of crashed learner_after slot_after
  crashed-does a_proposer p at h = rw (← (at.proposer (ltb-true p z.proposers h))) (search (same, items-silence))
  crashed-does an_acceptor p at h = rw (← (at.acceptor (ltb-true p z.acceptors h))) (search (same, items-silence))
  crashed-does a_learner p at h = rw (← (at.learner (ltb-true p z.learners h))) (search (same, items-silence))
  crashed-does no_role p at h = absurd (false≢true h)

  crash-law : (a b : ℕ) → At z i j k b → Law crash a b
  unfolding tests test_no effect change_of answer_of
  crash-law a b at = record {
    refuses = search (first 2, first 4, alive-at (role_of a) b at, leb-zero);
    does = λ o. crashed-does (role_of a) b at (search (test-passed 2));
  }

  -- ---- no such event

  no_code-law : (a b : ℕ) → Law no_code a b
  unfolding tests test_no
  no_code-law a b = record { refuses = refl; does = λ o. absurd (suc-ne-zero 1 o) }

  -- ---- every event

  pub event-law : (e : Event) (code : Code) → sizes_in_range z ≡ true → message_in_range z m ≡ true → (e.a < z.slots → x ≡ e.a) → At z i j k (party_at e m code)
      → Law code e.a e.b
  unfolding party_at
  event-law e receive sized y here at = receive-law e.a e.b sized at
  event-law e deliver sized y here at = deliver-law e.a e.b y here at
  event-law e drop sized y here at = drop-law e.a e.b here
  event-law e duplicate sized y here at = duplicate-law e.a e.b here
  event-law e propose sized y here at = propose-law e.a e.b sized at
  event-law e refine sized y here at = refine-law e.a e.b sized at
  event-law e decide sized y here at = decide-law e.a e.b sized at
  event-law e crash sized y here at = crash-law e.a e.b at
  event-law e no_code sized y here at = no_code-law e.a e.b
