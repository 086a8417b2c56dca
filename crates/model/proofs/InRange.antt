-- Each step keeps every record within its ranges, so that refusal 1 never comes in a run from fresh.
use mathlib.Core.Path.{◌≡◌}
use mathlib.Core.Bool.{true}
use mathlib.Core.List.{List, [], ◌∷◌}
use Prim.Native.Nat.{ℕ, ◌<◌}
use lib.ListN.{take}
use borrow.Author.Tests.{ltb-true, lt-ltb, eqb-true, eq-eqb}
use Rattle.sizes.specs.Sizes.{between, sizes_in_range}
use Rattle.sizes.specs.declared.Sizes.{Sizes}
use Rattle.sets.specs.Scans.{only, fits}
use Rattle.sets.proofs.ScanLaws.{fits-only}
use Rattle.sets.specs.declared.scans.Scans.{Scans}
use Rattle.model.specs.declared.Proposer.{Proposer}
use Rattle.model.specs.declared.Message.{Message}
use Rattle.model.specs.declared.Event.{Event}
use Rattle.model.specs.Records.{State, Kind, free, internal, proposal, acknowledgement, rejection, announcement, no_kind, kind_of, Role, a_proposer, an_acceptor, a_learner, no_role, role_of, fresh, fresh_proposer, fresh_acceptor, fresh_learner, free_slot, proposer_of, acceptor_of, slot_of}
use Rattle.model.specs.Rules.{greatest_number, is_current, accepts}
use Rattle.model.specs.Table.{Internal, Proposal, Announcement}
use Rattle.model.specs.Events.{Code, receive, deliver, drop, duplicate, propose, refine, decide, crash, no_code, code_of, effect, delivery, proposes, crashed, tests}
use Rattle.model.specs.Ranges.{proposer_in_range, acceptor_in_range, learner_in_range, fields_in_range, message_in_range, lengths_in_range, records_in_range}
use Rattle.model.specs.Step.{step, run}
use Rattle.model.specs.Safety.{moment, Given, learnt, decided}
use Rattle.choice.proofs.Tests.{if-ind, and_l, and_r, and_i}
use Rattle.model.proofs.Lists.{none, also, map-all, every-one-below, every-other-below}
use Rattle.model.proofs.RuleLaws.{propose-number, refine-number}
use Rattle.model.proofs.Steps.{receive-passed, propose-passed, refine-passed, ok_tests}
use Rattle.model.proofs.States.{Facts, Holds, put-proposer, put-acceptor, put-learner, put-freeing, Done, quiet-done, step-holds, fresh_holds}
use Rattle.model.proofs.RuleRanges.{parts, all-at, all-places, buffering-range, acknowledging-range, rejecting-range, proposing-range, refining-range, deciding-range, crashed-proposer-range, fresh-proposer-range, proposed-range, decided-range, learnt-range, proposing-number, refining-number, accepting-range, gaining-range, crashed-acceptor-range, fresh-acceptor-range, listening-range, crashed-learner-range, fresh-learner-range}

-- every field of every record within its range
abbrev pub ranges : Sizes → Facts
ranges z = record {
  proposer = λ p. proposer_in_range z p ≡ true;
  acceptor = λ q. acceptor_in_range z q ≡ true;
  learner = λ l. learner_in_range z l ≡ true;
  slot = λ m. message_in_range z m ≡ true;
}

free-slot-range : (z : Sizes) → message_in_range z free_slot ≡ true
unfolding message_in_range fields_in_range
free-slot-range z = search parts

-- ---- the first test says just that

pub test-ranges : (z : Sizes) (s : State) → records_in_range z s ≡ true → Holds (ranges z) z s
unfolding records_in_range lengths_in_range
test-ranges z s h = record {
  many_proposers = search (and_l, and_r, eqb-true) depth 9;
  many_acceptors = search (and_l, and_r, eqb-true) depth 9;
  many_learners = search (and_l, and_r, eqb-true) depth 9;
  many_slots = search (and_l, and_r, eqb-true) depth 9;
  proposers = λ i. all-at (proposer_in_range z) fresh_proposer s.proposers i (fresh-proposer-range z) (search (and_l, and_r) depth 9);
  acceptors = λ i. all-at (acceptor_in_range z) fresh_acceptor s.acceptors i (fresh-acceptor-range z) (search (and_l, and_r) depth 9);
  learners = λ i. all-at (learner_in_range z) fresh_learner s.learners i (fresh-learner-range z) (search (and_l, and_r) depth 9);
  slots = λ i. all-at (message_in_range z) free_slot s.slots i (free-slot-range z) (search (and_l, and_r) depth 9);
}

pub sizes-in-range : (z : Sizes) (s : State) → records_in_range z s ≡ true → sizes_in_range z ≡ true
unfolding records_in_range
sizes-in-range z s h = search (and_l) depth 9

pub ranges-test : (z : Sizes) (s : State) → sizes_in_range z ≡ true → Holds (ranges z) z s → records_in_range z s ≡ true
unfolding records_in_range lengths_in_range
ranges-test z s h x =
    let p = all-places (proposer_in_range z) fresh_proposer s.proposers x.proposers in
    let q = all-places (acceptor_in_range z) fresh_acceptor s.acceptors x.acceptors in
    let l = all-places (learner_in_range z) fresh_learner s.learners x.learners in
    let m = all-places (message_in_range z) free_slot s.slots x.slots in
    search (and_i, eq-eqb) depth 12

-- ---- Deliver, of a message whose slot is freed already

module _ (z : Sizes) (m : Message) where
  internal-set : fields_in_range z m internal ≡ true → fits m.set z.scans ≡ true
  unfolding fields_in_range
  internal-set y = search parts

  proposal-set : fields_in_range z m proposal ≡ true → fits m.set z.scans ≡ true
  unfolding fields_in_range
  proposal-set y = search parts

  acknowledgement-acceptor : fields_in_range z m acknowledgement ≡ true → m.acceptor.0 < z.acceptors
  unfolding fields_in_range
  acknowledgement-acceptor y = search (parts, ltb-true)

  rejection-acceptor : fields_in_range z m rejection ≡ true → m.acceptor.0 < z.acceptors
  unfolding fields_in_range
  rejection-acceptor y = search (parts, ltb-true)

  rejection-set : fields_in_range z m rejection ≡ true → fits m.set z.scans ≡ true
  unfolding fields_in_range
  rejection-set y = search parts

module _ {z : Sizes} {s : State} (x : Holds (ranges z) z s) where
  proposal-range : (m : Message) → fields_in_range z m proposal ≡ true → Done (ranges z) z (delivery z s m proposal)
  unfolding delivery message_in_range fields_in_range acceptor_in_range
  proposal-range m y =
      let q = acceptor_of s m.addressee in
      let v = proposal-set z m y in
      if-ind (Done (ranges z) z) (accepts q m.set) _ _
      (λ e. record {
        left = put-acceptor x m.addressee _ (accepting-range z q m.set v);
        sends = also (search parts depth 12)
            (map-all (ranges z).slot (Announcement m.proposer.0 m.addressee m.number m.set) (λ l h. search (parts, lt-ltb) depth 12) (every-one-below z.learners));
      })
      (λ e. let both = gaining-range z q m.set (x.acceptors m.addressee) v in record {
        left = put-acceptor x m.addressee _ both;
        sends = also (search parts depth 12) none;
      })

  acknowledgement-range : (m : Message) → fields_in_range z m acknowledgement ≡ true → Done (ranges z) z (delivery z s m acknowledgement)
  unfolding delivery
  acknowledgement-range m y =
      if-ind (Done (ranges z) z) (is_current (proposer_of s m.addressee) m.number) _ _
      (λ e. quiet-done (put-proposer x m.addressee _
      (acknowledging-range z _ (x.proposers m.addressee) m.acceptor.0 (acknowledgement-acceptor z m y))))
      (λ e. quiet-done x)

  rejection-range : (m : Message) → fields_in_range z m rejection ≡ true → Done (ranges z) z (delivery z s m rejection)
  unfolding delivery
  rejection-range m y =
      if-ind (Done (ranges z) z) (is_current (proposer_of s m.addressee) m.number) _ _
      (λ e. quiet-done (put-proposer x m.addressee _
      (rejecting-range z _ (x.proposers m.addressee) m.acceptor.0 m.set (rejection-acceptor z m y) (rejection-set z m y))))
      (λ e. quiet-done x)

  delivery-range : (m : Message) (k : Kind) → fields_in_range z m k ≡ true → Done (ranges z) z (delivery z s m k)
  unfolding delivery
  delivery-range m free y = quiet-done x
  delivery-range m internal y =
      quiet-done (put-proposer x m.addressee _ (buffering-range z _ (x.proposers m.addressee) m.set (internal-set z m y)))
  delivery-range m proposal y = proposal-range m y
  delivery-range m acknowledgement y = acknowledgement-range m y
  delivery-range m rejection y = rejection-range m y
  delivery-range m announcement y = record {
    left = put-learner x m.addressee _ (listening-range z m y z.acceptors _ (x.learners m.addressee));
    sends = none;
  }
  delivery-range m no_kind y = quiet-done x

  -- ---- the other events

  receive-range : (a b : ℕ) → b < z.scans → Done (ranges z) z (effect z s receive a b)
  unfolding effect message_in_range fields_in_range
  receive-range a b h =
      let v = fits-only b z.scans h in
      record {
        left = put-proposer x a _ (buffering-range z _ (x.proposers a) (only b) v);
        sends = map-all (ranges z).slot (Internal (only b)) (λ i j. search (parts, lt-ltb) depth 12) (every-other-below a z.proposers);
      }

  proposes-range : (a : ℕ) (p : Proposer) → a < z.proposers → proposer_in_range z p ≡ true → between 1 greatest_number p.number ≡ true
      → Done (ranges z) z (proposes z s a p)
  unfolding proposes message_in_range fields_in_range
  proposes-range a p h y n =
      let v = proposed-range z p y in
      record {
        left = put-proposer x a p y;
        sends = map-all (ranges z).slot (Proposal a p.number p.proposed) (λ j i. search (parts, lt-ltb) depth 12) (every-one-below z.acceptors);
      }

  crashed-range : (r : Role) (i : ℕ) → Holds (ranges z) z (crashed s r i)
  unfolding crashed
  crashed-range a_proposer i = put-proposer x i _ (crashed-proposer-range z _ (x.proposers i))
  crashed-range an_acceptor i = put-acceptor x i _ (crashed-acceptor-range z _ (x.acceptors i))
  crashed-range a_learner i = put-learner x i _ (crashed-learner-range z _ (x.learners i))
  crashed-range no_role i = x

pub slot-fields : (z : Sizes) (m : Message) → message_in_range z m ≡ true → fields_in_range z m (kind_of m.kind) ≡ true
unfolding message_in_range
slot-fields z m h = h

effect-range : (z : Sizes) (s : State) (c : Code) (a b : ℕ) → Holds (ranges z) z s → tests z s c a b ≡ 0 → Done (ranges z) z (effect z s c a b)
unfolding effect
effect-range z s receive a b x t = receive-range x a b (receive-passed z s a b t).1
effect-range z s deliver a b x t =
    delivery-range (put-freeing x a (free-slot-range z)) (slot_of s a) (kind_of (slot_of s a).kind) (slot-fields z (slot_of s a) (x.slots a))
effect-range z s drop a b x t = quiet-done (put-freeing x a (free-slot-range z))
effect-range z s duplicate a b x t = record { left = x; sends = also (x.slots a) none }
effect-range z s propose a b x t =
    let k = propose-passed z s a b t in
    let n = propose-number (proposer_of s a) k.rule in
    proposes-range x a _ k.party (proposing-range z _ (x.proposers a) n) (proposing-number (proposer_of s a) n)
effect-range z s refine a b x t =
    let k = refine-passed z s a b t in
    let n = refine-number z.acceptors (proposer_of s a) k.rule in
    proposes-range x a _ k.party (refining-range z _ (x.proposers a) n) (refining-number (proposer_of s a) n)
effect-range z s decide a b x t = record { left = put-proposer x a _ (deciding-range z _ (x.proposers a)); sends = none }
effect-range z s crash a b x t = quiet-done (crashed-range x (role_of a) b)
effect-range z s no_code a b x t = quiet-done x

-- ---- the theorem

step-ranges : (z : Sizes) (s : State) (e : Event) → Holds (ranges z) z s → Holds (ranges z) z (step z s e).state
step-ranges z s e x = step-holds s e x (λ ok. effect-range z s (code_of e.code) e.a e.b x (ok_tests z s e ok))

run-ranges : (z : Sizes) (es : List Event) (s : State) → Holds (ranges z) z s → Holds (ranges z) z (run z s es)
unfolding run
run-ranges z [] s x = x
run-ranges z (e ∷ es) s x = run-ranges z es (step z s e).state (step-ranges z s e x)

fresh-ranges : (z : Sizes) → Holds (ranges z) z (fresh z)
fresh-ranges z = fresh_holds (ranges z) z (fresh-proposer-range z) (fresh-acceptor-range z) (fresh-learner-range z) (free-slot-range z)

-- records that pass the first test pass it after any step
pub step-in-range : (z : Sizes) (s : State) (e : Event) → records_in_range z s ≡ true → records_in_range z (step z s e).state ≡ true
step-in-range z s e h = ranges-test z (step z s e).state (sizes-in-range z s h) (step-ranges z s e (test-ranges z s h))

-- in a run from fresh with sizes in range they pass it at every moment
pub run-in-range : (z : Sizes) (es : List Event) → sizes_in_range z ≡ true → records_in_range z (run z (fresh z) es) ≡ true
run-in-range z es h = ranges-test z (run z (fresh z) es) h (run-ranges z es (fresh z) (fresh-ranges z))

-- a learnt or decided set is within S at every moment
pub given-fits : (z : Sizes) (es : List Event) (i : ℕ) (v : Scans) → Given (moment z es i) v → fits v z.scans ≡ true
unfolding moment
given-fits z es i v (learnt l e) = rw (← e) (learnt-range z _ ((run-ranges z (take i es) (fresh z) (fresh-ranges z)).learners l))
given-fits z es i v (decided p e) = rw (← e) (decided-range z _ ((run-ranges z (take i es) (fresh z) (fresh-ranges z)).proposers p))
