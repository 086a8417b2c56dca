-- Each call is a move of the network.
use mathlib.Core.Path.{◌≡◌, refl, sym, ap, ◌∙◌, subst}
use mathlib.Core.Logic.{◌⊎◌, inl, inr}
use mathlib.Core.Bool.{Bool, true, false}
use mathlib.Core.List.{List}
use Prim.Native.Nat.{ℕ, ◌<◌}
use native.Mathlib.Decide.{ℕ_discrete}
use lib.Dec.{eqb}
use lib.ListN.{get_or}
use borrow.Author.Tests.{eqb-true, eq-eqb}
use Rattle.std.specs.Prelude.{if◌then◌else◌}
use Rattle.sets.specs.declared.scans.Scans.{Scans}
use Rattle.sets.proofs.ScanLaws.{fits_below}
use Rattle.model.specs.declared.Message.{Message}
use Rattle.model.specs.declared.Proposer.{Proposer}
use Rattle.model.specs.declared.Kind.{Kind}
use Rattle.model.specs.Rules.{accepts, gaining, answering, buffering, is_current, acknowledging, rejecting, propose_no, proposing, refine_no, refining, decide_no, deciding, crashed_proposer, listening}
use Rattle.model.specs.Ranges.{proposer_in_range}
use Rattle.model.specs.Table.{Acknowledgement, Announcement, Rejection}
use Rattle.model.specs.Network as net
use Rattle.model.specs.Network.{World, News, Changed, Same, SendsOnly, Nothing, Worn, Move, ProposerRule}
use Rattle.choice.proofs.Tests.{if-ind, test-passed, rest-passed}
use Rattle.model.proofs.RuleLaws.{accepting-takes}
use Rattle.model.proofs.Changes.{changed-each, unworn}
use Rattle.layouts.specs.Layout.{sizes_of, set_at, is_proposer, acceptor_at, proposer_at, proposer_bytes, learner_at}
use Rattle.layouts.proofs.Parts.{proposer-sizes}
use Rattle.layouts.proofs.LayoutLaws.{proposer-back}
use Rattle.layouts.proofs.Passing.{set-fits}
use Rattle.yazhmandu.specs.Calls.{unless_refused, proposal_no, answer_record, answer_reply, buffer_no, buffer_record, acknowledged_no, acknowledged_record, rejected_no, rejected_record, call_no, call_record, hear_no, hear_record}
use Rattle.yazhmandu.proofs.RecordsKept.{buffer-set, buffer-range, acknowledged-range, rejected-range, propose-range, refine-range, decide-range}
use Rattle.stores.specs.Stores as store
use Rattle.stores.specs.Stores.{Stores, ProposerCall, Gets, ProposerSends, AcceptorCall, Replies, AcceptorSends, Takes, LearnerCall, Call, news_of}
use Rattle.stores.proofs.Bytes.{undone, answer-reads, reply-accepts, reply-set, listening-fields, hear-reads, alone-worn}

-- the records that the bytes stand for
abbrev pub world_of : ℕ → Stores → World
world_of p t = record {
  proposer = λ i. proposer_at (t.proposer i);
  acceptor = λ j. acceptor_at (t.acceptor j);
  learner = λ l. learner_at p (t.learner l);
  sent = t.sent;
}

module _ {B : Type 0} (read : List ℕ → B) {f g : ℕ → List ℕ} where
  reads_same : Same f g → Same (λ i. read (f i)) (λ i. read (g i))
  reads_same e i = ap read (e i)

  reads-changed : {i : ℕ} {bytes : List ℕ} {x : B} → read bytes ≡ x → Changed f g i bytes → Changed (λ j. read (f j)) (λ j. read (g j)) i x
  reads-changed e c = record { here = ap read c.here ∙ e; others = λ j n. ap read (c.others j n) }

-- one record that became what it was: all are as they were
unchanged : {f g : ℕ → List ℕ} {i : ℕ} {bytes : List ℕ} → Changed f g i bytes → bytes ≡ f i → Same f g
unchanged {f} c e = changed-each (λ j (x : List ℕ). x ≡ f j) c (λ j. refl) e

comes : (p : ℕ) {t : Stores} {k : Kind} {to : ℕ} {m : Message} → net.Comes t k to m → net.Comes (world_of p t) k to m
comes p c = record { was = c.was; kind = c.kind; addressee = c.addressee }

-- what is sent, told in other words
narrows : {X Y S S' : Message → Type 0} → ((m : Message) → S m → S' m) → ((m : Message) → Y m → X m ⊎ S m) → (m : Message) → Y m → X m ⊎ S' m
narrows f s m x = elim (s m x) [ inl y ↦ inl y | inr y ↦ inr (f m y) ]

-- ---- no call, or a refused one

module _ (p : ℕ) {a : ℕ} {N : News} (t t' : Stores) (sp : Same t.proposer t'.proposer) (sa : Same t.acceptor t'.acceptor) (ss : SendsOnly t t' Nothing) where
  wears : ((l : ℕ) → Worn (learner_at p (t.learner l)) (learner_at p (t'.learner l))) → Move a N (world_of p t) (world_of p t')
  wears w = net.rests (λ i. ap (λ (l : List ℕ). crashed_proposer (proposer_at l)) (sp i)) (λ j. ap (λ (l : List ℕ). (acceptor_at l).accepted) (sa j)) w ss

  rest-move : Same t.learner t'.learner → Move a N (world_of p t) (world_of p t')
  rest-move sl = wears (λ l. subst (λ (x : List ℕ). Worn (learner_at p (t.learner l)) (learner_at p x)) (sym (sl l)) (unworn (learner_at p (t.learner l))))

-- ---- the calls of a proposer

module _ (a s : ℕ) (kept : List ℕ) where
  -- the record passed its test
  abbrev Passed : Type 0
  Passed = is_proposer a s kept ≡ true

  buffer-passed : (set : List ℕ) → buffer_no a s kept set ≡ 0 → Passed
  unfolding buffer_no
  buffer-passed set o = search (test-passed 0)

  acknowledged-passed : (j n : ℕ) → acknowledged_no a s kept j n ≡ 0 → Passed
  unfolding acknowledged_no
  acknowledged-passed j n o = search (test-passed 0)

  rejected-passed : (j n : ℕ) (set : List ℕ) → rejected_no a s kept j n set ≡ 0 → Passed
  unfolding rejected_no
  rejected-passed j n set o = search (test-passed 0)

  rule-tests : (rule_no : Proposer → ℕ) → call_no a s kept rule_no ≡ 0 → Passed × (rule_no (proposer_at kept) ≡ 0)
  unfolding call_no
  rule-tests rule_no o = search (test-passed 0, rest-passed 0)

module _ (p a s : ℕ) (N : News) (t : Stores) (i : ℕ) (kept : List ℕ) where
  abbrev Rule : Proposer → Type 0
  Rule = ProposerRule a N (world_of p t) i (proposer_at kept)

  -- a refused call leaves the record; one that is not leaves what the rule leaves, if that is in range
  rule-left : (n : ℕ) (q : Proposer) → (n ≡ 0 → Passed a s kept) → (Passed a s kept → n ≡ 0 → proposer_in_range (sizes_of 1 a s) q ≡ true) → (n ≡ 0 → Rule q)
      → Rule (proposer_at (unless_refused n (proposer_bytes q) kept))
  rule-left n q x r f =
      if-ind (λ (l : List ℕ). Rule (proposer_at l)) (eqb n 0) (proposer_bytes q) kept
      (λ o. let e = eqb-true n 0 o in subst Rule (sym (proposer-back (sizes_of 1 a s) q (proposer-sizes a s kept (x e)) (r (x e) e))) (f e))
      (λ o. net.again)

  -- and so does a late answer
  late-left : (n : ℕ) (c : Bool) (q : Proposer) → (n ≡ 0 → Passed a s kept) → (Passed a s kept → n ≡ 0 → proposer_in_range (sizes_of 1 a s) q ≡ true) → (c ≡ true → Rule q)
      → Rule (proposer_at (unless_refused n (if c then proposer_bytes q else kept) kept))
  late-left n true q x r f = rule-left n q x r (λ o. f refl)
  late-left n false q x r f = if-ind (λ (l : List ℕ). Rule (proposer_at l)) (eqb n 0) kept kept (λ o. net.again) (λ o. net.again)

  buffered : (set : List ℕ) → (buffer_no a s kept set ≡ 0 → Rule (buffering (proposer_at kept) (set_at set 0))) → Rule (proposer_at (buffer_record a s kept set))
  unfolding buffer_record
  buffered set = rule-left (buffer_no a s kept set) (buffering (proposer_at kept) (set_at set 0)) (buffer-passed a s kept set) (λ x. buffer-range a s kept x set)

  acknowledged-left : (j n : ℕ) → (is_current (proposer_at kept) n ≡ true → Rule (acknowledging (proposer_at kept) j)) → Rule (proposer_at (acknowledged_record a s kept j n))
  unfolding acknowledged_record
  acknowledged-left j n =
      late-left (acknowledged_no a s kept j n) (is_current (proposer_at kept) n) (acknowledging (proposer_at kept) j) (acknowledged-passed a s kept j n) (λ x. acknowledged-range a s kept x j n)

  rejected-left : (j n : ℕ) (set : List ℕ) → (is_current (proposer_at kept) n ≡ true → Rule (rejecting (proposer_at kept) j (set_at set 0)))
      → Rule (proposer_at (rejected_record a s kept j n set))
  unfolding rejected_record
  rejected-left j n set =
      late-left (rejected_no a s kept j n set) (is_current (proposer_at kept) n) (rejecting (proposer_at kept) j (set_at set 0)) (rejected-passed a s kept j n set) (λ x. rejected-range a s kept x j n set)

  called : (rule_no : Proposer → ℕ) (rule : Proposer → Proposer) → (Passed a s kept → rule_no (proposer_at kept) ≡ 0 → proposer_in_range (sizes_of 1 a s) (rule (proposer_at kept)) ≡ true)
      → (rule_no (proposer_at kept) ≡ 0 → Rule (rule (proposer_at kept))) → Rule (proposer_at (call_record a s kept rule_no rule))
  unfolding call_record
  called rule_no rule r f =
      rule-left (call_no a s kept rule_no) (rule (proposer_at kept)) (λ o. (rule-tests a s kept rule_no o).0) (λ x o. r x (rule-tests a s kept rule_no o).1) (λ o. f (rule-tests a s kept rule_no o).1)

  -- what a call leaves is what a rule leaves
  call-rule : {left : List ℕ} → (c : ProposerCall a s t i kept left) → ((k : ℕ) → Gets c k → N.received k) → Rule (proposer_at left)
  call-rule (store.receives set) n = buffered set (λ o. net.receives (set_at set 0) (record { each = λ k m. n k (o, m) }))
  call-rule (store.told m set c e) n = buffered set (λ o. subst (λ (v : Scans). Rule (buffering (proposer_at kept) v)) (sym e) (net.told m (comes p c)))
  call-rule (store.acknowledged m c) n = acknowledged-left m.acceptor.0 m.number (net.acknowledged m (comes p c))
  call-rule (store.rejected m set c e) n =
      rejected-left m.acceptor.0 m.number set
      (λ o. subst (λ (v : Scans). Rule (rejecting (proposer_at kept) m.acceptor.0 v)) (sym e) (net.rejected m (comes p c) o))
  call-rule store.proposes n = called propose_no proposing (propose-range a s kept) (λ o. net.proposes)
  call-rule store.refines n = called (refine_no a) refining (refine-range a s kept) (λ o. net.refines)
  call-rule store.decides n = called (decide_no a) deciding (λ x o. decide-range a s kept x) (λ o. net.decides o)
  call-rule store.again n = net.again

proposer-sends : {a s : ℕ} {t : Stores} {i : ℕ} {kept left : List ℕ} (N : News) (c : ProposerCall a s t i kept left) → ((k : ℕ) → Gets c k → N.received k)
    → (m : Message) → ProposerSends c m → net.ProposerSends N i (proposer_at left) m
unfolding proposer_at
proposer-sends N c n m (store.asks to) = net.asks to
proposer-sends N c n m (store.tells v to r) = net.tells v to (record { each = λ k x. n k (r k x) })

-- ---- ymd_answer_proposal

module _ (s : ℕ) (kept set old : List ℕ) (o : proposal_no s kept set ≡ 0) (j : ℕ) (m : Message) (e : set_at set 0 ≡ m.set) where
  takes : accepts (acceptor_at kept) (set_at set 0) ≡ true → (answering (acceptor_at kept) (set_at set 0)).accepted ≡ m.set
  unfolding answering
  takes y = rw y (accepting-takes (acceptor_at kept) (set_at set 0) ∙ e)

  gains : accepts (acceptor_at kept) (set_at set 0) ≡ false → (answering (acceptor_at kept) (set_at set 0)).accepted ≡ (gaining (acceptor_at kept) m.set).accepted
  unfolding answering
  gains y = rw y (ap (λ (v : Scans). (gaining (acceptor_at kept) v).accepted) e)

  yes_flag : get_or (answer_reply s kept set old) 0 0 ≡ 1 → accepts (acceptor_at kept) (set_at set 0) ≡ true
  yes_flag f = sym (reply-accepts s kept set o old) ∙ eq-eqb _ 1 f

  no_flag : get_or (answer_reply s kept set old) 0 0 ≡ 0 → accepts (acceptor_at kept) (set_at set 0) ≡ false
  no_flag f = sym (reply-accepts s kept set o old) ∙ ap (λ (n : ℕ). eqb n 1) f

  flag-yes : accepts (acceptor_at kept) m.set ≡ true → get_or (answer_reply s kept set old) 0 0 ≡ 1
  flag-yes y = eqb-true _ 1 (reply-accepts s kept set o old ∙ ap (accepts (acceptor_at kept)) e ∙ y)

  replies : (r : Message) → Replies j m (proposal_no s kept set) (answer_reply s kept set old) r → net.Replies j (acceptor_at kept) m r
  replies r (store.acknowledges _ f) =
      subst (λ (v : Scans). net.Replies j (acceptor_at kept) m (Acknowledgement j m.number v m.proposer.0))
      (sym (reply-set s kept set o old ∙ takes (yes_flag f))) (net.acknowledges (sym (ap (accepts (acceptor_at kept)) e) ∙ yes_flag f))
  replies r (store.announces _ f to) =
      subst (λ (v : Scans). net.Replies j (acceptor_at kept) m (Announcement m.proposer.0 j m.number v to))
      (sym (reply-set s kept set o old ∙ takes (yes_flag f))) (net.announces (sym (ap (accepts (acceptor_at kept)) e) ∙ yes_flag f) to)
  replies r (store.rejects _ f) =
      subst (λ (v : Scans). net.Replies j (acceptor_at kept) m (Rejection j m.number v m.proposer.0))
      (sym (reply-set s kept set o old ∙ gains (no_flag f))) net.rejects

-- nothing is sent where it was refused
refuses : (j : ℕ) (m : Message) (n : ℕ) (reply : List ℕ) → (n ≡ 0 → ⊥) → (r : Message) → Replies j m n reply r → ⊥
refuses j m n reply h r (store.acknowledges o f) = h o
refuses j m n reply h r (store.announces o f to) = h o
refuses j m n reply h r (store.rejects o f) = h o

module _ (p a s : ℕ) (t t' : Stores) (sp : Same t.proposer t'.proposer) where
  acceptor-move : (j : ℕ) → j < a → {left : List ℕ} (c : AcceptorCall s t j (t.acceptor j) left)
      → Changed t.acceptor t'.acceptor j left → Same t.learner t'.learner → SendsOnly t t' (AcceptorSends c)
      → Move a (record { received = λ k. ⊥; accepted = Takes c }) (world_of p t) (world_of p t')
  unfolding answer_record
  acceptor-move j b (store.answers m set old k e) c sl ss =
      let kept = t.acceptor j in
      elim (ℕ_discrete (proposal_no s kept set) 0) [
        | yes o ↦ net.by_acceptor j m (answering (acceptor_at kept) (set_at set 0)) (reads_same proposer_at sp) (reads-changed acceptor_at (answer-reads s kept set o) c)
            (ap (λ (v : Scans). (answering (acceptor_at kept) v).accepted) e) (reads_same (learner_at p) sl) (narrows (replies s kept set old o j m e) ss) b (comes p k)
            (λ y. record { who = refl; what = refl; returned = o; begins = flag-yes s kept set old o j m e y })
        | no o ↦ rest-move p t t' sp (unchanged c (undone (proposal_no s kept set) _ kept o)) (narrows (refuses j m (proposal_no s kept set) (answer_reply s kept set old) o) ss) sl
      ]

  learner-move : {N : News} (l : ℕ) {left : List ℕ} → LearnerCall p a s t l (t.learner l) left
      → Same t.acceptor t'.acceptor → Changed t.learner t'.learner l left → SendsOnly t t' Nothing → Move a N (world_of p t) (world_of p t')
  unfolding hear_record
  learner-move l (store.hears m set k e) sa c ss =
      let kept = t.learner l in
      let n = hear_no p a s kept m.proposer.0 m.acceptor.0 m.number set in
      elim (ℕ_discrete n 0) [
        | yes o ↦ net.by_learner l m (reads_same proposer_at sp) (reads_same acceptor_at sa)
            (reads-changed (learner_at p)
            (hear-reads p a s kept m.proposer.0 m.acceptor.0 m.number set o
            ∙ ap (λ (v : Scans). listening a (learner_at p kept) (Announcement m.proposer.0 m.acceptor.0 m.number v 0)) e
            ∙ listening-fields a (learner_at p kept) m)
            c)
            ss (comes p k)
        | no o ↦ rest-move p t t' sp sa ss (unchanged c (undone n _ kept o))
      ]
  learner-move l store.forgets sa c ss =
      wears p t t' sp sa ss
      (changed-each (λ j (x : List ℕ). Worn (learner_at p (t.learner j)) (learner_at p x)) c (λ j. unworn (learner_at p (t.learner j))) (alone-worn p (t.learner l)))

-- ---- each call

pub call-move : (p a s : ℕ) {t t' : Stores} (c : Call p a s t t') → Move a (news_of c) (world_of p t) (world_of p t')
call-move p a s {t} (store.by_proposer i left r c sa sl ss) =
    let N : News = record { received = Gets r; accepted = λ j v. ⊥ } in
    net.by_proposer i (proposer_at left) (reads-changed proposer_at refl c) (reads_same acceptor_at sa) (reads_same (learner_at p) sl)
    (narrows (proposer-sends N r (λ k x. x)) ss) (call-rule p a s N t i (t.proposer i) r (λ k x. x))
call-move p a s {t} {t'} (store.by_acceptor j b left r sp c sl ss) = acceptor-move p a s t t' sp j b r c sl ss
call-move p a s {t} {t'} (store.by_learner l left r sp sa c ss) = learner-move p a s t t' sp l r sa c ss
call-move p a s {t} {t'} (store.rests sp sa sl ss) = rest-move p t t' sp sa ss sl

-- what is received is within s
gets-small : {a s : ℕ} {t : Stores} {i : ℕ} {kept left : List ℕ} (c : ProposerCall a s t i kept left) (k : ℕ) → Gets c k → k < s
gets-small {a} {s} {kept = kept} (store.receives set) k y =
    fits_below s (set-fits s set (buffer-set a s kept (buffer-passed a s kept set y.0) set y.0)) y.1
gets-small (store.told m set c e) k y = absurd y
gets-small (store.acknowledged m c) k y = absurd y
gets-small (store.rejected m set c e) k y = absurd y
gets-small store.proposes k y = absurd y
gets-small store.refines k y = absurd y
gets-small store.decides k y = absurd y
gets-small store.again k y = absurd y

pub call-small : (p a s : ℕ) {t t' : Stores} (c : Call p a s t t') (k : ℕ) → (news_of c).received k → k < s
call-small p a s (store.by_proposer i left c _ _ _ _) k x = gets-small c k x
call-small p a s (store.by_acceptor _ _ _ _ _ _ _ _) k x = absurd x
call-small p a s (store.by_learner _ _ _ _ _ _ _) k x = absurd x
call-small p a s (store.rests _ _ _ _) k x = absurd x
