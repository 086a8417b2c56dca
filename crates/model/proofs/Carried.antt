-- The machine is a network: the messages that may still come are those that a slot holds, and each step is a move.
use mathlib.Core.Path.{◌≡◌, refl, sym, subst}
use mathlib.Core.Logic.{◌⊎◌, inl, inr}
use mathlib.Core.Bool.{Bool, true, false, not, true≢false}
use mathlib.Core.List.{List}
use Prim.Native.Nat.{ℕ, ◌<◌}
use lib.ListN.{length, get_or, set}
use lib.Seq.{get_or-set_same, get_or-set_other}
use borrow.Author.Tests.{ltb-true}
use Rattle.sizes.specs.declared.Sizes.{Sizes}
use Rattle.sets.specs.Scans.{only, ◌⊆◌}
use Rattle.sets.specs.declared.scans.Scans.{Scans}
use Rattle.sets.proofs.ScanLaws.{only-∈}
use Rattle.model.specs.declared.Proposer.{Proposer}
use Rattle.model.specs.declared.Acceptor.{Acceptor}
use Rattle.model.specs.declared.Message.{Message}
use Rattle.model.specs.declared.Event.{Event}
use Rattle.model.specs.Records.{State, Kind, free, internal, proposal, acknowledgement, rejection, announcement, no_kind, kind_of, Role, a_proposer, an_acceptor, a_learner, no_role, role_of, fresh_proposer, fresh_acceptor, fresh_learner, free_slot, proposer_of, acceptor_of, learner_of, slot_of, put_proposer, put_slots, freeing}
use Rattle.model.specs.Rules.{is_current, accepts, answering, crashed_proposer, crashed_acceptor, crashed_learner, accepting, gaining, buffering, deciding}
use Rattle.model.specs.Table.{Internal, Proposal, Announcement, is_free, post}
use Rattle.model.specs.Events.{Code, receive, deliver, drop, duplicate, propose, refine, decide, crash, no_code, code_of, Effect, quiet, effect, delivery, proposes, crashed, tests}
use Rattle.model.specs.Ranges.{fields_in_range}
use Rattle.model.specs.Step.{step, sent}
use Rattle.model.specs.Safety as machine
use Rattle.model.specs.Network.{World, News, Receiving, Comes, Changed, ProposerRule, receives, told, acknowledged, rejected, proposes as by_propose, refines, decides, ProposerSends, asks, tells, Replies, acknowledges, announces, rejects, Nothing, Move, by_proposer, by_acceptor, by_learner, Worn, rests}
use Rattle.choice.proofs.Tests.{if-ind, and_l, test-passed, rest-passed}
use Rattle.model.proofs.Lists.{All, none, also, map-all, set_all, set-rel, post-all, every-one-below, every-other-below}
use Rattle.model.proofs.RuleLaws.{accepts-contained}
use Rattle.model.proofs.Steps.{step-ind, receive-passed, propose-passed, refine-passed, decide-passed, ok-ranges, ok_tests}
use Rattle.model.proofs.States.{Holds}
use Rattle.model.proofs.InRange.{ranges, test-ranges, slot-fields}
use Rattle.model.proofs.Changes.{unworn}

-- a message that a slot holds
pub record Flying (t : List Message) (m : Message) : Type 0 where
  pub slot : ℕ
  pub is : get_or t slot free_slot ≡ m
  pub taken : is_free m ≡ false

abbrev pub world_of : State → World
world_of s = record { proposer = proposer_of s; acceptor = acceptor_of s; learner = learner_of s; sent = Flying s.slots }

-- ---- one store

changes : {B : Type 0} (d : B) (l : List B) (i : ℕ) (x : B) → i < length l → Changed (λ j. get_or l j d) (λ j. get_or (set l i x) j d) i x
changes d l i x h = record { here = get_or-set_same l i x d h; others = λ j n. get_or-set_other l i j x d n }

-- ---- messages sent into a table t that was freed from s

-- the message, if it is one, flew before or is among these
abbrev Allowed : State → (Message → Type 0) → Message → Type 0
Allowed s S m = is_free m ≡ false → Flying s.slots m ⊎ S m

module _ (s : State) (S : Message → Type 0) where
  still : (i : ℕ) → Allowed s S (slot_of s i)
  still i t = inl (record { slot = i; is = refl; taken = t })

  freed : (a i : ℕ) → Allowed s S (slot_of (freeing s a) i)
  freed a = set_all (Allowed s S) free_slot s.slots a free_slot still (λ t. absurd (true≢false t))

  posted : {ms : List Message} → All (Allowed s S) ms → (t : List Message) → ((i : ℕ) → Allowed s S (get_or t i free_slot))
      → (m : Message) → Flying (post ms t) m → Flying s.slots m ⊎ S m
  posted a t h m f = subst (Allowed s S) f.is (post-all (Allowed s S) a t h f.slot) f.taken

-- ---- moves, with the table t before messages are sent

module _ (z : Sizes) {N : News} (s : State) {ms : List Message} where
  rest-move : (t : List Message) → ((i : ℕ) → Allowed s Nothing (get_or t i free_slot)) → All (Allowed s Nothing) ms → Move z.acceptors N (world_of s) (world_of (put_slots s (post ms t)))
  rest-move t h a = rests (λ i. refl) (λ j. refl) (λ l. unworn _) (posted s Nothing a t h)

  proposer-move : (t : List Message) (i : ℕ) (q : Proposer) → i < length s.proposers → ProposerRule z.acceptors N (world_of s) i (proposer_of s i) q
      → ((i' : ℕ) → Allowed s (ProposerSends N i q) (get_or t i' free_slot)) → All (Allowed s (ProposerSends N i q)) ms
      → Move z.acceptors N (world_of s) (world_of (put_slots (put_proposer s i q) (post ms t)))
  proposer-move t i q b r h a =
      by_proposer i q (changes fresh_proposer s.proposers i q b) (λ j. refl) (λ l. refl) (posted s (ProposerSends N i q) a t h) r

-- ---- what passed tests and ranges say

abbrev Ranges : Sizes → State → Type 0
Ranges z s = Holds (ranges z) z s

deliver-passed : (z : Sizes) (s : State) (a b : ℕ) → tests z s deliver a b ≡ 0 → not (is_free (slot_of s a)) ≡ true
unfolding tests
deliver-passed z s a b t = search (test-passed 3, rest-passed 2)

not-true : (t : Bool) → not t ≡ true → t ≡ false
not-true true e = sym e
not-true false e = refl

-- ---- an acceptor's rule, by what it answers

answering-yes : (q : Acceptor) (v : Scans) → accepts q v ≡ true → (accepting q v).accepted ≡ (answering q v).accepted
unfolding answering
answering-yes q v e = rw e

answering-no : (q : Acceptor) (v : Scans) → accepts q v ≡ false → (gaining q v).accepted ≡ (answering q v).accepted
unfolding answering
answering-no q v e = rw e

-- ---- Deliver

module _ (z : Sizes) (N : News) (s : State) (x : Ranges z s) (a : ℕ) (taken : is_free (slot_of s a) ≡ false) where
  abbrev MoveTo : Effect → Type 0
  MoveTo f = Move z.acceptors N (world_of s) (world_of (sent f))

  comes : {k : Kind} → kind_of (slot_of s a).kind ≡ k → Comes (world_of s) k (slot_of s a).addressee (slot_of s a)
  comes e = record { was = record { slot = a; is = refl; taken = taken }; kind = e; addressee = refl }

  proposal-move : kind_of (slot_of s a).kind ≡ proposal → (slot_of s a).addressee < z.acceptors
      → ((acceptor_of s (slot_of s a).addressee).accepted ⊆ (slot_of s a).set → N.accepted (slot_of s a).addressee (slot_of s a).set)
      → MoveTo (delivery z (freeing s a) (slot_of s a) proposal)
  unfolding delivery
  proposal-move e b n =
      let m = slot_of s a in
      let j = m.addressee in
      let q = acceptor_of s j in
      let h = freed s (Replies j q m) a in
      let l : j < length s.acceptors = rw x.many_acceptors b in
      if-ind MoveTo (accepts q m.set) _ _
      (λ o. by_acceptor j m (accepting q m.set) (λ i. refl) (changes fresh_acceptor s.acceptors j _ l) (answering-yes q m.set o) (λ l. refl)
      (posted s (Replies j q m)
      (also (λ _. inr (acknowledges o)) (map-all (Allowed s (Replies j q m)) (Announcement m.proposer.0 j m.number m.set) (λ l _ _. inr (announces o l)) (every-one-below z.learners)))
      _ h)
      b (comes e) (λ o'. n (accepts-contained q m.set o')))
      (λ o. by_acceptor j m (gaining q m.set) (λ i. refl) (changes fresh_acceptor s.acceptors j _ l) (answering-no q m.set o) (λ l. refl)
      (posted s (Replies j q m) (also (λ _. inr rejects) none) _ h)
      b (comes e) (λ o'. n (accepts-contained q m.set o')))

  -- a late answer, or none
  nothing-moves : MoveTo (quiet (freeing s a))
  nothing-moves = rest-move z s _ (freed s Nothing a) none

  proposer-takes : (q : Proposer) → (slot_of s a).addressee < z.proposers
      → ProposerRule z.acceptors N (world_of s) (slot_of s a).addressee (proposer_of s (slot_of s a).addressee) q
      → MoveTo (quiet (put_proposer (freeing s a) (slot_of s a).addressee q))
  proposer-takes q b r = proposer-move z s _ (slot_of s a).addressee q (rw x.many_proposers b) r (freed s (ProposerSends N (slot_of s a).addressee q) a) none

  delivery-move : (k : Kind) → kind_of (slot_of s a).kind ≡ k → fields_in_range z (slot_of s a) k ≡ true
      → (k ≡ proposal → (acceptor_of s (slot_of s a).addressee).accepted ⊆ (slot_of s a).set → N.accepted (slot_of s a).addressee (slot_of s a).set)
      → MoveTo (delivery z (freeing s a) (slot_of s a) k)
  unfolding delivery fields_in_range
  delivery-move free e y n = nothing-moves
  delivery-move internal e y n = proposer-takes _ (search (and_l, ltb-true) depth 9) (told (slot_of s a) (comes e))
  delivery-move proposal e y n = proposal-move e (search (and_l, ltb-true) depth 9) (n refl)
  delivery-move acknowledgement e y n =
      if-ind MoveTo (is_current (proposer_of s (slot_of s a).addressee) (slot_of s a).number) _ _
      (λ o. proposer-takes _ (search (and_l, ltb-true) depth 9) (acknowledged (slot_of s a) (comes e) o))
      (λ o. nothing-moves)
  delivery-move rejection e y n =
      if-ind MoveTo (is_current (proposer_of s (slot_of s a).addressee) (slot_of s a).number) _ _
      (λ o. proposer-takes _ (search (and_l, ltb-true) depth 9) (rejected (slot_of s a) (comes e) o))
      (λ o. nothing-moves)
  delivery-move announcement e y n =
      by_learner (slot_of s a).addressee (slot_of s a) (λ i. refl) (λ j. refl)
      (changes fresh_learner s.learners (slot_of s a).addressee _ (rw x.many_learners (search (and_l, ltb-true) depth 9)))
      (posted s Nothing none _ (freed s Nothing a)) (comes e)
  delivery-move no_kind e y n = nothing-moves

-- ---- each event

crashed-move : {A : ℕ} {N : News} (s : State) (r : Role) (i : ℕ) → Move A N (world_of s) (world_of (sent (quiet (crashed s r i))))
unfolding crashed crashed_proposer crashed_acceptor crashed_learner
crashed-move s a_proposer i =
    rests (set-rel (λ (p q : Proposer). crashed_proposer q ≡ crashed_proposer p) (λ p. refl) fresh_proposer s.proposers i _ refl) (λ j. refl) (λ l. unworn _) (posted s Nothing none _ (still s Nothing))
crashed-move s an_acceptor i =
    rests (λ j. refl) (set-rel (λ (p q : Acceptor). q.accepted ≡ p.accepted) (λ p. refl) fresh_acceptor s.acceptors i _ refl) (λ l. unworn _) (posted s Nothing none _ (still s Nothing))
crashed-move s a_learner i =
    rests (λ j. refl) (λ j. refl) (set-rel Worn unworn fresh_learner s.learners i (crashed_learner (learner_of s i)) (record { learnt = refl; heard = λ n. inl refl })) (posted s Nothing none _ (still s Nothing))
crashed-move s no_role i = rests (λ i. refl) (λ j. refl) (λ l. unworn _) (posted s Nothing none _ (still s Nothing))

-- N knows what the event of code c with arguments a and b, meeting the state s, makes happen
record Tells (N : News) (s : State) (c : Code) (a b : ℕ) : Type 0 where
  received : c ≡ receive → N.received b
  accepted : machine.Stores c b → kind_of (slot_of s a).kind ≡ proposal → (acceptor_of s (slot_of s a).addressee).accepted ⊆ (slot_of s a).set
      → N.accepted (slot_of s a).addressee (slot_of s a).set

module _ (z : Sizes) (N : News) (s : State) (x : Ranges z s) where
  proposes-move : (a : ℕ) (p : Proposer) → a < z.proposers → ProposerRule z.acceptors N (world_of s) a (proposer_of s a) p
      → Move z.acceptors N (world_of s) (world_of (sent (proposes z s a p)))
  unfolding proposes
  proposes-move a p b r =
      proposer-move z s s.slots a p (rw x.many_proposers b) r (still s (ProposerSends N a p))
      (map-all (Allowed s (ProposerSends N a p)) (Proposal a p.number p.proposed) (λ to _ _. inr (asks to)) (every-one-below z.acceptors))

  effect-move : (c : Code) (a b : ℕ) → Tells N s c a b → tests z s c a b ≡ 0 → Move z.acceptors N (world_of s) (world_of (sent (effect z s c a b)))
  unfolding effect
  effect-move receive a b n t =
      let r : Receiving N (only b) = record { each = λ k m. subst N.received (sym (only-∈ b k m)) (n.received refl) } in
      let q = buffering (proposer_of s a) (only b) in
      proposer-move z s s.slots a q (rw x.many_proposers (receive-passed z s a b t).0) (receives (only b) r) (still s (ProposerSends N a q))
      (map-all (Allowed s (ProposerSends N a q)) (Internal (only b)) (λ to _ _. inr (tells (only b) to r)) (every-other-below a z.proposers))
  effect-move deliver a b n t =
      delivery-move z N s x a (not-true (is_free (slot_of s a)) (deliver-passed z s a b t)) (kind_of (slot_of s a).kind) refl (slot-fields z (slot_of s a) (x.slots a)) (n.accepted machine.delivered)
  effect-move drop a b n t = rest-move z s _ (freed s Nothing a) none
  effect-move duplicate a b n t = rest-move z s s.slots (still s Nothing) (also (still s Nothing a) none)
  effect-move propose a b n t = proposes-move a _ (propose-passed z s a b t).party by_propose
  effect-move refine a b n t = proposes-move a _ (refine-passed z s a b t).party refines
  effect-move decide a b n t =
      let k = decide-passed z s a b t in
      let q = deciding (proposer_of s a) in
      proposer-move z s s.slots a q (rw x.many_proposers k.party) (decides k.rule) (still s (ProposerSends N a q)) none
  effect-move crash a b n t = crashed-move s (role_of a) b
  effect-move no_code a b n t = rest-move z s s.slots (still s Nothing) none

-- ---- each step

-- what an event makes happen that meets a state
abbrev pub news_of : Sizes → State → Event → News
news_of z s e = record { received = machine.Receives z s e; accepted = machine.Accepts z s e }

pub step_move : (z : Sizes) (s : State) (e : Event) → Move z.acceptors (news_of z s e) (world_of s) (world_of (step z s e).state)
step_move z s e =
    step-ind (λ (t : State). Move z.acceptors (news_of z s e) (world_of s) (world_of t)) z s e
    (rests (λ i. refl) (λ j. refl) (λ l. unworn _) (λ m f. inl f))
    (λ ok. effect-move z (news_of z s e) s (test-ranges z s (ok-ranges z s e ok)) (code_of e.code) e.a e.b
    (record {
      received = λ c. record { ok = ok; code = c; scan = refl };
      accepted = λ c k h. record { ok = ok; code = c; kind = k; addressee = refl; set = refl; contains = h };
    })
    (ok_tests z s e ok))
