-- Facts of every record of a state: what stores, sending, a step and the fresh state leave of them.
use mathlib.Core.Path.{◌≡◌, refl, ap, ◌∙◌}
use mathlib.Core.List.{List, [], ◌∷◌}
use Prim.Native.Nat.{ℕ, suc}
use lib.ListN.{length, get_or, length-set, length-replicate}
use Rattle.sizes.specs.declared.Sizes.{Sizes}
use Rattle.model.specs.declared.Proposer.{Proposer}
use Rattle.model.specs.declared.Acceptor.{Acceptor}
use Rattle.model.specs.declared.Learner.{Learner}
use Rattle.model.specs.declared.Message.{Message}
use Rattle.model.specs.declared.Event.{Event}
use Rattle.model.specs.Records.{State, fresh, fresh_proposer, fresh_acceptor, fresh_learner, free_slot, proposer_of, acceptor_of, learner_of, slot_of, put_proposer, put_acceptor, put_learner, put_slots, freeing}
use Rattle.model.specs.Table.{is_free, place, post}
use Rattle.model.specs.Events.{Effect, quiet}
use Rattle.model.specs.Step.{step_no, step, sent}
use Rattle.choice.proofs.Tests.{if-ind}
use Rattle.model.proofs.Lists.{set_all, replicate-all, All, none, post-all}
use Rattle.model.proofs.Steps.{does, step-ind}

-- what is claimed of each record of a kind
pub record Facts : Type 1 where
  pub proposer : Proposer → Type 0
  pub acceptor : Acceptor → Type 0
  pub learner : Learner → Type 0
  pub slot : Message → Type 0

-- the state has the records of a run of these sizes, and the facts hold of each
pub record Holds (F : Facts) (z : Sizes) (s : State) : Type 0 where
  pub many_proposers : length s.proposers ≡ z.proposers
  pub many_acceptors : length s.acceptors ≡ z.acceptors
  pub many_learners : length s.learners ≡ z.learners
  pub many_slots : length s.slots ≡ z.slots
  pub proposers : (i : ℕ) → F.proposer (proposer_of s i)
  pub acceptors : (j : ℕ) → F.acceptor (acceptor_of s j)
  pub learners : (l : ℕ) → F.learner (learner_of s l)
  pub slots : (i : ℕ) → F.slot (slot_of s i)

-- ---- one store

module _ {F : Facts} {z : Sizes} {s : State} (x : Holds F z s) where
  pub put-proposer : (i : ℕ) (p : Proposer) → F.proposer p → Holds F z (put_proposer s i p)
  put-proposer i p h = record {
    many_proposers = length-set s.proposers i p ∙ x.many_proposers;
    many_acceptors = x.many_acceptors;
    many_learners = x.many_learners;
    many_slots = x.many_slots;
    proposers = set_all F.proposer fresh_proposer s.proposers i p x.proposers h;
    acceptors = x.acceptors;
    learners = x.learners;
    slots = x.slots;
  }

  pub put-acceptor : (j : ℕ) (q : Acceptor) → F.acceptor q → Holds F z (put_acceptor s j q)
  put-acceptor j q h = record {
    many_proposers = x.many_proposers;
    many_acceptors = length-set s.acceptors j q ∙ x.many_acceptors;
    many_learners = x.many_learners;
    many_slots = x.many_slots;
    proposers = x.proposers;
    acceptors = set_all F.acceptor fresh_acceptor s.acceptors j q x.acceptors h;
    learners = x.learners;
    slots = x.slots;
  }

  pub put-learner : (i : ℕ) (l : Learner) → F.learner l → Holds F z (put_learner s i l)
  put-learner i l h = record {
    many_proposers = x.many_proposers;
    many_acceptors = x.many_acceptors;
    many_learners = length-set s.learners i l ∙ x.many_learners;
    many_slots = x.many_slots;
    proposers = x.proposers;
    acceptors = x.acceptors;
    learners = set_all F.learner fresh_learner s.learners i l x.learners h;
    slots = x.slots;
  }

  put-slots : (t : List Message) → length t ≡ length s.slots → ((i : ℕ) → F.slot (get_or t i free_slot)) → Holds F z (put_slots s t)
  put-slots t n h = record {
    many_proposers = x.many_proposers;
    many_acceptors = x.many_acceptors;
    many_learners = x.many_learners;
    many_slots = n ∙ x.many_slots;
    proposers = x.proposers;
    acceptors = x.acceptors;
    learners = x.learners;
    slots = h;
  }

  pub put-freeing : (i : ℕ) → F.slot free_slot → Holds F z (freeing s i)
  put-freeing i h = put-slots _ (length-set s.slots i free_slot) (set_all F.slot free_slot s.slots i free_slot x.slots h)

-- ---- what an event does

-- the facts hold of the records that it leaves and of the messages that it sends
pub record Done (F : Facts) (z : Sizes) (e : Effect) : Type 0 where
  pub left : Holds F z e.left
  pub sends : All F.slot e.sends

pub quiet-done : {F : Facts} {z : Sizes} {s : State} → Holds F z s → Done F z (quiet s)
quiet-done x = record { left = x; sends = none }

length-place : (m : Message) (t : List Message) → length (place m t) ≡ length t
unfolding place
length-place m [] = refl
length-place m (x ∷ t) =
    if-ind (λ (u : List Message). length u ≡ suc (length t)) (is_free x) (m ∷ t) (x ∷ place m t) (λ e. refl) (λ e. ap suc (length-place m t))

pub length-post : (ms t : List Message) → length (post ms t) ≡ length t
unfolding post
length-post [] t = refl
length-post (m ∷ ms) t = length-post ms (place m t) ∙ length-place m t

sent-holds : {F : Facts} {z : Sizes} (e : Effect) → Done F z e → Holds F z (sent e)
sent-holds {F} e x =
    put-slots x.left _ (length-post e.sends e.left.slots) (post-all F.slot x.sends e.left.slots x.left.slots)

pub step-holds : {F : Facts} {z : Sizes} (s : State) (e : Event) → Holds F z s → (step_no z s e ≡ 0 → Done F z (does z s e)) → Holds F z (step z s e).state
step-holds {F} {z} s e x d = step-ind (Holds F z) z s e x (λ ok. sent-holds (does z s e) (d ok))

-- ---- the fresh state

pub fresh_holds : (F : Facts) (z : Sizes) → F.proposer fresh_proposer → F.acceptor fresh_acceptor → F.learner fresh_learner → F.slot free_slot → Holds F z (fresh z)
unfolding fresh
fresh_holds F z p q l m = record {
  many_proposers = length-replicate z.proposers fresh_proposer;
  many_acceptors = length-replicate z.acceptors fresh_acceptor;
  many_learners = length-replicate z.learners fresh_learner;
  many_slots = length-replicate z.slots free_slot;
  proposers = replicate-all F.proposer z.proposers fresh_proposer fresh_proposer p p;
  acceptors = replicate-all F.acceptor z.acceptors fresh_acceptor fresh_acceptor q q;
  learners = replicate-all F.learner z.learners fresh_learner fresh_learner l l;
  slots = replicate-all F.slot z.slots free_slot free_slot m m;
}
