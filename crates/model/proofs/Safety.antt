-- Every run is safe: it is a history of a network.
use mathlib.Core.Path.{◌≡◌, refl, sym, ap, subst, ◌∙◌}
use mathlib.Core.Logic.{inl, inr}
use mathlib.Core.Bool.{true≢false}
use mathlib.Core.List.{List}
use Prim.Native.Nat.{ℕ, ◌<◌}
use Rattle.sizes.specs.declared.Sizes.{Sizes}
use Rattle.sets.specs.declared.scans.Scans.{Scans}
use Rattle.model.specs.declared.Proposer.{Proposer}
use Rattle.model.specs.declared.Acceptor.{Acceptor}
use Rattle.model.specs.declared.Learner.{Learner}
use Rattle.model.specs.declared.Message.{Message}
use Rattle.model.specs.declared.Event.{Event}
use Rattle.model.specs.Records.{State, fresh, fresh_proposer, fresh_acceptor, fresh_learner, free_slot}
use Rattle.model.specs.Table.{is_free}
use Rattle.model.specs.Events.{Code, receive, tests}
use Rattle.model.specs.Safety as machine
use Rattle.model.specs.Network.{Move, Fresh, History}
use Rattle.model.specs.NetworkSafety as network
use Rattle.model.proofs.Lists.{replicate-all}
use Rattle.model.proofs.Steps.{receive-passed, ok_tests}
use Rattle.model.proofs.Answers.{said-given}
use Rattle.model.proofs.Moments.{first, next}
use Rattle.model.proofs.Carried.{world_of, news_of, step_move}
use Rattle.model.proofs.NetworkSafety as network'

fresh-world : (z : Sizes) → Fresh (world_of (fresh z))
unfolding fresh
fresh-world z = record {
  proposers = replicate-all (λ (p : Proposer). p ≡ fresh_proposer) z.proposers fresh_proposer fresh_proposer refl refl;
  acceptors = replicate-all (λ (q : Acceptor). q ≡ fresh_acceptor) z.acceptors fresh_acceptor fresh_acceptor refl refl;
  learners = replicate-all (λ (l : Learner). l ≡ fresh_learner) z.learners fresh_learner fresh_learner refl refl;
  nothing_sent = λ m f.
      let e : free_slot ≡ m = sym (replicate-all (λ (n : Message). n ≡ free_slot) z.slots free_slot free_slot refl refl f.slot) ∙ f.is in
      true≢false (ap is_free e ∙ f.taken);
}

receives-below : (z : Sizes) (s : State) (e : Event) (k : ℕ) → machine.Receives z s e k → k < z.scans
receives-below z s e k r =
    let t : tests z s receive e.a e.b ≡ 0 = subst (λ (c : Code). tests z s c e.a e.b ≡ 0) r.code (ok_tests z s e r.ok) in
    subst (λ (n : ℕ). n < z.scans) r.scan (receive-passed z s e.a e.b t).1

given : {s : State} {v : Scans} → machine.Given s v → network.Given (world_of s) v
given (machine.learnt l e) = network.learnt l e
given (machine.decided p e) = network.decided p e

module _ (z : Sizes) (es : List Event) where
  pub history : History z.acceptors z.scans
  history = record {
    world = λ i. world_of (machine.moment z es i);
    news = λ i. news_of z (machine.moment z es i) (machine.nth es i);
    begins = subst (λ (s : State). Fresh (world_of s)) (sym (first z es)) (fresh-world z);
    moves = λ i.
        subst (λ (t : State). Move z.acceptors (news_of z (machine.moment z es i) (machine.nth es i)) (world_of (machine.moment z es i)) (world_of t))
        (sym (next z es i)) (step_move z (machine.moment z es i) (machine.nth es i));
    small = λ i. receives-below z (machine.moment z es i) (machine.nth es i);
  }

  accepted : {i j : ℕ} {v : Scans} → network.Accepted history i j v → machine.Accepted z es i j v
  unfolding history
  accepted x = record { when = x.when; before = x.before; event = x.event }

  most : {i : ℕ} {v : Scans} → network.MostAccepted history i v → machine.MostAccepted z es i v
  most x = record { acceptors = x.acceptors; exist = x.exist; most = x.most; each = λ j a. accepted (x.each j a) }

  -- demand 3: for any sizes and any events
  pub safe : machine.Safe z es
  unfolding history
  safe =
      let n : network.Safe history = network'.safe history in
      record {
        said = said-given z es;
        comparable = λ i j u v x y. n.comparable i j u v (given x) (given y);
        never_shrinks = n.never_shrinks;
        received = λ i k v x m. let r = n.received i k v (given x) m in record { when = r.when; before = r.before; event = r.event };
        chosen = λ i v x. elim (n.chosen i v (given x)) [ inl e ↦ inl e | inr y ↦ inr (most y) ];
        found_later = λ i j u v x y. n.found_later i j u v (given x) (given y);
      }
