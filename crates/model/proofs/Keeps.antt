-- Each move keeps the invariant, if what it makes happen is known.
use mathlib.Core.Path.{◌≡◌, sym, ap, subst, ◌∙◌}
use mathlib.Core.Logic.{◌⊎◌, inl, inr}
use mathlib.Core.Bool.{true}
use Prim.Native.Nat.{ℕ, ◌<◌}
use Rattle.sets.specs.Scans.{empty}
use Rattle.sets.specs.declared.scans.Scans.{Scans}
use Rattle.sets.specs.declared.acceptors.Acceptors.{Acceptors}
use Rattle.model.specs.declared.Proposer.{Proposer}
use Rattle.model.specs.declared.Acceptor.{Acceptor}
use Rattle.model.specs.declared.Heard.{Heard}
use Rattle.model.specs.declared.Learner.{Learner}
use Rattle.model.specs.declared.Message.{Message}
use Rattle.model.specs.Records.{Kind, free, internal, proposal, acknowledgement, rejection, announcement, no_kind, kind_of, unheard}
use Rattle.model.specs.Rules.{crashed_proposer, accepts, answering}
use Rattle.model.specs.Network.{World, News, Receiving, Comes, ProposerRule, receives, told, acknowledged, rejected, proposes, refines, decides, again, ProposerSends, asks, tells, Replies, acknowledges, announces, rejects, Nothing, Worn, Move, by_proposer, by_acceptor, by_learner, rests}
use Rattle.choice.proofs.Tests.{if-ind}
use Rattle.model.proofs.RuleLaws.{accepting-takes, current-number}
use Rattle.model.proofs.Invariant.{Known, More, AllReceived, Votes, Chosen, nothing, chosen, ProposerInv, HeardInv, LearnerInv, OneSet, buffering-inv, acknowledging-inv, rejecting-inv, accepting-inv, gaining-inv, proposing-inv, refining-inv, deciding-inv, crashed-proposer-inv, listening-inv, Voted, received-empty, votes-none}
use Rattle.model.proofs.Changes.{changed-each, same-each}

-- ---- the invariant

-- what a message vouches for, by its kind
abbrev pub Carries : Known → ℕ → Message → Kind → Type 0
Carries K A m free = Unit {0}
Carries K A m internal = Unit {0}
Carries K A m proposal = K.proposed m.proposer.0 m.number m.set
Carries K A m acknowledgement = Voted K A m.addressee m.acceptor.0 m.number m.set
Carries K A m rejection = Unit {0}
Carries K A m announcement = Voted K A m.proposer.0 m.acceptor.0 m.number m.set
Carries K A m no_kind = Unit {0}

pub record MessageInv (K : Known) (A : ℕ) (m : Message) : Type 0 where
  pub set : AllReceived K m.set
  pub carries : Carries K A m (kind_of m.kind)

pub record Inv (A : ℕ) (K : Known) (w : World) : Type 0 where
  pub proposers : (i : ℕ) → ProposerInv K A (w.proposer i)
  pub acceptors : (j : ℕ) → AllReceived K (w.acceptor j).accepted
  pub learners : (l : ℕ) → LearnerInv K A (w.learner l)
  pub messages : (m : Message) → w.sent m → MessageInv K A m

-- ---- knowing more

module _ {K K' : Known} (f : More K K') where
  received_more : {v : Scans} → AllReceived K v → AllReceived K' v
  received_more x = record { each = λ k m. f.received k (x.each k m) }

  votes-more : {A : ℕ} {q : Acceptors} {v : Scans} → Votes K A q v → Votes K' A q v
  votes-more {v = v} x = record { exist = x.exist; each = λ j m. f.accepted j v (x.each j m) }

  chosen_more : {A : ℕ} {v : Scans} → Chosen K A v → Chosen K' A v
  chosen_more (nothing e) = nothing e
  chosen_more (chosen q h x) = chosen q h (votes-more x)

  voted-more : {A i j n : ℕ} {v : Scans} → Voted K A i j n v → Voted K' A i j n v
  voted-more {i = i} {j} {n} {v} x = record { exist = x.exist; accepted = f.accepted j v x.accepted; what = f.proposed i n v x.what }

  heard-more : {A i : ℕ} {h : Heard} → HeardInv K A i h → HeardInv K' A i h
  heard-more {i = i} {h} x = record { set = received_more x.set; votes = votes-more x.votes; what = f.proposed i h.number h.set x.what }

  carries-more : (A : ℕ) (m : Message) (k : Kind) → Carries K A m k → Carries K' A m k
  carries-more A m free x = tt
  carries-more A m internal x = tt
  carries-more A m proposal x = f.proposed m.proposer.0 m.number m.set x
  carries-more A m acknowledgement x = voted-more x
  carries-more A m rejection x = tt
  carries-more A m announcement x = voted-more x
  carries-more A m no_kind x = tt

  pub inv-more : {A : ℕ} {w : World} → Inv A K w → Inv A K' w
  inv-more {A} x = record {
    proposers = λ i. let p = x.proposers i in record {
      buffered = received_more p.buffered;
      proposed = received_more p.proposed;
      gathered = received_more p.gathered;
      decided = received_more p.decided;
      votes = votes-more p.votes;
      choice = chosen_more p.choice;
    };
    acceptors = λ j. received_more (x.acceptors j);
    learners = λ l. let y = x.learners l in record {
      learnt = received_more y.learnt;
      choice = chosen_more y.choice;
      heard = λ i. heard-more (y.heard i);
    };
    messages = λ m s. let y = x.messages m s in record {
      set = received_more y.set;
      carries = carries-more A m (kind_of m.kind) y.carries;
    };
  }

-- ---- what is known after a move

-- each proposer's number stands for its proposed set
pub record Current (K : Known) (w : World) : Type 0 where
  pub each : (i : ℕ) → K.proposed i (w.proposer i).number (w.proposer i).proposed

-- K knows what a move to w' makes happen
pub record Learns (K : Known) (N : News) (w' : World) : Type 0 where
  pub one : OneSet K
  pub now : Current K w'
  pub first : (i : ℕ) → K.proposed i 0 empty
  pub received : (k : ℕ) → N.received k → K.received k
  pub accepted : (j : ℕ) (v : Scans) → N.accepted j v → (w'.acceptor j).accepted ≡ v → K.accepted j v

-- ---- each move

module _ {A : ℕ} {K : Known} {N : News} {w w' : World} (x : Inv A K w) (before : Current K w) (n : Learns K N w') where
  receiving : {v : Scans} → Receiving N v → AllReceived K v
  receiving r = record { each = λ k m. n.received k (r.each k m) }

  -- what a message that comes vouches for
  comes-carries : {k : Kind} {to : ℕ} {m : Message} → Comes w k to m → Carries K A m k
  comes-carries {m = m} c = subst (Carries K A m) c.kind (x.messages m c.was).carries

  comes-set : {k : Kind} {to : ℕ} {m : Message} → Comes w k to m → AllReceived K m.set
  comes-set {m = m} c = (x.messages m c.was).set

  rule-inv : {i : ℕ} {q : Proposer} → ProposerRule A N w i (w.proposer i) q → ProposerInv K A q
  rule-inv {i} (receives v r) = buffering-inv (x.proposers i) (receiving r)
  rule-inv {i} (told m c) = buffering-inv (x.proposers i) (comes-set c)
  rule-inv {i} (acknowledged m c e) =
      acknowledging-inv n.one (x.proposers i) (before.each i) (current-number _ m.number e)
      (subst (λ (to : ℕ). Voted K A to m.acceptor.0 m.number m.set) c.addressee (comes-carries c))
  rule-inv {i} (rejected m c e) = rejecting-inv (x.proposers i) m.acceptor.0 (comes-set c)
  rule-inv {i} proposes = proposing-inv (x.proposers i)
  rule-inv {i} refines = refining-inv (x.proposers i)
  rule-inv {i} (decides e) = deciding-inv (x.proposers i) e
  rule-inv {i} again = x.proposers i

  proposer-sends : {i : ℕ} {q : Proposer} → w'.proposer i ≡ q → ProposerInv K A q → (m : Message) → ProposerSends N i q m → MessageInv K A m
  proposer-sends {i} {q} e y m (asks to) = record {
    set = y.proposed;
    carries = subst (λ (r : Proposer). K.proposed i r.number r.proposed) e (n.now.each i);
  }
  proposer-sends e y m (tells v to r) = record { set = receiving r; carries = tt }

  -- what is left, and what is sent
  messages-kept : {S : Message → Type 0} → ((m : Message) → w'.sent m → (w.sent m) ⊎ S m) → ((m : Message) → S m → MessageInv K A m)
      → (m : Message) → w'.sent m → MessageInv K A m
  messages-kept s f m h = elim (s m h) [ inl o ↦ x.messages m o | inr r ↦ f m r ]

  nothing-sent : (m : Message) → Nothing m → MessageInv K A m
  nothing-sent m h = absurd h

  module _ {j : ℕ} {m : Message} (b : j < A) (c : Comes w proposal j m) where
    answering-inv : AllReceived K (answering (w.acceptor j) m.set).accepted
    unfolding answering
    answering-inv =
        if-ind (λ (r : Acceptor). AllReceived K r.accepted) (accepts (w.acceptor j) m.set) _ _
        (λ e. accepting-inv (w.acceptor j) (comes-set c))
        (λ e. gaining-inv (w.acceptor j) (comes-set c) (x.acceptors j))

    -- an acceptor that accepts a set has exactly that set afterwards
    answering-takes : accepts (w.acceptor j) m.set ≡ true → (answering (w.acceptor j) m.set).accepted ≡ m.set
    unfolding answering
    answering-takes e = rw e (accepting-takes (w.acceptor j) m.set)

    module _ (h : (w'.acceptor j).accepted ≡ (answering (w.acceptor j) m.set).accepted) (a : accepts (w.acceptor j) m.set ≡ true → N.accepted j m.set) where
      voted : accepts (w.acceptor j) m.set ≡ true → Voted K A m.proposer.0 j m.number m.set
      voted e = record {
        exist = b;
        accepted = n.accepted j m.set (a e) (h ∙ answering-takes e);
        what = comes-carries c;
      }

      acceptor-sends : (r : Message) → Replies j (w.acceptor j) m r → MessageInv K A r
      acceptor-sends r (acknowledges e) = record { set = comes-set c; carries = voted e }
      acceptor-sends r (announces e to) = record { set = comes-set c; carries = voted e }
      acceptor-sends r rejects = record { set = gaining-inv (w.acceptor j) (comes-set c) (x.acceptors j); carries = tt }

-- what is heard of nobody
pub unheard-inv : {K : Known} {A : ℕ} → ((i : ℕ) → K.proposed i 0 empty) → (i : ℕ) → HeardInv K A i unheard
unheard-inv first i = record { set = received-empty; votes = votes-none; what = first i }

-- ---- a party that only stopped or went on

alive-proposer : {K : Known} {A : ℕ} {p q : Proposer} → crashed_proposer q ≡ crashed_proposer p → ProposerInv K A p → ProposerInv K A q
unfolding crashed_proposer
alive-proposer {K} {A} {p} {q} e x =
    let y : ProposerInv K A (crashed_proposer q) = subst (ProposerInv K A) (sym e) (crashed-proposer-inv x) in
    record { buffered = y.buffered; proposed = y.proposed; gathered = y.gathered; decided = y.decided; votes = y.votes; choice = y.choice }

worn-learner : {K : Known} {A : ℕ} {l l' : Learner} → ((i : ℕ) → K.proposed i 0 empty) → Worn l l' → LearnerInv K A l → LearnerInv K A l'
worn-learner {K} {A} first e x = record {
  learnt = rw e.learnt x.learnt;
  choice = rw e.learnt x.choice;
  heard = λ i. elim (e.heard i) [
    | inl h ↦ rw h (x.heard i)
    | inr h ↦ rw h (unheard-inv first i)
  ];
}

pub move-inv : {A : ℕ} {K : Known} {N : News} {w w' : World} → Move A N w w' → Inv A K w → Current K w → Learns K N w' → Inv A K w'
move-inv {A} {K} (by_proposer i q c sa sl s r) x before n =
    let y : ProposerInv K A q = rule-inv x before n r in
    record {
      proposers = changed-each (λ j. ProposerInv K A) c x.proposers y;
      acceptors = same-each (λ j (a : Acceptor). AllReceived K a.accepted) sa x.acceptors;
      learners = same-each (λ l. LearnerInv K A) sl x.learners;
      messages = messages-kept x before n s (proposer-sends x before n c.here y);
    }
move-inv {A} {K} (by_acceptor j m q sp c e sl s b k a) x before n = record {
  proposers = same-each (λ i. ProposerInv K A) sp x.proposers;
  acceptors = changed-each (λ i (q : Acceptor). AllReceived K q.accepted) c x.acceptors (rw e (answering-inv x before n b k));
  learners = same-each (λ l. LearnerInv K A) sl x.learners;
  messages = messages-kept x before n s (acceptor-sends x before n b k (ap (λ (r : Acceptor). r.accepted) c.here ∙ e) a);
}
move-inv {A} {K} {w = w} (by_learner l m sp sa c s k) x before n = record {
  proposers = same-each (λ i. ProposerInv K A) sp x.proposers;
  acceptors = same-each (λ j (q : Acceptor). AllReceived K q.accepted) sa x.acceptors;
  learners = changed-each (λ i. LearnerInv K A) c x.learners (listening-inv n.one (w.learner l) m (x.learners l) (comes-set x before n k) (comes-carries x before n k));
  messages = messages-kept x before n s (nothing-sent x before n);
}
move-inv {A} {K} {w = w} {w'} (rests p a l s) x before n = record {
  proposers = λ i. alive-proposer (p i) (x.proposers i);
  acceptors = λ j. subst (AllReceived K) (sym (a j)) (x.acceptors j);
  learners = λ i. worn-learner n.first (l i) (x.learners i);
  messages = messages-kept x before n s (nothing-sent x before n);
}
