-- Every history of a network is safe.
use mathlib.Core.Path.{◌≡◌, refl, sym, ap, ◌∙◌, subst, subst₂}
use mathlib.Core.Logic.{◌⊎◌, inl, inr}
use mathlib.Core.Bool.{true}
use Prim.Native.Nat.{ℕ, zero, suc, ◌≤◌}
use native.Mathlib.Omega.{arith}
use native.Mathlib.Nat.{le_refl}
use Rattle.sets.specs.Scans.{empty, ◌⊆◌, fits}
use Rattle.sets.specs.declared.scans.Scans.{Scans}
use Rattle.sets.proofs.ScanLaws.{empty-⊆, below-fits}
use Rattle.sets.proofs.AcceptorLaws.{majorities-meet}
use Rattle.scan_table.specs.Table.{scans_in}
use Rattle.shelf.proofs.ShelfLaws.{where-later}
use Rattle.model.specs.declared.Proposer.{Proposer}
use Rattle.model.specs.declared.Acceptor.{Acceptor}
use Rattle.model.specs.Records.{fresh_proposer, fresh_learner, unheard}
use Rattle.model.specs.Network.{History}
use Rattle.model.specs.NetworkSafety.{Given, learnt, decided, Received, Accepted, MostAccepted, Safe}
use Rattle.model.proofs.Lists.{replicate-all}
use Rattle.model.proofs.Moments.{earlier}
use Rattle.model.proofs.Invariant.{Known, More, AllReceived, Chosen, nothing, chosen, ProposerInv, HeardInv, LearnerInv, OneSet, received-empty, votes-none}
use Rattle.model.proofs.Grows.{later}
use Rattle.model.proofs.Keeps.{Inv, inv-more, Learns, unheard-inv, move-inv}

module _ {A S : ℕ} (h : History A S) where
  -- by the moment i the proposer p's number n stood for the set v
  record Proposed (i p n : ℕ) (v : Scans) : Type 0 where
    when : ℕ
    before : when ≤ i
    number : ((h.world when).proposer p).number ≡ n
    proposed : ((h.world when).proposer p).proposed ≡ v

  abbrev known : ℕ → Known
  known i = record { accepted = Accepted h i; proposed = Proposed i; received = Received h i }

  known_more : (i : ℕ) → More (known i) (known (suc i))
  known_more i = record {
    accepted = λ j v x. record { when = x.when; before = omega (arith, x.before); event = x.event; stored = x.stored };
    proposed = λ p n v x. record { when = x.when; before = omega (arith, x.before); number = x.number; proposed = x.proposed };
    received = λ k x. record { when = x.when; before = omega (arith, x.before); event = x.event };
  }

  one_set : (i : ℕ) → OneSet (known i)
  one_set i = record {
    same = λ p n u v x y. elim (earlier x.when y.when) [
      | inl b ↦ stays p n u v x y b
      | inr b ↦ sym (stays p n v u y x b)
    ];
  }
    where
      stays : (p n : ℕ) (u v : Scans) (x : Proposed i p n u) (y : Proposed i p n v) → x.when ≤ y.when → u ≡ v
      stays p n u v x y b = sym x.proposed ∙ ((later h x.when y.when b).proposers p).same (x.number ∙ sym y.number) ∙ y.proposed

  first-proposal : (i p : ℕ) → Proposed i p 0 empty
  first-proposal i p = record {
    when = 0;
    before = omega arith;
    number = ap (λ (q : Proposer). q.number) (h.begins.proposers p);
    proposed = ap (λ (q : Proposer). q.proposed) (h.begins.proposers p);
  }

  learns : (i : ℕ) → Learns (known (suc i)) (h.news i) (h.world (suc i))
  learns i = record {
    one = one_set (suc i);
    now = record { each = λ p. record { when = suc i; before = le_refl (suc i); number = refl; proposed = refl } };
    first = first-proposal (suc i);
    received = λ k x. record { when = i; before = le_refl (suc i); event = x };
    accepted = λ j v x e. record { when = i; before = le_refl (suc i); event = x; stored = e };
  }

  -- ---- the invariant holds at every moment

  inv-first : Inv A (known 0) (h.world 0)
  inv-first = record {
    proposers = λ i. subst (ProposerInv (known 0) A) (sym (h.begins.proposers i)) proposer;
    acceptors = λ j. subst (λ (q : Acceptor). AllReceived (known 0) q.accepted) (sym (h.begins.acceptors j)) received-empty;
    learners = λ l. subst (LearnerInv (known 0) A) (sym (h.begins.learners l)) learner;
    messages = λ m s. absurd (h.begins.nothing_sent m s);
  }
    where
      proposer : ProposerInv (known 0) A fresh_proposer
      proposer = record {
        buffered = received-empty;
        proposed = received-empty;
        gathered = received-empty;
        decided = received-empty;
        votes = votes-none;
        choice = nothing refl;
      }

      learner : LearnerInv (known 0) A fresh_learner
      learner = record {
        learnt = received-empty;
        choice = nothing refl;
        heard = λ p. replicate-all (HeardInv (known 0) A p) 8 unheard unheard (unheard-inv (first-proposal 0) p) (unheard-inv (first-proposal 0) p) p;
      }

  inv : (i : ℕ) → Inv A (known i) (h.world i)
  inv zero = inv-first
  inv (suc i) =
      move-inv (h.moves i) (inv-more (known_more i) (inv i))
      (record { each = λ p. record { when = i; before = omega arith; number = refl; proposed = refl } }) (learns i)

  -- ---- the theorem

  given-choice : (i : ℕ) (v : Scans) → Given (h.world i) v → Chosen (known i) A v
  given-choice i v (learnt l e) = subst (Chosen (known i) A) e ((inv i).learners l).choice
  given-choice i v (decided p e) = subst (Chosen (known i) A) e ((inv i).proposers p).choice

  given-received : (i : ℕ) (v : Scans) → Given (h.world i) v → AllReceived (known i) v
  given-received i v (learnt l e) = subst (AllReceived (known i)) e ((inv i).learners l).learnt
  given-received i v (decided p e) = subst (AllReceived (known i)) e ((inv i).proposers p).decided

  pub given-fits : (i : ℕ) (v : Scans) → Given (h.world i) v → fits v S ≡ true
  given-fits i v x = below-fits v S (λ k m. let r = (given-received i v x).each k m in h.small r.when k r.event)

  -- the sets that one acceptor accepted form a chain
  accepted-chain : (k i j : ℕ) (u v : Scans) → Accepted h i k u → Accepted h j k v → (u ⊆ v) ⊎ (v ⊆ u)
  accepted-chain k i j u v x y = elim (earlier (suc x.when) (suc y.when)) [
    | inl b ↦ inl (subst₂ ◌⊆◌ x.stored y.stored ((later h (suc x.when) (suc y.when) b).accepted k))
    | inr b ↦ inr (subst₂ ◌⊆◌ y.stored x.stored ((later h (suc y.when) (suc x.when) b).accepted k))
  ]

  -- two majorities share an acceptor
  chosen-chain : (i j : ℕ) (u v : Scans) → Chosen (known i) A u → Chosen (known j) A v → (u ⊆ v) ⊎ (v ⊆ u)
  chosen-chain i j u v (nothing e) y = inl (rw e (empty-⊆ v))
  chosen-chain i j u v (chosen q b x) (nothing e) = inr (rw e (empty-⊆ u))
  chosen-chain i j u v (chosen q b x) (chosen r c y) =
      let m = majorities-meet q r A x.exist y.exist b c in
      accepted-chain m.0 i j u v (x.each m.0 m.1) (y.each m.0 m.2)

  most : (i : ℕ) (v : Scans) → Chosen (known i) A v → (v ≡ empty) ⊎ MostAccepted h i v
  most i v (nothing e) = inl e
  most i v (chosen q b x) = inr (record { acceptors = q; exist = x.exist; most = b; each = x.each })

  pub safe : Safe h
  safe = record {
    comparable = λ i j u v x y. chosen-chain i j u v (given-choice i u x) (given-choice j v y);
    never_shrinks = λ i j l b. (later h i j b).learnt l;
    received = λ i k v x m. (given-received i v x).each k m;
    chosen = λ i v x. most i v (given-choice i v x);
    found_later = λ i j u v x y b table n tag scan place time e.
        let f : fits v (scans_in table) ≡ true = rw n (given-fits j v y) in
        let w = where-later table tag b f e in
        record { scan = w.number; place = w.shelf; time = w.time; shown = w.shown; later = w.later };
  }
