-- What only grows from a world to a later one. It needs no invariant.
use mathlib.Core.Path.{◌≡◌, refl, sym, ap, ◌∙◌, subst}
use Prim.Native.Nat.{ℕ, ◌+◌, ◌≤◌}
use native.Mathlib.Omega.{arith}
use native.Mathlib.Nat.{le_of_eq}
use native.Mathlib.Decide.{le_ind}
use Rattle.sets.specs.Scans.{◌⊆◌}
use Rattle.sets.specs.declared.scans.Scans.{Scans}
use Rattle.sets.proofs.ScanLaws.{⊆-refl, ⊆-trans}
use Rattle.model.specs.declared.Proposer.{Proposer}
use Rattle.model.specs.declared.Acceptor.{Acceptor}
use Rattle.model.specs.declared.Learner.{Learner}
use Rattle.model.specs.declared.Message.{Message}
use Rattle.model.specs.Rules.{buffering, acknowledging, rejecting, proposing, refining, deciding, crashed_proposer, accepts, answering, learns, listening}
use Rattle.model.specs.Network.{World, News, ProposerRule, receives, told, acknowledged, rejected, proposes, refines, decides, again, Move, by_proposer, by_acceptor, by_learner, rests, History}
use Rattle.choice.proofs.Tests.{if-ind}
use Rattle.model.proofs.RuleLaws.{accepts-contained, accepting-takes, gaining-grows, learns-contained, listening-learnt}
use Rattle.model.proofs.Changes.{changed-each, same-each}

-- a proposer's number only grows, and with a number stays the set proposed under it
pub record Renumbered (p q : Proposer) : Type 0 where
  pub number : p.number ≤ q.number
  pub same : p.number ≡ q.number → p.proposed ≡ q.proposed

pub record Later (w w' : World) : Type 0 where
  pub proposers : (i : ℕ) → Renumbered (w.proposer i) (w'.proposer i)
  pub accepted : (j : ℕ) → (w.acceptor j).accepted ⊆ (w'.acceptor j).accepted
  pub learnt : (l : ℕ) → (w.learner l).learnt ⊆ (w'.learner l).learnt

unnumbered : {p q : Proposer} → p.number ≡ q.number → p.proposed ≡ q.proposed → Renumbered p q
unnumbered e f = record { number = le_of_eq e; same = λ x. f }

numbered : {p q : Proposer} → q.number ≡ p.number + 1 → Renumbered p q
numbered {p} {q} e = record { number = omega arith; same = λ (x : p.number ≡ q.number). absurd (omega arith) }

renumbered-refl : (p : Proposer) → Renumbered p p
renumbered-refl p = unnumbered refl refl

renumbered-trans : {p q r : Proposer} → Renumbered p q → Renumbered q r → Renumbered p r
renumbered-trans {p} {q} {r} x y = record {
  number = omega arith;
  same = λ (e : p.number ≡ r.number). x.same (omega arith) ∙ y.same (omega arith);
}

later_refl : (w : World) → Later w w
later_refl w = record {
  proposers = λ i. renumbered-refl (w.proposer i);
  accepted = λ j. ⊆-refl (w.acceptor j).accepted;
  learnt = λ l. ⊆-refl (w.learner l).learnt;
}

later_trans : {u v w : World} → Later u v → Later v w → Later u w
later_trans x y = record {
  proposers = λ i. renumbered-trans (x.proposers i) (y.proposers i);
  accepted = λ j. ⊆-trans (x.accepted j) (y.accepted j);
  learnt = λ l. ⊆-trans (x.learnt l) (y.learnt l);
}

-- ---- each rule

rule-later : {A : ℕ} {N : News} {w : World} {i : ℕ} {p q : Proposer} → ProposerRule A N w i p q → Renumbered p q
unfolding buffering acknowledging rejecting proposing refining deciding
rule-later (receives v r) = unnumbered refl refl
rule-later (told m c) = unnumbered refl refl
rule-later (acknowledged m c e) = unnumbered refl refl
rule-later (rejected m c e) = unnumbered refl refl
rule-later proposes = numbered refl
rule-later refines = numbered refl
rule-later (decides e) = unnumbered refl refl
rule-later {p = p} again = renumbered-refl p

alive-later : {p q : Proposer} → crashed_proposer q ≡ crashed_proposer p → Renumbered p q
unfolding crashed_proposer
alive-later e = unnumbered (sym (ap (λ (r : Proposer). r.number) e)) (sym (ap (λ (r : Proposer). r.proposed) e))

answering-later : (q : Acceptor) (v : Scans) → q.accepted ⊆ (answering q v).accepted
unfolding answering
answering-later q v =
    if-ind (λ (r : Acceptor). q.accepted ⊆ r.accepted) (accepts q v) _ _
    (λ e. rw (accepting-takes q v) (accepts-contained q v e))
    (λ e. gaining-grows q v)

listening-later : (a : ℕ) (l : Learner) (m : Message) → l.learnt ⊆ (listening a l m).learnt
listening-later a l m =
    rw (listening-learnt a l m) (if-ind (λ (v : Scans). l.learnt ⊆ v) (learns a l m) _ _ (learns-contained a l m) (λ e. ⊆-refl l.learnt))

-- ---- each move

move-later : {A : ℕ} {N : News} {w w' : World} → Move A N w w' → Later w w'
move-later {w = w} (by_proposer i q c sa sl s r) = record {
  proposers = changed-each (λ j (x : Proposer). Renumbered (w.proposer j) x) c (later_refl w).proposers (rule-later r);
  accepted = same-each (λ j (x : Acceptor). (w.acceptor j).accepted ⊆ x.accepted) sa (later_refl w).accepted;
  learnt = same-each (λ l (x : Learner). (w.learner l).learnt ⊆ x.learnt) sl (later_refl w).learnt;
}
move-later {w = w} (by_acceptor j m q sp c e sl s b k n) = record {
  proposers = same-each (λ j (x : Proposer). Renumbered (w.proposer j) x) sp (later_refl w).proposers;
  accepted = changed-each (λ j (x : Acceptor). (w.acceptor j).accepted ⊆ x.accepted) c (later_refl w).accepted (rw e (answering-later (w.acceptor j) m.set));
  learnt = same-each (λ l (x : Learner). (w.learner l).learnt ⊆ x.learnt) sl (later_refl w).learnt;
}
move-later {A} {w = w} (by_learner l m sp sa c s k) = record {
  proposers = same-each (λ j (x : Proposer). Renumbered (w.proposer j) x) sp (later_refl w).proposers;
  accepted = same-each (λ j (x : Acceptor). (w.acceptor j).accepted ⊆ x.accepted) sa (later_refl w).accepted;
  learnt = changed-each (λ l (x : Learner). (w.learner l).learnt ⊆ x.learnt) c (later_refl w).learnt (listening-later A (w.learner l) m);
}
move-later {w = w} {w'} (rests p a l s) = record {
  proposers = λ i. alive-later (p i);
  accepted = λ j. subst (λ (v : Scans). (w.acceptor j).accepted ⊆ v) (sym (a j)) (⊆-refl (w.acceptor j).accepted);
  learnt = λ i. subst (λ (v : Scans). (w.learner i).learnt ⊆ v) (sym (l i).learnt) (⊆-refl (w.learner i).learnt);
}

pub later : {A S : ℕ} (h : History A S) (i j : ℕ) → i ≤ j → Later (h.world i) (h.world j)
later h i j b =
    le_ind (λ (n : ℕ). Later (h.world i) (h.world n)) (later_refl (h.world i))
    (λ n k x. later_trans x (move-later (h.moves n))) j b
