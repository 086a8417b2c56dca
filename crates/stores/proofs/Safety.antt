-- Every history of calls is safe: it is a history of a network.
use mathlib.Core.Path.{ap, ◌∙◌}
use mathlib.Core.Logic.{inl, inr}
use Prim.Native.Nat.{ℕ}
use borrow.Author.Tests.{eq-eqb}
use Rattle.sets.specs.declared.scans.Scans.{Scans}
use Rattle.scan_table.specs.Table.{read_table}
use Rattle.shelf.proofs.ShelfLaws.{written-later}
use Rattle.model.specs.Network as net
use Rattle.model.specs.NetworkSafety as network
use Rattle.model.proofs.NetworkSafety as network'
use Rattle.layouts.specs.Layout.{set_size, set_at, acceptor_at, proposer_at, learner_at}
use Rattle.yazhmandu.specs.Calls.{where_is_bytes}
use Rattle.stores.specs.Stores.{Stores, news_of, History}
use Rattle.stores.specs.Safety.{Given, learnt, decided, Accepted, MostAccepted, Safe}
use Rattle.stores.proofs.Bytes.{proposer-begun, acceptor-begun, learner-begun}
use Rattle.stores.proofs.Calls.{world_of, call-move, call-small}

given : (p : ℕ) {t : Stores} {v : Scans} → Given t v → network.Given (world_of p t) v
unfolding proposer_at learner_at
given p (learnt l e) = network.learnt l e
given p (decided i e) = network.decided i e

module _ {p a s : ℕ} (h : History p a s) where
  history : net.History a s
  history = record {
    world = λ i. world_of p (h.stores i);
    news = λ i. news_of (h.calls i);
    begins = record {
      proposers = λ i. ap proposer_at (h.begins.proposers i) ∙ proposer-begun;
      acceptors = λ j. ap acceptor_at (h.begins.acceptors j) ∙ acceptor-begun;
      learners = λ l. ap (learner_at p) (h.begins.learners l) ∙ learner-begun p;
      nothing_sent = h.begins.nothing_sent;
    };
    moves = λ i. call-move p a s (h.calls i);
    small = λ i. call-small p a s (h.calls i);
  }

  accepted : {i j : ℕ} {v : Scans} → network.Accepted history i j v → Accepted h i j v
  unfolding history acceptor_at
  accepted x = record { when = x.when; before = x.before; event = x.event; stored = x.stored }

  most : {i : ℕ} {v : Scans} → network.MostAccepted history i v → MostAccepted h i v
  most x = record { acceptors = x.acceptors; exist = x.exist; most = x.most; each = λ j m. accepted (x.each j m) }

  -- demand 3 of site servers
  pub safe : Safe h
  unfolding history learner_at where_is_bytes
  safe =
      let n : network.Safe history = network'.safe history in
      record {
        comparable = λ i j u v x y. n.comparable i j u v (given p x) (given p y);
        never_shrinks = n.never_shrinks;
        received = λ i k v x m. let r = n.received i k v (given p x) m in record { when = r.when; before = r.before; event = r.event };
        chosen = λ i v x. elim (n.chosen i v (given p x)) [ inl e ↦ inl e | inr y ↦ inr (most y) ];
        found_later = λ i j u v eu ev x y b table c tag scan place time e.
            let w = written-later (read_table table) s tag c b (network'.given-fits history j (set_at v 0) (given p y)) (rw (eq-eqb _ set_size eu) at e) in
            rw (eq-eqb _ set_size ev) (record { scan = w.number; place = w.shelf; time = w.time; shown = w.shown; later = w.later });
      }
