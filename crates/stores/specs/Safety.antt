-- Demand 3 of site servers, over every history of calls.
use Rattle.std.specs.Prelude.{◌≡◌, ◌⊎◌, true, Ok, List, ℕ, suc, ◌≤◌, ◌<◌, length}
use Rattle.sets.specs.Scans.{empty, ◌⊆◌, ◌∈◌}
use Rattle.sets.specs.Acceptors.{◌among◌, fits_run, is_majority}
use Rattle.sets.specs.declared.scans.Scans.{Scans}
use Rattle.sets.specs.declared.acceptors.Acceptors.{Acceptors}
use Rattle.sets.specs.declared.ScanId.{ScanId}
use Rattle.scan_table.specs.Table.{read_table, table_answer}
use Rattle.shelf.specs.Shelf.{shows}
use Rattle.model.specs.Safety.{ShowsBy}
use Rattle.layouts.specs.Layout.{set_size, set_at, decided_place}
use Rattle.yazhmandu.specs.Calls.{where_is_bytes}
use Rattle.stores.specs.Stores.{Stores, news_of, History}

-- a learner's record has the set as learnt, or a proposer's as decided
pub data Given (t : Stores) (v : Scans) : Type 0 where
  learnt : (l : ℕ) → set_at (t.learner l) 1 ≡ v → Given t v
  decided : (i : ℕ) → set_at (t.proposer i) decided_place ≡ v → Given t v

module _ {p a s : ℕ} (h : History p a s) where
  -- before the moment i the scan k was received
  pub record Received (i k : ℕ) : Type 0 where
    pub when : ℕ
    pub before : when < i
    pub event : (news_of (h.calls when)).received k

  -- before the moment i the acceptor j accepted the set v, and its record had exactly this set right after
  pub record Accepted (i j : ℕ) (v : Scans) : Type 0 where
    pub when : ℕ
    pub before : when < i
    pub event : (news_of (h.calls when)).accepted j v
    pub stored : set_at ((h.stores (suc when)).acceptor j) 1 ≡ v

  -- before the moment i a majority of the run's acceptors accepted the set v
  pub record MostAccepted (i : ℕ) (v : Scans) : Type 0 where
    pub acceptors : Acceptors
    pub exist : fits_run acceptors a ≡ true
    pub most : is_majority acceptors a ≡ true
    pub each : (j : ℕ) → j among acceptors → Accepted i j v

  pub record Safe : Type 0 where
    -- of any two sets learnt or decided, by anyone at any two moments, one contains the other
    pub comparable : (i j : ℕ) (u v : Scans) → Given (h.stores i) u → Given (h.stores j) v → (u ⊆ v) ⊎ (v ⊆ u)
    -- what a learner has learnt never shrinks
    pub never_shrinks : (i j l : ℕ) → i ≤ j → set_at ((h.stores i).learner l) 1 ⊆ set_at ((h.stores j).learner l) 1
    -- a learnt or decided set holds only scans already received
    pub received : (i k : ℕ) (v : Scans) → Given (h.stores i) v → k ∈ v → Received i k
    -- and, if it is not empty, a majority of acceptors accepted exactly this set
    pub chosen : (i : ℕ) (v : Scans) → Given (h.stores i) v → (v ≡ empty) ⊎ MostAccepted i v
    -- over one written scan table of s scans, a tag that ymd_where_is finds in the smaller set it finds in the larger, at a scan time no earlier
    pub found_later : (i j : ℕ) (u v : List ℕ) → length u ≡ set_size → length v ≡ set_size
        → Given (h.stores i) (set_at u 0) → Given (h.stores j) (set_at v 0) → set_at u 0 ⊆ set_at v 0
        → (table : List ℕ) → table_answer (read_table table) ≡ Ok s → (tag : ℕ) (scan : ScanId) (place time : ℕ)
        → where_is_bytes table u tag ≡ shows scan place time → ShowsBy time (where_is_bytes table v tag)
