-- What is safe about any history of a network.
use Rattle.std.specs.Prelude.{◌≡◌, ◌⊎◌, true, List, ℕ, suc, ◌≤◌, ◌<◌}
use Rattle.sets.specs.Scans.{empty, ◌⊆◌, ◌∈◌}
use Rattle.sets.specs.Acceptors.{◌among◌, fits_run, is_majority}
use Rattle.sets.specs.declared.scans.Scans.{Scans}
use Rattle.sets.specs.declared.acceptors.Acceptors.{Acceptors}
use Rattle.sets.specs.declared.ScanId.{ScanId}
use Rattle.scan_table.specs.Table.{scans_in}
use Rattle.shelf.specs.Shelf.{where_is, shows}
use Rattle.model.specs.Safety.{ShowsBy}
use Rattle.model.specs.Network.{World, History}

-- a learner has learnt the set, or a proposer has decided it
pub data Given (w : World) (v : Scans) : Type 0 where
  learnt : (l : ℕ) → (w.learner l).learnt ≡ v → Given w v
  decided : (p : ℕ) → (w.proposer p).decided ≡ v → Given w v

module _ {A S : ℕ} (h : History A S) where
  -- before the moment i the scan k was received
  pub record Received (i k : ℕ) : Type 0 where
    pub when : ℕ
    pub before : when < i
    pub event : (h.news when).received k

  -- before the moment i the acceptor j accepted the set v, and had exactly this set right after
  pub record Accepted (i j : ℕ) (v : Scans) : Type 0 where
    pub when : ℕ
    pub before : when < i
    pub event : (h.news when).accepted j v
    pub stored : ((h.world (suc when)).acceptor j).accepted ≡ v

  -- before the moment i a majority of the run's acceptors accepted the set v
  pub record MostAccepted (i : ℕ) (v : Scans) : Type 0 where
    pub acceptors : Acceptors
    pub exist : fits_run acceptors A ≡ true
    pub most : is_majority acceptors A ≡ true
    pub each : (j : ℕ) → j among acceptors → Accepted i j v

  pub record Safe : Type 0 where
    -- of any two sets learnt or decided, by anyone at any two moments, one contains the other
    pub comparable : (i j : ℕ) (u v : Scans) → Given (h.world i) u → Given (h.world j) v → (u ⊆ v) ⊎ (v ⊆ u)
    -- what a learner has learnt never shrinks
    pub never_shrinks : (i j l : ℕ) → i ≤ j → ((h.world i).learner l).learnt ⊆ ((h.world j).learner l).learnt
    -- a learnt or decided set holds only scans already received
    pub received : (i k : ℕ) (v : Scans) → Given (h.world i) v → k ∈ v → Received i k
    -- and, if it is not empty, a majority of acceptors accepted exactly this set
    pub chosen : (i : ℕ) (v : Scans) → Given (h.world i) v → (v ≡ empty) ⊎ MostAccepted i v
    -- over one scan table of the run's size, a tag found in the smaller set is found in the larger, at a scan time no earlier
    pub found_later : (i j : ℕ) (u v : Scans) → Given (h.world i) u → Given (h.world j) v → u ⊆ v
        → (table : List ℕ) → scans_in table ≡ S → (tag : ℕ) (scan : ScanId) (place time : ℕ)
        → where_is table u tag ≡ shows scan place time → ShowsBy time (where_is table v tag)
