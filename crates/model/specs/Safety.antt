-- Demand 3: what is safe about the machine, over the moments of any run from fresh.
use Rattle.std.specs.Prelude.{◌≡◌, ◌⊎◌, true, List, ℕ, suc, ◌≤◌, ◌<◌, get_or, take, Ok}
use Rattle.sizes.specs.declared.Sizes.{Sizes}
use Rattle.sets.specs.Scans.{empty, ◌⊆◌, ◌∈◌}
use Rattle.sets.specs.Acceptors.{◌among◌, fits_run, is_majority}
use Rattle.sets.specs.declared.scans.Scans.{Scans}
use Rattle.sets.specs.declared.acceptors.Acceptors.{Acceptors}
use Rattle.sets.specs.declared.ScanId.{ScanId}
use Rattle.sets.specs.declared.LearnerId.{LearnerId}
use Rattle.sets.specs.declared.ProposerId.{ProposerId}
use Rattle.scan_table.specs.Table.{scans_in}
use Rattle.shelf.specs.Shelf.{Shelf, where_is, shows}
use Rattle.model.specs.declared.Event.{Event}
use Rattle.model.specs.declared.Answer.TheVariants.{Done, Learnt, Decided}
use Rattle.model.specs.Records.{State, proposal, kind_of, fresh, proposer_of, acceptor_of, learner_of, slot_of}
use Rattle.model.specs.Events.{Code, receive, deliver, code_of}
use Rattle.model.specs.Step.{step_no, run, answers}

-- ---- the moments of a run

-- the event behind the end of a list: of no code, and so refused in every state
abbrev pub no_event : Event
no_event = record { code = 0; a = 0; b = 0 }

-- the events of a run count from 0
abbrev pub nth : List Event → ℕ → Event
nth es i = get_or es i no_event

-- the state after the first i events; event i meets it
unfoldable pub moment : Sizes → List Event → ℕ → State
moment z es i = run z (fresh z) (take i es)

-- ---- what the theorem speaks of

-- a learner has learnt the set, or a proposer has decided it
pub data Given (s : State) (v : Scans) : Type 0 where
  learnt : (l : ℕ) → (learner_of s l).learnt ≡ v → Given s v
  decided : (p : ℕ) → (proposer_of s p).decided ≡ v → Given s v

-- event i of a run answered that the set is learnt, or that it is decided
pub data Said (z : Sizes) (es : List Event) (i : ℕ) (v : Scans) : Type 0 where
  tells_learnt : (l : LearnerId) → get_or (answers z (fresh z) es) i (Ok Done) ≡ Ok (Learnt l v) → Said z es i v
  tells_decided : (p : ProposerId) → get_or (answers z (fresh z) es) i (Ok Done) ≡ Ok (Decided p v) → Said z es i v

-- the event, meeting the state s, is an accepted Receive of the scan k
pub record Receives (z : Sizes) (s : State) (e : Event) (k : ℕ) : Type 0 where
  pub ok : step_no z s e ≡ 0
  pub code : code_of e.code ≡ receive
  pub scan : e.b ≡ k

-- the events, by code and second argument, that have an acceptor store the set of a proposal
pub data Stores : Code → ℕ → Type 0 where
  delivered : {b : ℕ} → Stores deliver b

-- the event, meeting the state s, has the acceptor j store the set v of a proposal, which contains what it accepted before
pub record Accepts (z : Sizes) (s : State) (e : Event) (j : ℕ) (v : Scans) : Type 0 where
  pub ok : step_no z s e ≡ 0
  pub code : Stores (code_of e.code) e.b
  pub kind : kind_of (slot_of s e.a).kind ≡ proposal
  pub addressee : (slot_of s e.a).addressee ≡ j
  pub set : (slot_of s e.a).set ≡ v
  pub contains : (acceptor_of s j).accepted ⊆ v

-- before the moment i the scan k was received
pub record Received (z : Sizes) (es : List Event) (i k : ℕ) : Type 0 where
  pub when : ℕ
  pub before : when < i
  pub event : Receives z (moment z es when) (nth es when) k

-- before the moment i the acceptor j accepted the set v
pub record Accepted (z : Sizes) (es : List Event) (i j : ℕ) (v : Scans) : Type 0 where
  pub when : ℕ
  pub before : when < i
  pub event : Accepts z (moment z es when) (nth es when) j v

-- before the moment i a majority of the run's acceptors accepted the set v
pub record MostAccepted (z : Sizes) (es : List Event) (i : ℕ) (v : Scans) : Type 0 where
  pub acceptors : Acceptors
  pub exist : fits_run acceptors z.acceptors ≡ true
  pub most : is_majority acceptors z.acceptors ≡ true
  pub each : (j : ℕ) → j among acceptors → Accepted z es i j v

-- the answer of a shelf question shows a scan at a time not before t
pub record ShowsBy (t : ℕ) (answer : Shelf) : Type 0 where
  pub scan : ScanId
  pub place : ℕ
  pub time : ℕ
  pub shown : answer ≡ shows scan place time
  pub later : t ≤ time

-- ---- demand 3

pub record Safe (z : Sizes) (es : List Event) : Type 0 where
  -- what a run says is learnt or decided is so right after that event
  pub said : (i : ℕ) (v : Scans) → Said z es i v → Given (moment z es (suc i)) v
  -- of any two sets learnt or decided, by anyone at any two moments, one contains the other
  pub comparable : (i j : ℕ) (u v : Scans) → Given (moment z es i) u → Given (moment z es j) v → (u ⊆ v) ⊎ (v ⊆ u)
  -- what a learner has learnt never shrinks
  pub never_shrinks : (i j l : ℕ) → i ≤ j → (learner_of (moment z es i) l).learnt ⊆ (learner_of (moment z es j) l).learnt
  -- a learnt or decided set holds only scans already received
  pub received : (i k : ℕ) (v : Scans) → Given (moment z es i) v → k ∈ v → Received z es i k
  -- and, if it is not empty, a majority of acceptors accepted exactly this set
  pub chosen : (i : ℕ) (v : Scans) → Given (moment z es i) v → (v ≡ empty) ⊎ MostAccepted z es i v
  -- over one scan table of the run's size, a tag found in the smaller set is found in the larger, at a scan time no earlier
  pub found_later : (i j : ℕ) (u v : Scans) → Given (moment z es i) u → Given (moment z es j) v → u ⊆ v
      → (table : List ℕ) → scans_in table ≡ z.scans → (tag : ℕ) (scan : ScanId) (place time : ℕ)
      → where_is table u tag ≡ shows scan place time → ShowsBy time (where_is table v tag)
