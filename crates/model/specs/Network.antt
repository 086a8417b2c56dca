-- A network: the records of the parties, and the messages that may still come. It has no table, no room and no order: a message comes as often as it likes, or never.
use Rattle.std.specs.Prelude.{◌≡◌, ◌⊎◌, true, ℕ, suc, ◌<◌}
use Rattle.sets.specs.Scans.{◌∈◌}
use Rattle.sets.specs.declared.scans.Scans.{Scans}
use Rattle.model.specs.declared.Proposer.{Proposer}
use Rattle.model.specs.declared.Acceptor.{Acceptor}
use Rattle.model.specs.declared.Learner.{Learner}
use Rattle.model.specs.declared.Message.{Message}
use Rattle.model.specs.Records.{Kind, internal, proposal, acknowledgement, rejection, announcement, kind_of, fresh_proposer, fresh_acceptor, fresh_learner, unheard, heard_of}
use Rattle.model.specs.Rules.{buffering, is_current, acknowledging, rejecting, proposing, refining, decide_no, deciding, crashed_proposer, accepts, gaining, answering, listening}
use Rattle.model.specs.Table.{Internal, Proposal, Acknowledgement, Rejection, Announcement}

-- the record of each party by its number, of whatever form, and the messages that were sent
pub record Net (P Q L : Type 0) : Type 1 where
  pub proposer : ℕ → P
  pub acceptor : ℕ → Q
  pub learner : ℕ → L
  pub sent : Message → Type 0

abbrev pub World : Type 1
World = Net Proposer Acceptor Learner

-- what a move makes happen: a scan is received, an acceptor accepts a set. The teller of a history says what that is
pub record News : Type 1 where
  pub received : ℕ → Type 0
  pub accepted : ℕ → Scans → Type 0

-- every scan of the set is received by the move
pub record Receiving (N : News) (v : Scans) : Type 0 where
  pub each : (k : ℕ) → k ∈ v → N.received k

-- a message of a kind that was sent to a party
pub record Comes {P Q L : Type 0} (w : Net P Q L) (k : Kind) (to : ℕ) (m : Message) : Type 0 where
  pub was : w.sent m
  pub kind : kind_of m.kind ≡ k
  pub addressee : m.addressee ≡ to

-- one party's record becomes x, the others stay
pub record Changed {B : Type 0} (f g : ℕ → B) (i : ℕ) (x : B) : Type 0 where
  pub here : g i ≡ x
  pub others : (j : ℕ) → (j ≡ i → ⊥) → g j ≡ f j

abbrev pub Same : {B : Type 0} → (ℕ → B) → (ℕ → B) → Type 0
Same f g = (j : ℕ) → g j ≡ f j

-- nothing is sent but these, all or some of them; what was sent before may be forgotten
abbrev pub SendsOnly : {P Q L : Type 0} → Net P Q L → Net P Q L → (Message → Type 0) → Type 0
SendsOnly w w' S = (m : Message) → w'.sent m → (w.sent m) ⊎ S m

-- ---- a proposer: with A acceptors, the proposer i of the record p

-- the tests that enable a rule stand here only where safety needs them
pub data ProposerRule (A : ℕ) (N : News) (w : World) (i : ℕ) (p : Proposer) : Proposer → Type 0 where
  receives : (v : Scans) → Receiving N v → ProposerRule A N w i p (buffering p v)
  told : (m : Message) → Comes w internal i m → ProposerRule A N w i p (buffering p m.set)
  acknowledged : (m : Message) → Comes w acknowledgement i m → is_current p m.number ≡ true → ProposerRule A N w i p (acknowledging p m.acceptor.0)
  rejected : (m : Message) → Comes w rejection i m → is_current p m.number ≡ true → ProposerRule A N w i p (rejecting p m.acceptor.0 m.set)
  proposes : ProposerRule A N w i p (proposing p)
  refines : ProposerRule A N w i p (refining p)
  decides : decide_no A p ≡ 0 → ProposerRule A N w i p (deciding p)
  again : ProposerRule A N w i p p

-- what it sends, its record then being q: its proposal to anyone, at any move; a set that it receives
pub data ProposerSends (N : News) (i : ℕ) (q : Proposer) : Message → Type 0 where
  asks : (to : ℕ) → ProposerSends N i q (Proposal i q.number q.proposed to)
  tells : (v : Scans) (to : ℕ) → Receiving N v → ProposerSends N i q (Internal v to)

-- ---- an acceptor: what the acceptor j, its record being q, sends to a proposal m

-- a rejection is harmless whatever it answers
pub data Replies (j : ℕ) (q : Acceptor) (m : Message) : Message → Type 0 where
  acknowledges : accepts q m.set ≡ true → Replies j q m (Acknowledgement j m.number m.set m.proposer.0)
  announces : accepts q m.set ≡ true → (to : ℕ) → Replies j q m (Announcement m.proposer.0 j m.number m.set to)
  rejects : Replies j q m (Rejection j m.number (gaining q m.set).accepted m.proposer.0)

-- nothing is sent
abbrev pub Nothing : Message → Type 0
Nothing m = ⊥

-- ---- a learner that stopped and goes on: what it heard of a proposer may be lost, what it learnt may not

pub record Worn (l l' : Learner) : Type 0 where
  pub learnt : l'.learnt ≡ l.learnt
  pub heard : (i : ℕ) → (heard_of l' i ≡ heard_of l i) ⊎ (heard_of l' i ≡ unheard)

-- ---- a move, with A acceptors

pub data Move (A : ℕ) (N : News) (w w' : World) : Type 0 where
  -- a proposer's rule
  by_proposer : (i : ℕ) (q : Proposer)
      → Changed w.proposer w'.proposer i q
      → Same w.acceptor w'.acceptor
      → Same w.learner w'.learner
      → SendsOnly w w' (ProposerSends N i q)
      → ProposerRule A N w i (w.proposer i) q
      → Move A N w w'
  -- an acceptor of the run takes a proposal; it may stop right after
  by_acceptor : (j : ℕ) (m : Message) (q : Acceptor)
      → Same w.proposer w'.proposer
      → Changed w.acceptor w'.acceptor j q
      → q.accepted ≡ (answering (w.acceptor j) m.set).accepted
      → Same w.learner w'.learner
      → SendsOnly w w' (Replies j (w.acceptor j) m)
      → j < A
      → Comes w proposal j m
      → (accepts (w.acceptor j) m.set ≡ true → N.accepted j m.set)
      → Move A N w w'
  -- a learner takes an acknowledgement
  by_learner : (l : ℕ) (m : Message)
      → Same w.proposer w'.proposer
      → Same w.acceptor w'.acceptor
      → Changed w.learner w'.learner l (listening A (w.learner l) m)
      → SendsOnly w w' Nothing
      → Comes w announcement l m
      → Move A N w w'
  -- no rule: parties stop or go on, each record as it was but for alive and what a learner heard; messages are lost
  rests : ((i : ℕ) → crashed_proposer (w'.proposer i) ≡ crashed_proposer (w.proposer i))
      → ((j : ℕ) → (w'.acceptor j).accepted ≡ (w.acceptor j).accepted)
      → ((l : ℕ) → Worn (w.learner l) (w'.learner l))
      → SendsOnly w w' Nothing
      → Move A N w w'

-- ---- a history, with A acceptors and S scans

pub record Fresh (w : World) : Type 0 where
  pub proposers : (i : ℕ) → w.proposer i ≡ fresh_proposer
  pub acceptors : (j : ℕ) → w.acceptor j ≡ fresh_acceptor
  pub learners : (l : ℕ) → w.learner l ≡ fresh_learner
  pub nothing_sent : (m : Message) → w.sent m → ⊥

-- moves one after the other, from fresh; move i meets the world i
pub record History (A S : ℕ) : Type 1 where
  pub world : ℕ → World
  pub news : ℕ → News
  pub begins : Fresh (world 0)
  pub moves : (i : ℕ) → Move A (news i) (world i) (world (suc i))
  pub small : (i k : ℕ) → (news i).received k → k < S
