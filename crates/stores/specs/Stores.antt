-- Site servers: each party's record as bytes, changed by the calls alone; what is sent to whom after which call; and histories of calls. A message sent comes as often as the network likes, in any order, or never.
use Rattle.std.specs.Prelude.{◌≡◌, List, ◌∷◌, ◌++◌, ℕ, suc, ◌+◌, ◌-◌, ◌*◌, ◌<◌, get_or, take, replicate}
use Rattle.sets.specs.Scans.{◌∈◌}
use Rattle.sets.specs.declared.scans.Scans.{Scans}
use Rattle.model.specs.declared.Message.{Message}
use Rattle.model.specs.declared.Kind.TheVariants.{Internal as internal, Proposal as proposal, Acknowledgement as acknowledgement, Rejection as rejection, Announcement as announcement}
use Rattle.model.specs.Rules.{propose_no, proposing, refine_no, refining, decide_no, deciding}
use Rattle.model.specs.Table.{Internal, Proposal, Acknowledgement, Rejection, Announcement}
use Rattle.model.specs.Network.{Net, Comes, SendsOnly, News, Changed, Same, Nothing}
use Rattle.layouts.specs.Layout.{set_size, set_at, number_at, flagged_size, proposed_place, number_place, proposer_size, heard_size}
use Rattle.yazhmandu.specs.Calls.{proposal_no, answer_record, answer_reply, buffer_no, buffer_record, acknowledged_record, rejected_record, call_record, hear_record}

-- the record of each party by its number, as bytes, and the messages that were sent
abbrev pub Stores : Type 1
Stores = Net (List ℕ) (List ℕ) (List ℕ)

abbrev pub zeros : ℕ → List ℕ
zeros n = replicate n 0

-- ---- a proposer

-- what a call leaves of the record of the proposer i; the set of a message goes to the call as its bytes
pub data ProposerCall (a s : ℕ) (t : Stores) (i : ℕ) (kept : List ℕ) : List ℕ → Type 0 where
  -- ymd_buffer, of received scans
  receives : (set : List ℕ) → ProposerCall a s t i kept (buffer_record a s kept set)
  -- ymd_buffer, of an internal message
  told : (m : Message) (set : List ℕ) → Comes t internal i m → set_at set 0 ≡ m.set → ProposerCall a s t i kept (buffer_record a s kept set)
  -- ymd_acknowledged, ymd_rejected
  acknowledged : (m : Message) → Comes t acknowledgement i m → ProposerCall a s t i kept (acknowledged_record a s kept m.acceptor.0 m.number)
  rejected : (m : Message) (set : List ℕ) → Comes t rejection i m → set_at set 0 ≡ m.set
      → ProposerCall a s t i kept (rejected_record a s kept m.acceptor.0 m.number set)
  -- ymd_propose, ymd_refine, ymd_decide
  proposes : ProposerCall a s t i kept (call_record a s kept propose_no proposing)
  refines : ProposerCall a s t i kept (call_record a s kept (refine_no a) refining)
  decides : ProposerCall a s t i kept (call_record a s kept (decide_no a) deciding)
  -- no call: it sends its proposal again
  again : ProposerCall a s t i kept kept

-- the scans that a call receives: those of the set that ymd_buffer took, returning 0
abbrev pub Gets : {a s : ℕ} {t : Stores} {i : ℕ} {kept left : List ℕ} → ProposerCall a s t i kept left → ℕ → Type 0
Gets {a} {s} {kept = kept} (receives set) k = (buffer_no a s kept set ≡ 0) × (k ∈ set_at set 0)
Gets (told m set c e) k = ⊥
Gets (acknowledged m c) k = ⊥
Gets (rejected m set c e) k = ⊥
Gets proposes k = ⊥
Gets refines k = ⊥
Gets decides k = ⊥
Gets again k = ⊥

-- what it may send then: to acceptors, at any time, the number and the set proposed that stand in the record; to proposers what it received
pub data ProposerSends {a s : ℕ} {t : Stores} {i : ℕ} {kept left : List ℕ} (c : ProposerCall a s t i kept left) : Message → Type 0 where
  asks : (to : ℕ) → ProposerSends c (Proposal i (number_at left number_place) (set_at left proposed_place) to)
  tells : (v : Scans) (to : ℕ) → ((k : ℕ) → k ∈ v → Gets c k) → ProposerSends c (Internal v to)

-- ---- an acceptor

-- ymd_answer_proposal, of a proposal to the acceptor j; what the reply's bytes held before does not matter
pub data AcceptorCall (s : ℕ) (t : Stores) (j : ℕ) (kept : List ℕ) : List ℕ → Type 0 where
  answers : (m : Message) (set old : List ℕ) → Comes t proposal j m → set_at set 0 ≡ m.set → AcceptorCall s t j kept (answer_record s kept set)

-- by what the call returned and its reply: 1 is an acknowledgement to the proposer and to learners, 0 a rejection to the proposer, each with the set that follows
pub data Replies (j : ℕ) (m : Message) (no : ℕ) (reply : List ℕ) : Message → Type 0 where
  acknowledges : no ≡ 0 → get_or reply 0 0 ≡ 1 → Replies j m no reply (Acknowledgement j m.number (set_at reply 1) m.proposer.0)
  announces : no ≡ 0 → get_or reply 0 0 ≡ 1 → (to : ℕ) → Replies j m no reply (Announcement m.proposer.0 j m.number (set_at reply 1) to)
  rejects : no ≡ 0 → get_or reply 0 0 ≡ 0 → Replies j m no reply (Rejection j m.number (set_at reply 1) m.proposer.0)

abbrev pub AcceptorSends : {s : ℕ} {t : Stores} {j : ℕ} {kept left : List ℕ} → AcceptorCall s t j kept left → Message → Type 0
AcceptorSends {s} {j = j} {kept} (answers m set old c e) = Replies j m (proposal_no s kept set) (answer_reply s kept set old)

-- the acceptor accepts the proposal's set: the call returned 0, and its reply begins with 1
pub record Accepting (j : ℕ) (m : Message) (no : ℕ) (reply : List ℕ) (acceptor : ℕ) (v : Scans) : Type 0 where
  pub who : acceptor ≡ j
  pub what : v ≡ m.set
  pub returned : no ≡ 0
  pub begins : get_or reply 0 0 ≡ 1

abbrev pub Takes : {s : ℕ} {t : Stores} {j : ℕ} {kept left : List ℕ} → AcceptorCall s t j kept left → ℕ → Scans → Type 0
Takes {s} {j = j} {kept} (answers m set old c e) = Accepting j m (proposal_no s kept set) (answer_reply s kept set old)

-- ---- a learner: it sends nothing

-- what it learnt and nothing heard: the flag and the set that its record begins with, then zeros
abbrev pub learnt_alone : ℕ → List ℕ → List ℕ
learnt_alone p kept = take flagged_size kept ++ zeros (heard_size * p)

pub data LearnerCall (p a s : ℕ) (t : Stores) (l : ℕ) (kept : List ℕ) : List ℕ → Type 0 where
  -- ymd_hear, of an acknowledgement to the learner l
  hears : (m : Message) (set : List ℕ) → Comes t announcement l m → set_at set 0 ≡ m.set
      → LearnerCall p a s t l kept (hear_record p a s kept m.proposer.0 m.acceptor.0 m.number set)
  -- no call: what it heard is lost
  forgets : LearnerCall p a s t l kept (learnt_alone p kept)

-- ---- one call of one party, in a run of p proposers, a acceptors and s scans

pub data Call (p a s : ℕ) (t t' : Stores) : Type 0 where
  by_proposer : (i : ℕ) (left : List ℕ) (c : ProposerCall a s t i (t.proposer i) left)
      → Changed t.proposer t'.proposer i left
      → Same t.acceptor t'.acceptor
      → Same t.learner t'.learner
      → SendsOnly t t' (ProposerSends c)
      → Call p a s t t'
  by_acceptor : (j : ℕ) → j < a → (left : List ℕ) (c : AcceptorCall s t j (t.acceptor j) left)
      → Same t.proposer t'.proposer
      → Changed t.acceptor t'.acceptor j left
      → Same t.learner t'.learner
      → SendsOnly t t' (AcceptorSends c)
      → Call p a s t t'
  by_learner : (l : ℕ) (left : List ℕ) → LearnerCall p a s t l (t.learner l) left
      → Same t.proposer t'.proposer
      → Same t.acceptor t'.acceptor
      → Changed t.learner t'.learner l left
      → SendsOnly t t' Nothing
      → Call p a s t t'
  -- no call: time goes by, messages are lost
  rests : Same t.proposer t'.proposer
      → Same t.acceptor t'.acceptor
      → Same t.learner t'.learner
      → SendsOnly t t' Nothing
      → Call p a s t t'

-- what a call makes happen
abbrev pub news_of : {p a s : ℕ} {t t' : Stores} → Call p a s t t' → News
news_of (by_proposer i left c _ _ _ _) = record { received = Gets c; accepted = λ j v. ⊥ }
news_of (by_acceptor j _ left c _ _ _ _) = record { received = λ k. ⊥; accepted = Takes c }
news_of (by_learner l left c _ _ _ _) = record { received = λ k. ⊥; accepted = λ j v. ⊥ }
news_of (rests _ _ _ _) = record { received = λ k. ⊥; accepted = λ j v. ⊥ }

-- ---- a history

-- the record of a party that has just begun: 1, then zeros
abbrev pub begun : ℕ → List ℕ
begun n = 1 ∷ zeros n

pub record Begun (p : ℕ) (t : Stores) : Type 0 where
  pub proposers : (i : ℕ) → t.proposer i ≡ begun (proposer_size - 1)
  pub acceptors : (j : ℕ) → t.acceptor j ≡ begun set_size
  pub learners : (l : ℕ) → t.learner l ≡ begun (set_size + heard_size * p)
  pub nothing_sent : (m : Message) → t.sent m → ⊥

-- calls of any parties one after the other; call i meets the stores i
pub record History (p a s : ℕ) : Type 1 where
  pub stores : ℕ → Stores
  pub begins : Begun p (stores 0)
  pub calls : (i : ℕ) → Call p a s (stores i) (stores (suc i))
