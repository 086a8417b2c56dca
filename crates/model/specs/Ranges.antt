-- Document 01, refusal 1: the ranges of sizes, of the table and of every field of every record.
use Rattle.std.specs.Prelude.{Bool, true, false, not, ◌&&◌, ◌||◌, List, [], ◌∷◌, eqb, ltb, leb, length, take}
use Rattle.sets.specs.Scans.{fits, is_empty}
use Rattle.sets.specs.Acceptors.{fits_run}
use Rattle.sizes.specs.Sizes.{between, sizes_in_range}
use Rattle.sizes.specs.declared.Sizes.{Sizes}
use Rattle.model.specs.declared.Proposer.{Proposer}
use Rattle.model.specs.declared.Acceptor.{Acceptor}
use Rattle.model.specs.declared.Heard.{Heard}
use Rattle.model.specs.declared.Learner.{Learner}
use Rattle.model.specs.declared.Message.{Message}
use Rattle.model.specs.Records.{State, Kind, free, internal, proposal, acknowledgement, rejection, announcement, no_kind, kind_of}
use Rattle.model.specs.Rules.{greatest_number}

-- every record of a list
unfoldable pub all : {B : Type 0} → (B → Bool) → List B → Bool
all f [] = true
all f (x ∷ xs) = f x && all f xs

-- sets within S, acceptors within A, numbers 0 to 1,000, an active proposer's number at least 1
unfoldable pub proposer_in_range : Sizes → Proposer → Bool
proposer_in_range z p =
    fits p.buffered z.scans
    && fits p.proposed z.scans
    && fits p.gathered z.scans
    && leb p.number greatest_number
    && fits_run p.acknowledged z.acceptors
    && fits_run p.rejected z.acceptors
    && fits p.decided z.scans
    && (not p.active || leb 1 p.number)

unfoldable pub acceptor_in_range : Sizes → Acceptor → Bool
acceptor_in_range z q = fits q.accepted z.scans

unfoldable pub heard_in_range : Sizes → Heard → Bool
heard_in_range z h =
    leb h.number greatest_number && fits h.set z.scans && fits_run h.acceptors z.acceptors

-- of what a learner heard, the run's own proposers
unfoldable pub learner_in_range : Sizes → Learner → Bool
learner_in_range z l = fits l.learnt z.scans && all (heard_in_range z) (take z.proposers l.heard)

-- every kind uses addressee and set; 2 also proposer and number; 3 and 4 acceptor and number; 5 proposer, acceptor and number. Parties exist, a number is at least 1, unused fields are 0
unfoldable pub fields_in_range : Sizes → Message → Kind → Bool
fields_in_range z m free =
    eqb m.addressee 0
    && eqb m.proposer.0 0
    && eqb m.acceptor.0 0
    && eqb m.number 0
    && is_empty m.set
fields_in_range z m internal =
    ltb m.addressee z.proposers
    && eqb m.proposer.0 0
    && eqb m.acceptor.0 0
    && eqb m.number 0
    && fits m.set z.scans
fields_in_range z m proposal =
    ltb m.addressee z.acceptors
    && ltb m.proposer.0 z.proposers
    && eqb m.acceptor.0 0
    && between 1 greatest_number m.number
    && fits m.set z.scans
fields_in_range z m acknowledgement =
    ltb m.addressee z.proposers
    && eqb m.proposer.0 0
    && ltb m.acceptor.0 z.acceptors
    && between 1 greatest_number m.number
    && fits m.set z.scans
fields_in_range z m rejection =
    ltb m.addressee z.proposers
    && eqb m.proposer.0 0
    && ltb m.acceptor.0 z.acceptors
    && between 1 greatest_number m.number
    && fits m.set z.scans
fields_in_range z m announcement =
    ltb m.addressee z.learners
    && ltb m.proposer.0 z.proposers
    && ltb m.acceptor.0 z.acceptors
    && between 1 greatest_number m.number
    && fits m.set z.scans
fields_in_range z m no_kind = false

unfoldable pub message_in_range : Sizes → Message → Bool
message_in_range z m = fields_in_range z m (kind_of m.kind)

-- the lent records are those of the run's own parties, and the lent table is M slots
unfoldable pub lengths_in_range : Sizes → State → Bool
lengths_in_range z s =
    eqb (length s.proposers) z.proposers
    && eqb (length s.acceptors) z.acceptors
    && eqb (length s.learners) z.learners
    && eqb (length s.slots) z.slots

unfoldable pub records_in_range : Sizes → State → Bool
records_in_range z s =
    sizes_in_range z
    && lengths_in_range z s
    && all (proposer_in_range z) s.proposers
    && all (acceptor_in_range z) s.acceptors
    && all (learner_in_range z) s.learners
    && all (message_in_range z) s.slots
