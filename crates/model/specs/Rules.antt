-- Document 01, "Events": what each rule makes of one party's record, and when it is enabled.
use Rattle.std.specs.Prelude.{Bool, true, false, not, ◌&&◌, ℕ, ◌+◌, eqb, ltb, set}
use Rattle.std.specs.Prelude.{if◌then◌else◌}
use Rattle.sets.specs.Scans.{empty, ◌∪◌, within, strictly_within, is_empty}
use Rattle.sets.specs.Acceptors.{none, with_one, together, size, is_majority}
use Rattle.sets.specs.declared.scans.Scans.{Scans}
use Rattle.model.specs.declared.Proposer.{Proposer}
use Rattle.model.specs.declared.Acceptor.{Acceptor}
use Rattle.model.specs.declared.Heard.{Heard}
use Rattle.model.specs.declared.Learner.{Learner}
use Rattle.model.specs.declared.Message.{Message}
use Rattle.model.specs.Records.{heard_of}
use Rattle.choice.specs.Tests.{◌unless◌, ◌⨾◌, ok}

-- proposal numbers run to 1,000
abbrev pub greatest_number : ℕ
greatest_number = 1_000

-- ---- a proposer

-- buffered gains the set
unfoldable pub buffering : Proposer → Scans → Proposer
buffering p v = record {
  alive = p.alive;
  active = p.active;
  buffered = p.buffered ∪ v;
  proposed = p.proposed;
  gathered = p.gathered;
  number = p.number;
  acknowledged = p.acknowledged;
  rejected = p.rejected;
  decided = p.decided;
}

-- an answer counts if the proposer is active and the number is the current one
unfoldable pub is_current : Proposer → ℕ → Bool
is_current p n = p.active && eqb n p.number

-- the acceptor joins the acknowledging ones
unfoldable pub acknowledging : Proposer → ℕ → Proposer
acknowledging p j = record {
  alive = p.alive;
  active = p.active;
  buffered = p.buffered;
  proposed = p.proposed;
  gathered = p.gathered;
  number = p.number;
  acknowledged = with_one p.acknowledged j;
  rejected = p.rejected;
  decided = p.decided;
}

-- the acceptor joins the rejecting ones and gathered gains the set
unfoldable pub rejecting : Proposer → ℕ → Scans → Proposer
rejecting p j v = record {
  alive = p.alive;
  active = p.active;
  buffered = p.buffered;
  proposed = p.proposed;
  gathered = p.gathered ∪ v;
  number = p.number;
  acknowledged = p.acknowledged;
  rejected = with_one p.rejected j;
  decided = p.decided;
}

-- Propose is enabled when passive with buffered not empty
unfoldable pub may_propose : Proposer → Bool
may_propose p = not p.active && not (is_empty p.buffered)

-- 5 it has crashed, 6 not enabled, 7 the number is already 1,000
unfoldable pub propose_no : Proposer → ℕ
propose_no p =
    5 unless p.alive
    ⨾ 6 unless may_propose p
    ⨾ 7 unless ltb p.number greatest_number
    ⨾ ok

-- number plus 1; proposed gains buffered; buffered, gathered and both acceptor lists are emptied; active
unfoldable pub proposing : Proposer → Proposer
proposing p = record {
  alive = p.alive;
  active = true;
  buffered = empty;
  proposed = p.proposed ∪ p.buffered;
  gathered = empty;
  number = p.number + 1;
  acknowledged = none;
  rejected = none;
  decided = p.decided;
}

-- a refusal changes nothing
unfoldable pub after_propose : Proposer → Proposer
after_propose p = if eqb (propose_no p) 0 then proposing p else p

-- Refine is enabled when active, some acceptor has rejected, and those that acknowledged or rejected, counted once each, are a majority of a
unfoldable pub may_refine : ℕ → Proposer → Bool
may_refine a p = p.active && ltb 0 (size p.rejected) && is_majority (together p.acknowledged p.rejected) a

unfoldable pub refine_no : ℕ → Proposer → ℕ
refine_no a p =
    5 unless p.alive
    ⨾ 6 unless may_refine a p
    ⨾ 7 unless ltb p.number greatest_number
    ⨾ ok

-- number plus 1; proposed gains gathered; gathered and both lists are emptied
unfoldable pub refining : Proposer → Proposer
refining p = record {
  alive = p.alive;
  active = p.active;
  buffered = p.buffered;
  proposed = p.proposed ∪ p.gathered;
  gathered = empty;
  number = p.number + 1;
  acknowledged = none;
  rejected = none;
  decided = p.decided;
}

-- a refusal changes nothing
unfoldable pub after_refine : ℕ → Proposer → Proposer
after_refine a p = if eqb (refine_no a p) 0 then refining p else p

-- Decide is enabled when active and the acknowledging ones are a majority of a
unfoldable pub may_decide : ℕ → Proposer → Bool
may_decide a p = p.active && is_majority p.acknowledged a

unfoldable pub decide_no : ℕ → Proposer → ℕ
decide_no a p =
    5 unless p.alive
    ⨾ 6 unless may_decide a p
    ⨾ ok

-- decided becomes proposed, not gathered; passive
unfoldable pub deciding : Proposer → Proposer
deciding p = record {
  alive = p.alive;
  active = false;
  buffered = p.buffered;
  proposed = p.proposed;
  gathered = p.gathered;
  number = p.number;
  acknowledged = p.acknowledged;
  rejected = p.rejected;
  decided = p.proposed;
}

-- a refusal changes nothing
unfoldable pub after_decide : ℕ → Proposer → Proposer
after_decide a p = if eqb (decide_no a p) 0 then deciding p else p

-- a crashed party is not alive from then on
unfoldable pub crashed_proposer : Proposer → Proposer
crashed_proposer p = record {
  alive = false;
  active = p.active;
  buffered = p.buffered;
  proposed = p.proposed;
  gathered = p.gathered;
  number = p.number;
  acknowledged = p.acknowledged;
  rejected = p.rejected;
  decided = p.decided;
}

-- ---- an acceptor

-- it accepts a set that contains what it accepted
unfoldable pub accepts : Acceptor → Scans → Bool
accepts q v = within q.accepted v

-- accepted becomes the set
unfoldable pub accepting : Acceptor → Scans → Acceptor
accepting q v = record { alive = q.alive; accepted = v }

-- otherwise accepted gains the set
unfoldable pub gaining : Acceptor → Scans → Acceptor
gaining q v = record { alive = q.alive; accepted = q.accepted ∪ v }

-- what a proposal of a set leaves
unfoldable pub answering : Acceptor → Scans → Acceptor
answering q v = if accepts q v then accepting q v else gaining q v

-- not alive from then on
unfoldable pub crashed_acceptor : Acceptor → Acceptor
crashed_acceptor q = record { alive = false; accepted = q.accepted }

-- ---- a learner

-- an acknowledgement's number against the newest one heard of its proposer
pub data Rank : Type 0 where
  higher equal lower : Rank

abbrev pub rank_of : Heard → Message → Rank
rank_of h m =
    if ltb h.number m.number then higher
    else (if eqb h.number m.number then equal else lower)

-- a higher number than heard replaces number, set and acceptors; an equal one adds the acceptor; a lower one does nothing more
abbrev pub hearing_of : Heard → Message → Rank → Heard
hearing_of h m higher = record { number = m.number; set = m.set; acceptors = with_one none m.acceptor.0 }
hearing_of h m equal = record { number = h.number; set = h.set; acceptors = with_one h.acceptors m.acceptor.0 }
hearing_of h m lower = h

unfoldable pub hearing : Heard → Message → Heard
hearing h m = hearing_of h m (rank_of h m)

abbrev pub is_lower : Rank → Bool
is_lower higher = false
is_lower equal = false
is_lower lower = true

-- unless it was lower: if that proposer's acceptors here are now a majority of a and learnt is strictly contained in the set held for it
abbrev pub teaches : ℕ → Scans → Heard → Message → Bool
teaches a learnt h m =
    not (is_lower (rank_of h m))
    && is_majority (hearing h m).acceptors a
    && strictly_within learnt (hearing h m).set

-- whether an acknowledgement makes a learner learn
unfoldable pub learns : ℕ → Learner → Message → Bool
learns a l m = teaches a l.learnt (heard_of l m.proposer.0) m

-- what a learner holds of the message's proposer once it has heard the message
abbrev pub newly_heard : Learner → Message → Heard
newly_heard l m = hearing (heard_of l m.proposer.0) m

-- an acknowledgement is heard, and where it teaches, learnt becomes the set held for its proposer
unfoldable pub listening : ℕ → Learner → Message → Learner
listening a l m = record {
  alive = l.alive;
  learnt = if learns a l m then (newly_heard l m).set else l.learnt;
  heard = set l.heard m.proposer.0 (newly_heard l m);
}

-- not alive from then on
unfoldable pub crashed_learner : Learner → Learner
crashed_learner l = record { alive = false; learnt = l.learnt; heard = l.heard }
