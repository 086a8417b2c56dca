-- The first refusal of an event but 1 and 8, of the records that it finds.
use Rattle.std.specs.Prelude.{Bool, true, not, ◌&&◌, ℕ, eqb, ltb}
use Rattle.sizes.specs.declared.Sizes.{Sizes}
use Rattle.model.specs.Records.{role_of, addressed, kind_of}
use Rattle.model.specs.declared.Role.{Role}
use Rattle.model.specs.declared.Role.TheVariants.{Proposer as a_proposer, Acceptor as an_acceptor, Learner as a_learner, NoRole as no_role}
use Rattle.model.specs.Rules.{propose_no, refine_no, decide_no}
use Rattle.model.specs.Table.{is_free}
use Rattle.model.specs.Events.{exists}
use Rattle.model.specs.declared.Code.{Code}
use Rattle.model.specs.declared.Code.TheVariants.{Receive as receive, Deliver as deliver, Drop as drop, Duplicate as duplicate, Propose as propose, Refine as refine, Decide as decide, Crash as crash, NoCode as no_code}
use Rattle.choice.specs.Tests.{◌unless◌, ◌⨾◌, refusal, ok}
use Rattle.model.specs.declared.Proposer.{Proposer}
use Rattle.model.specs.declared.Message.{Message}

-- the party of a role has not crashed, by whether the proposer, the acceptor and the learner have not
abbrev pub alive_in : Role → Bool → Bool → Bool → Bool
alive_in a_proposer q c l = q
alive_in an_acceptor q c l = c
alive_in a_learner q c l = l
alive_in no_role q c l = true

-- codes 2 to 4: 3, then 4 where the slot is free
abbrev pub slot_no : Sizes → ℕ → ℕ → Message → ℕ
slot_no z a b m = 3 unless (ltb a z.slots && eqb b 0) ⨾ 4 unless not (is_free m) ⨾ ok

abbrev pub deliver_no : Sizes → ℕ → ℕ → Message → Bool → Bool → Bool → ℕ
deliver_no z a b m q c l = refusal (slot_no z a b m) ⨾ 5 unless alive_in (addressed (kind_of m.kind)) q c l ⨾ ok

abbrev pub receive_no : Sizes → ℕ → ℕ → Bool → ℕ
receive_no z a b alive = 3 unless (ltb a z.proposers && ltb b z.scans) ⨾ 5 unless alive ⨾ ok

-- codes 5 to 7: 3, then the proposer's own refusal
abbrev pub proposer_no : Sizes → ℕ → ℕ → ℕ → ℕ
proposer_no z a b n = 3 unless (ltb a z.proposers && eqb b 0) ⨾ n

abbrev pub party_no : Bool → Bool → ℕ
party_no there alive = 3 unless there ⨾ 5 unless alive ⨾ ok

abbrev pub crash_no : Sizes → ℕ → ℕ → Bool → Bool → Bool → ℕ
crash_no z a b q c l = party_no (exists z (role_of a) b) (alive_in (role_of a) q c l)

unfoldable pub test_no : Sizes → ℕ → ℕ → Message → Proposer → Bool → Bool → Code → ℕ
test_no z a b m q c l receive = receive_no z a b q.alive
test_no z a b m q c l deliver = deliver_no z a b m q.alive c l
test_no z a b m q c l drop = slot_no z a b m
test_no z a b m q c l duplicate = slot_no z a b m
test_no z a b m q c l propose = proposer_no z a b (propose_no q)
test_no z a b m q c l refine = proposer_no z a b (refine_no z.acceptors q)
test_no z a b m q c l decide = proposer_no z a b (decide_no z.acceptors q)
test_no z a b m q c l crash = crash_no z a b q.alive c l
test_no z a b m q c l no_code = 2
