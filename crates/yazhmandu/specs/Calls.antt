-- What each call gives, and leaves in the lent bytes, by what they held at entry.
use Rattle.std.specs.Prelude.{List, ℕ, eqb, ltb, length, Err}
use Rattle.std.specs.Prelude.{if◌then◌else◌}
use Rattle.forms.specs.Forms.{FormRead, read_as, unread}
use Rattle.scan_table.specs.Table.{read_table}
use Rattle.shelf.specs.Shelf.{Shelf, where_is_written}
use Rattle.choice.specs.Tests.{◌unless◌, ◌⨾◌, ok}
use Rattle.model.specs.Rules.{accepts, answering, buffering, is_current, acknowledging, rejecting, learns, listening}
use Rattle.model.specs.Table.{Announcement}
use Rattle.model.specs.declared.Proposer.{Proposer}
use Rattle.layouts.specs.Layout.{set_size, set_at, is_set, is_answer, flagged, is_acceptor, acceptor_at, acceptor_bytes, is_proposer, proposer_at, proposer_bytes, is_learner, learner_at, learner_bytes}

-- lent bytes after a call that gave a number: new ones where it was not refused
abbrev pub unless_refused : ℕ → List ℕ → List ℕ → List ℕ
unless_refused n new old = if eqb n 0 then new else old

-- ---- the shelf question

-- a set of another length is not within S: 3, after the table's own refusals
unfoldable pub unasked : FormRead ℕ → Shelf
unasked (read_as n fields) = Err 3
unasked (unread r) = Err r

unfoldable pub where_is_bytes : List ℕ → List ℕ → ℕ → Shelf
where_is_bytes table set tag =
    if eqb (length set) set_size
    then where_is_written (read_table table) (set_at set 0) tag
    else unasked (read_table table)

-- ---- a proposal's set at an acceptor's record

-- 1 for S and the record, 3 for the set, 5 it has crashed
unfoldable pub proposal_no : ℕ → List ℕ → List ℕ → ℕ
proposal_no s kept set =
    1 unless is_acceptor s kept
    ⨾ 3 unless is_set s set
    ⨾ 5 unless (acceptor_at kept).alive
    ⨾ ok

unfoldable pub answer_record : ℕ → List ℕ → List ℕ → List ℕ
answer_record s kept set =
    unless_refused (proposal_no s kept set) (acceptor_bytes (answering (acceptor_at kept) (set_at set 0))) kept

-- whether it is accepted, and the set to send
unfoldable pub answer_reply : ℕ → List ℕ → List ℕ → List ℕ → List ℕ
answer_reply s kept set old =
    unless_refused
    (proposal_no s kept set)
    (flagged (accepts (acceptor_at kept) (set_at set 0)) (answering (acceptor_at kept) (set_at set 0)).accepted)
    old

-- ---- a proposer's record

-- the set of a received scan or of an internal message: 1 for the sizes and the record, 3 for the set, 5 it has crashed
unfoldable pub buffer_no : ℕ → ℕ → List ℕ → List ℕ → ℕ
buffer_no a s kept set =
    1 unless is_proposer a s kept
    ⨾ 3 unless is_set s set
    ⨾ 5 unless (proposer_at kept).alive
    ⨾ ok

unfoldable pub buffer_record : ℕ → ℕ → List ℕ → List ℕ → List ℕ
buffer_record a s kept set =
    unless_refused (buffer_no a s kept set) (proposer_bytes (buffering (proposer_at kept) (set_at set 0))) kept

-- an acknowledgement: 1, then 3 for the acceptor and the number, 5
unfoldable pub acknowledged_no : ℕ → ℕ → List ℕ → ℕ → ℕ → ℕ
acknowledged_no a s kept acceptor number =
    1 unless is_proposer a s kept
    ⨾ 3 unless is_answer a acceptor number
    ⨾ 5 unless (proposer_at kept).alive
    ⨾ ok

-- a late one leaves the record
unfoldable pub acknowledged_record : ℕ → ℕ → List ℕ → ℕ → ℕ → List ℕ
acknowledged_record a s kept acceptor number =
    unless_refused
    (acknowledged_no a s kept acceptor number)
    (if is_current (proposer_at kept) number then proposer_bytes (acknowledging (proposer_at kept) acceptor) else kept)
    kept

-- a rejection: 1, then 3 for the acceptor, the number and the set, 5
unfoldable pub rejected_no : ℕ → ℕ → List ℕ → ℕ → ℕ → List ℕ → ℕ
rejected_no a s kept acceptor number set =
    1 unless is_proposer a s kept
    ⨾ 3 unless is_answer a acceptor number
    ⨾ 3 unless is_set s set
    ⨾ 5 unless (proposer_at kept).alive
    ⨾ ok

unfoldable pub rejected_record : ℕ → ℕ → List ℕ → ℕ → ℕ → List ℕ → List ℕ
rejected_record a s kept acceptor number set =
    unless_refused
    (rejected_no a s kept acceptor number set)
    (if is_current (proposer_at kept) number then proposer_bytes (rejecting (proposer_at kept) acceptor (set_at set 0)) else kept)
    kept

-- Propose, Refine and Decide, by what the rule refuses and what it does: 1, then the rule's refusals
unfoldable pub call_no : ℕ → ℕ → List ℕ → (Proposer → ℕ) → ℕ
call_no a s kept rule_no = 1 unless is_proposer a s kept ⨾ rule_no (proposer_at kept)

unfoldable pub call_record : ℕ → ℕ → List ℕ → (Proposer → ℕ) → (Proposer → Proposer) → List ℕ
call_record a s kept rule_no rule = unless_refused (call_no a s kept rule_no) (proposer_bytes (rule (proposer_at kept))) kept

-- ---- an acknowledgement at a learner's record

-- 1 for the sizes and the record, 3 for the proposer, the acceptor, the number and the set, 5 it has crashed
unfoldable pub hear_no : ℕ → ℕ → ℕ → List ℕ → ℕ → ℕ → ℕ → List ℕ → ℕ
hear_no p a s kept proposer acceptor number set =
    1 unless is_learner p a s kept
    ⨾ 3 unless ltb proposer p
    ⨾ 3 unless is_answer a acceptor number
    ⨾ 3 unless is_set s set
    ⨾ 5 unless (learner_at p kept).alive
    ⨾ ok

unfoldable pub hear_record : ℕ → ℕ → ℕ → List ℕ → ℕ → ℕ → ℕ → List ℕ → List ℕ
hear_record p a s kept proposer acceptor number set =
    unless_refused
    (hear_no p a s kept proposer acceptor number set)
    (learner_bytes p (listening a (learner_at p kept) (Announcement proposer acceptor number (set_at set 0) 0)))
    kept

-- 1 where it learns, 0 where it does not
unfoldable pub hear_learns : ℕ → ℕ → ℕ → List ℕ → ℕ → ℕ → ℕ → List ℕ → ℕ → ℕ
hear_learns p a s kept proposer acceptor number set old =
    if eqb (hear_no p a s kept proposer acceptor number set) 0
    then (if learns a (learner_at p kept) (Announcement proposer acceptor number (set_at set 0) 0) then 1 else 0)
    else old
