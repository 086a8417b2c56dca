-- One acceptor's call: its tests in their order, its reply, and the record that it leaves.
use Rattle.std.specs.Prelude.{ℕ, eqb}
use Rattle.std.specs.Prelude.{if◌then◌else◌, Result, Ok, Err}
use Rattle.choice.specs.Tests.{◌unless◌, ◌⨾◌, ok}
use Rattle.sets.specs.Scans.{fits}
use Rattle.sets.specs.declared.scans.Scans.{Scans}
use Rattle.sizes.specs.Sizes.{scans_in_range}
use Rattle.model.specs.Rules.{accepts, gaining, answering}
use Rattle.model.specs.declared.Acceptor.{Acceptor}
use Rattle.machine.specs.declared.acceptors.Reply.{Reply}
use Rattle.machine.specs.declared.acceptors.Reply.TheVariants.{Accepted, Rejected}

-- document 01's number of a reply: 0, or the refusal's
abbrev pub reply_no : Result Reply ℕ → ℕ
reply_no (Ok (Accepted set)) = 0
reply_no (Ok (Rejected set)) = 0
reply_no (Err n) = n

-- 1 for S and the record, 3 for a set not within S, 5 it has crashed
unfoldable pub answering_no : ℕ → Acceptor → Scans → ℕ
answering_no s q v =
    1 unless scans_in_range s
    ⨾ 1 unless fits q.accepted s
    ⨾ 3 unless fits v s
    ⨾ 5 unless q.alive
    ⨾ ok

-- the set to send is the proposal's where it is accepted, and otherwise all that is accepted then
abbrev pub replying : Acceptor → Scans → Reply
replying q v = if accepts q v then Accepted v else Rejected (gaining q v).accepted

unfoldable pub reply_to : ℕ → Acceptor → Scans → Result Reply ℕ
reply_to s q v = if eqb (answering_no s q v) 0 then Ok (replying q v) else Err (answering_no s q v)

-- a refusal leaves the record
unfoldable pub record_after : ℕ → Acceptor → Scans → Acceptor
record_after s q v = if eqb (answering_no s q v) 0 then answering q v else q
