use mathlib.Core.Path.{sym, ◌∙◌}
use native.Mathlib.Omega.{arith}
use native.Mathlib.Nat.{sub-zero}
use borrow.Author.Rules.{rules}
use Rattle.numbers.specs.declared.Limit.TheVariants.{Table}
use Rattle.scan_table.specs.Table.{scan_tests}
use Rattle.scan_table.proofs.Checking.{rows_next, rows-refused, rows_none}
use Rattle.scan_table.proofs.check_scans.Goals as goal

pub loop-init : goal.loop-init
loop-init c = rw (sub-zero c.args.scans)

pub returns-in_err-next : goal.returns-in_err-next
returns-in_err-next c = let a = c.args in
    let l = c.loop in
    let e = l.invariant ∙ rows-refused scan_tests Table a.bytes.now a.scans l.counter l.next (omega arith) (sym c.in_err-next.ensures) in
    search (rules, sym e)

pub loop-preserved : goal.loop-preserved
loop-preserved c = let a = c.args in
    let l = c.loop in
    l.invariant ∙ rows_next scan_tests Table a.bytes.now a.scans l.counter l.next (omega arith) (sym c.in_ok-next.ensures)

pub returns : goal.returns
returns c = let a = c.args in
    let l = c.loop in
    sym (l.invariant ∙ rows_none scan_tests Table a.bytes.now a.scans l.counter l.next (omega arith))
