-- The whole form is checked, then the room, and then the numbers after the size are taken.
use mathlib.Core.Path.{◌≡◌, sym}
use Prim.Native.Nat.{ℕ}
use native.Mathlib.Omega.{arith}
use borrow.Author.Rules.{rules}
use borrow.Author.Tests.{leb-true, leb-false}
use Rattle.std.specs.Prelude.{Err}
use Rattle.choice.proofs.Tests.{test-passed}
use Rattle.choice.proofs.RefusalLaws.{refused-unless}
use Rattle.numbers.proofs.CodingLaws.{Bytes}
use Rattle.scan_table.proofs.Tables.{table-narrow, table_taken, table-unread}
use Rattle.scan_table.proofs.read_table.Goals as goal

pub returns-in_err-scans : goal.returns-in_err-scans
returns-in_err-scans c = let a = c.args in
    let p : c.from_residual.result ≡ Err c.in_err-scans.field-0.0 = search rules in
    rw p (table-unread a.bytes.now a.room.now _ (sym c.in_err-scans.ensures.0))

pub returns-in_err-refuse_unless : goal.returns-in_err-refuse_unless
returns-in_err-refuse_unless c = let a = c.args in
    let f = refused-unless 8 _ c.in_err-refuse_unless.field-0.0 c.in_err-refuse_unless.ensures in
    let p : c.from_residual-in_err-refuse_unless.result ≡ Err c.in_err-refuse_unless.field-0.0 = search rules in
    rw (p, f.1) (table-narrow a.bytes.now a.room.now c.in_ok-scans.scans (sym c.in_ok-scans.ensures.0) (omega (arith, leb-false _ _ f.0)))

pub returns : goal.returns
returns c = let a = c.args in
    let b : Bytes a.bytes.now = λ (i : ℕ). omega (arith, c.type_inv.bytes i) in
    let f = leb-true _ _ (test-passed 7 _ 0 (sym c.in_ok-refuse_unless.ensures)) in
    table_taken a.bytes.now a.room.now c.in_ok-scans.scans b (sym c.in_ok-scans.ensures.0) (omega arith) c.width-first.ensures c.take_numbers.ensures
