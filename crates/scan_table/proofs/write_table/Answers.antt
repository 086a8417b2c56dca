-- The tests lead to the three answers of a writer of tables.
use mathlib.Core.Path.{sym, ◌∙◌}
use native.Mathlib.Omega.{arith}
use borrow.Author.Rules.{rules}
use borrow.Author.Tests.{leb-true, leb-false}
use lib.ListN.{length}
use Prim.Native.Nat.{◌-◌}
use Rattle.choice.proofs.Tests.{test-passed}
use Rattle.choice.proofs.RefusalLaws.{number-some, refused-unless}
use Rattle.numbers.proofs.Puts.{writes-refused}
use Rattle.forms.specs.Forms.{forms}
use Rattle.scan_table.specs.Table.{table_no, written_tests, table_form}
use Rattle.scan_table.proofs.Writing.{form-length, table-refused, table-short, wrote-both}
use Rattle.scan_table.proofs.write_table.Goals as goal

pub returns-in_err-check_fields : goal.returns-in_err-check_fields
returns-in_err-check_fields c = let a = c.args in
    let e = c.in_err-check_fields.ensures in
    let w = table-refused a.fields.now a.buffer.now (λ z. number-some c.in_err-check_fields.field-0.0 (e ∙ z)) in
    writes-refused (table_no written_tests a.fields.now) (table_form a.fields.now) a.buffer.now 0 (search rules) e w

pub returns-in_err-refuse_unless : goal.returns-in_err-refuse_unless
returns-in_err-refuse_unless c = let a = c.args in
    let f = refused-unless 8 _ c.in_err-refuse_unless.field-0.0 c.in_err-refuse_unless.ensures in
    let h = leb-false c.width-first.result (length a.buffer.now) f.0 in
    writes-refused (table_no written_tests a.fields.now) (table_form a.fields.now) a.buffer.now 0 (search rules) f.1
    (table-short a.fields.now a.buffer.now (sym c.in_ok-check_fields.ensures) (omega (arith, c.width-first.ensures, form-length a.fields.now)))

pub returns-in_err-refuse_unless-2 : goal.returns-in_err-refuse_unless-2
returns-in_err-refuse_unless-2 c = let a = c.args in
    let f = refused-unless 8 _ c.in_err-refuse_unless-2.field-0.0 c.in_err-refuse_unless-2.ensures in
    let h = leb-false (length (forms a.fields.now)) (length a.buffer.now - c.width-first.result) (sym c.fit_in.ensures ∙ f.0) in
    writes-refused (table_no written_tests a.fields.now) (table_form a.fields.now) a.buffer.now 0 (search rules) f.1
    (table-short a.fields.now a.buffer.now (sym c.in_ok-check_fields.ensures) (omega (arith, c.width-first.ensures, form-length a.fields.now)))

pub returns : goal.returns
returns c = let a = c.args in
    let n = c.width-first in
    let g = leb-true _ _ (test-passed 7 _ 0 (sym c.in_ok-refuse_unless.ensures)) in
    let f = leb-true (length (forms a.fields.now)) (length a.buffer.now - n.result) (sym c.fit_in.ensures ∙ test-passed 7 _ 0 (sym c.in_ok-refuse_unless-2.ensures)) in
    wrote-both a.fields.now a.buffer.now (sym c.in_ok-check_fields.ensures) (omega (arith, n.ensures, form-length a.fields.now)) c.put_number-at.ensures c.put_numbers.ensures
