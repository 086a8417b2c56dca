-- `printer::print_text` meets its contract. Assumes nothing.
use Rattle.std.proofs.Common.{rules, refl, sym, arith}
use borrow.Author.Tests.{leb-true, leb-false}
use Rattle.choice.proofs.Tests.{test-passed}
use Rattle.choice.proofs.RefusalLaws.{refused-unless}
use Rattle.printer.proofs.Adding.{no_room, printed}
use Rattle.printer.proofs.print_text.Goals as goal

pub returns-in_err-refuse_unless : goal.returns-in_err-refuse_unless
returns-in_err-refuse_unless g c =
    let f = refused-unless 8 _ c.in_err-refuse_unless.field-0.0 c.in_err-refuse_unless.ensures in
    no_room (g.T.Text.text c.args.text.now) c.requires.short _ c.add.new.to refl c.add.ensures c.args.buffer.now (search rules) f.1 (leb-false _ _ f.0)

pub returns : goal.returns
returns g c =
    let room = leb-true _ _ (test-passed 7 _ 0 (sym c.in_ok-refuse_unless.ensures)) in
    printed (g.T.Text.text c.args.text.now) c.requires.short _ c.add.new.to refl c.add.ensures c.args.buffer.now refl refl room c.add-2.ensures (search rules)
