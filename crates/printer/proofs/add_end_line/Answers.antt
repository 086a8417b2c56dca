-- `printer::add_end_line` meets its contract. Assumes nothing.
use Rattle.text.specs.Words.{bytes}
use Rattle.text.specs.Digits.{decimal}
use Rattle.printer.proofs.Adding.{and_both}
use Rattle.printer.proofs.add_end_line.Goals as goal

pub returns : goal.returns
unfolding bytes
returns g c =
    let a = c.args in
    let adds = g.S.Sink.adds in
    let joined = g.met.S.Sink.joined in
    let events = and_both adds joined _ (decimal a.events) (bytes " ") _ _ _ c.word.ensures c.add_number.ensures in
    let oks = and_both adds joined _ (decimal a.ok) (bytes " ") _ _ _ events c.add_number-2.ensures in
    and_both adds joined _ (decimal a.refused) (bytes "\n") _ _ _ oks c.add_number-3.ensures
