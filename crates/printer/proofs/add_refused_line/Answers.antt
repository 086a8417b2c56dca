-- `printer::add_refused_line` meets its contract. Assumes nothing.
use Rattle.text.specs.Words.{bytes}
use Rattle.text.specs.Digits.{decimal}
use Rattle.printer.proofs.Adding.{and_both}
use Rattle.printer.proofs.add_refused_line.Goals as goal

pub returns : goal.returns
unfolding bytes
returns g c =
    let a = c.args in
    let adds = g.S.Sink.adds in
    let joined = g.met.S.Sink.joined in
    and_both adds joined _ (decimal a.no) (bytes "\n") _ _ _ c.add_number.ensures c.add_number-2.ensures
