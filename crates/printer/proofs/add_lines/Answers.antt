-- `printer::add_lines` meets its contract. Assumes nothing.
use Rattle.text.specs.Words.{bytes}
use Rattle.printer.specs.Text.{lines}
use Rattle.printer.proofs.add_lines.Goals as goal

pub returns-in-Done : goal.returns-in-Done
unfolding lines bytes
returns-in-Done g c = rw (c.in-Ok.is, c.in-Done.is) c.add_number.ensures

pub returns-in-Learnt : goal.returns-in-Learnt
unfolding lines bytes
returns-in-Learnt g c = rw (c.in-Ok.is, c.in-Learnt.is) (g.met.S.Sink.joined _ _ _ _ _ c.add_number.ensures (rw c.from.ensures at c.add_set_line.ensures))

pub returns-in-Decided : goal.returns-in-Decided
unfolding lines bytes
returns-in-Decided g c = rw (c.in-Ok.is, c.in-Decided.is) (g.met.S.Sink.joined _ _ _ _ _ c.add_number.ensures (rw c.from-in-Decided.ensures at c.add_set_line-in-Decided.ensures))

pub returns-in-Err : goal.returns-in-Err
unfolding lines
returns-in-Err g c = rw c.in-Err.is (rw c.from-in-Err.ensures at c.add_refused_line.ensures)
