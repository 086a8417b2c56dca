-- `add` of a refused schedule meets its contract. Assumes nothing.
use mathlib.Core.Path.{◌∙◌}
use Rattle.choice.specs.Refusals.{number}
use Rattle.text.specs.Words.{bytes}
use Rattle.text.specs.Digits.{decimal}
use Rattle.printer.specs.Text.{refused_text}
use Rattle.printer.proofs.Adding.{and_both}
use Rattle.printer.proofs.RefusedScheduleText.add.Goals as goal

pub returns : goal.returns
unfolding bytes refused_text
returns g c =
    let a = c.args.self.now in
    let adds = g.S.Sink.adds in
    let joined = g.met.S.Sink.joined in
    let n = c.from-2.ensures ∙ c.from.ensures in
    and_both adds joined _ (decimal (number a.refusal)) (bytes "\n") _ _ _ c.word.ensures (rw n at c.add_number.ensures)
