-- `set` of a page meets its contract: the digits of its word are the text of a set. Assumes nothing.
use Rattle.std.proofs.Common.{◌≡◌, ℕ, sym, ap, ◌∙◌}
use Rattle.std.proofs.lemmas.List.Edits.{sets}
use Rattle.sets.specs.Scans.{first_word}
use Rattle.sets.specs.declared.scans.Scans.{Scans}
use Rattle.text.specs.Digits.{hex}
use Rattle.printer.specs.Text.{set_width, set_text}
use Rattle.printer.specs.Sinking.{added}
use Rattle.printer.proofs.Lengths.{set-length}
use Rattle.printer.proofs.sinks.PageSink.set.Goals as goal

digits : (s : ℕ) (v : Scans) {word : ℕ} → word ≡ first_word v → hex word ≡ set_text s v
unfolding set_text set_width
digits s v p = ap hex p

pub returns : goal.returns
returns c =
    let a = c.args in
    let p = c.pass in
    added (set_text a.scans a.set) a.self.now p.new.self
    (c.set_width.ensures ∙ sym (set-length a.scans a.set))
    (c.put_hex.ensures ∙ ap (sets a.self.now.buffer.now a.self.now.at) (digits a.scans a.set c.from.ensures))
    p.ensures.same p.ensures.bytes p.ensures.place
