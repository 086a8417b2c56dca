-- `run` meets its contract: the text of what is read lies within the buffer, and is written.
use Rattle.std.proofs.Common.{◌≡◌, ℕ, ◌+◌, ◌≤◌, List, arith, length, take, drop, sym, ap, ◌∙◌, length-take-le, take_at}
use lib.Seq.{length-sets}
use Rattle.std.proofs.lemmas.List.Edits.{sets, sets-eq}
use Rattle.printer.specs.Text.{longest_text}
use Rattle.printer.specs.Printing.{text}
use Rattle.printer.proofs.Printing.{text-most}
use Rattle.run_printer.proofs.Reading.{writes_text}
use Rattle.run_printer.specs.declared.TheConstants.{MOST_INPUT}
use Rattle.run_printer.proofs.run.Goals as goal

module _ (bytes output after : List ℕ) (n : ℕ) (room : longest_text ≤ length output) (k : n ≡ length (text bytes)) (e : after ≡ sets output 0 (text bytes)) where
  -- the text lies within the buffer
  within : n ≤ length after
  within =
      let same : length after ≡ length output = ap length e ∙ length-sets output 0 (text bytes) in
      omega (arith, room, k, same, text-most bytes)

  -- the buffer begins with it
  begins : take n after ≡ text bytes
  begins =
      let fits : 0 + length (text bytes) ≤ length output = omega (arith, room, text-most bytes) in
      ap (take n) (e ∙ sets-eq (text bytes) output 0 fits) ∙ take_at (text bytes) (drop (0 + length (text bytes)) output) n (sym k)

pub slice_bounds-write_all-end : goal.slice_bounds-write_all-end
slice_bounds-write_all-end g c =
    let done = c.print_text-length in
    within (take c.in_ok-got.got c.read_full.new.buffer) c.args.output.now done.new.output done.result c.requires.room done.ensures.0 done.ensures.1

pub slice_bounds-write_all-end-2 : goal.slice_bounds-write_all-end-2
slice_bounds-write_all-end-2 g c =
    let done = c.print_text-length in
    sym (length-take-le done.result done.new.output (within (take c.in_ok-got.got c.read_full.new.buffer) c.args.output.now done.new.output done.result c.requires.room done.ensures.0 done.ensures.1))

pub returns : goal.returns
returns g c =
    let got = c.in_ok-got.got in
    let input = c.read_full.new.buffer in
    let read = c.in_ok-got.ensures in
    let done = c.print_text-length in
    let same = begins (take got input) c.args.output.now done.new.output done.result c.requires.room done.ensures.0 done.ensures.1 in
    let size : length (take got input) ≡ got = length-take-le got input read.within in
    let whole : length input ≡ MOST_INPUT = c.read_full.auto.buffer ∙ c.requires.most in
    writes_text c.write_all.result _ _ _ _ (take got input) _
    (omega (arith, size, whole, read.within))
    (λ l. read.all (omega (arith, size, whole, l)))
    read.bytes same c.write_all.ensures.bytes
