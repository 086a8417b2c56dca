-- `text::put_decimal` meets its contract. Assumes nothing.
use Rattle.std.proofs.Common.{arith, sym, ap, ◌∙◌, length-take-le}
use Rattle.std.proofs.lemmas.List.Edits.{sets}
use Rattle.text.specs.Digits.{digits_of}
use Rattle.text.proofs.DigitLaws.{decimal-most, decimal-digits}
use Rattle.text.proofs.put_decimal.Goals as goal

pub slice_bounds-room-end : goal.slice_bounds-room-end
slice_bounds-room-end c = omega (arith, c.decimal_width.ensures, decimal-most 20 c.args.value)

pub slice_bounds-digits-end : goal.slice_bounds-digits-end
slice_bounds-digits-end c = sym (length-take-le c.decimal_width.result _ (omega (arith, c.decimal_width.ensures, decimal-most 20 c.args.value)))

pub returns : goal.returns
returns c =
    let a = c.args in
    let size = length-take-le c.decimal_width.result _ (omega (arith, c.decimal_width.ensures, decimal-most 20 a.value)) in
    c.put_word.ensures ∙ ap (sets a.buffer.now a.at) (c.find_digits.ensures ∙ ap (λ n. digits_of 10 n a.value) (size ∙ c.decimal_width.ensures) ∙ sym (decimal-digits 20 a.value))
