-- `print_text` meets its contract: `print` never answers 8.
use Rattle.std.proofs.Common.{◌≡◌, ℕ, ap, sym, ◌∙◌, length}
use Rattle.std.specs.Prelude.{Result, Ok, Err}
use Rattle.std.specs.Result.{result_unwrap_or}
use Rattle.choice.specs.Refusals.{numbered}
use Rattle.choice.specs.declared.refusals.Refusal.{Refusal}
use Rattle.numbers.specs.Coding.{Written, written_next}
use Rattle.numbers.proofs.Puts.{put_next, refused-next}
use Rattle.printer.specs.Printing.{text}
use Rattle.printer.proofs.Printing.{never-eight}
use Rattle.run_printer.proofs.print_text.Goals as goal

-- an answer that is a place by its number is that place
place : (r : Result ℕ Refusal) {n : ℕ} → numbered r ≡ Ok n → result_unwrap_or r 0 ≡ n
place (Ok m) e = ap (λ (w : Written). written_next w 0) e
place (Err r) e = absurd (refused-next e)

pub returns : goal.returns
returns c =
    let bytes = c.args.bytes.now in
    let output = c.args.output.now in
    let done = c.print.ensures in
    let whole = never-eight bytes output c.requires in
    (c.unwrap_or.ensures ∙ place c.print.result (done.0 ∙ whole), done.1 ∙ (put_next 0 (text bytes) output 0 (length (text bytes)) whole).buffer)
