-- `printer::print` meets its contract. Assumes nothing.
use mathlib.Core.Path.{◌≡◌, sym, ap, ◌∙◌, subst}
use mathlib.Core.List.{List}
use Prim.Native.Nat.{ℕ, ◌*◌, ◌≤◌}
use lib.ListN.{length, replicate, length-replicate}
use Rattle.choice.specs.Refusals.{number, numbered}
use Rattle.printer.specs.Text.{text_written, after_text}
use Rattle.printer.proofs.Lengths.{refusal-short}
use Rattle.printer.proofs.Adding.{with-number}
use Rattle.printer.specs.Printing.{text_of_run, text}
use Rattle.printer.proofs.Printing.{ran, refused-printed}
use Rattle.printer.proofs.print.Goals as goal

-- the room as it is made
abbrev room : List ℕ
room = replicate 12_288 0

size : length room ≡ 12_288
size = length-replicate {A = ℕ} 12_288 0

pub print_run-requires : goal.print_run-requires
print_run-requires c = let read = c.read_schedule in
    let h = c.in-Ok.header in
    let r = ran c.args.bytes.now room size h (sym read.ensures.0 ∙ ap numbered c.in-Ok.is) in
    (r.sizes, (r.few, subst (λ (l : List ℕ). 3 * h.events ≤ length l) (sym read.ensures.1) r.numbers))

pub returns-in-Ok : goal.returns-in-Ok
returns-in-Ok c = let read = c.read_schedule in
    let a = c.args in
    let h = c.in-Ok.header in
    let r = ran a.bytes.now room size h (sym read.ensures.0 ∙ ap numbered c.in-Ok.is) in
    let same = ap (λ (l : List ℕ). text_of_run h.sizes l h.events) read.ensures.1 ∙ r.same in
    let done = c.print_run.ensures in
    with-number (text a.bytes.now) a.buffer.now c.print_run.result (done.0 ∙ ap (λ (t : List ℕ). text_written t a.buffer.now) same) (done.1 ∙ ap (λ (t : List ℕ). after_text t a.buffer.now) same)

pub print_text-requires-clause-short : goal.print_text-requires-clause-short
print_text-requires-clause-short c = refusal-short (number c.in-Err.refusal)

pub returns-in-Err : goal.returns-in-Err
returns-in-Err c = let read = c.read_schedule in
    let a = c.args in
    let same = refused-printed a.bytes.now room size (number c.in-Err.refusal) (sym read.ensures.0 ∙ ap numbered c.in-Err.is) in
    let done = c.print_text.ensures in
    with-number (text a.bytes.now) a.buffer.now c.print_text.result (done.0 ∙ ap (λ (t : List ℕ). text_written t a.buffer.now) same) (done.1 ∙ ap (λ (t : List ℕ). after_text t a.buffer.now) same)
