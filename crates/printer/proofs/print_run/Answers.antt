-- `printer::print_run` meets its contract. Assumes nothing.
use mathlib.Core.List.{List}
use Prim.Native.Nat.{ℕ, ◌*◌, ◌≤◌}
use native.Mathlib.Omega.{arith}
use lib.ListN.{length, replicate, length-replicate}
use Rattle.sizes.specs.Events.{most_events}
use Rattle.machine.specs.Log.{per_answer}
use Rattle.printer.proofs.Events.{run-short}
use Rattle.printer.proofs.Printing.{run-printed}
use Rattle.printer.proofs.print_run.Goals as goal

pub print_text-requires-clause-short : goal.print_text-requires-clause-short
print_text-requires-clause-short c = let h = c.args.header in
    run-short h.sizes.scans c.whole_run.new.log h.events (omega (arith, c.requires.1.0))

pub returns : goal.returns
returns c = let a = c.args in
    let w = c.whole_run in
    let log : List ℕ = replicate (per_answer * most_events) 0 in
    let room : per_answer * a.header.events ≤ length log = omega (arith, c.requires.1.0, length-replicate {A = ℕ} (per_answer * most_events) 0) in
    run-printed a.header.sizes a.events.now log a.header.events c.requires.0 c.requires.1.0 c.requires.1.1 room a.buffer.now _ _ _ w.ensures.1 c.print_text.ensures
