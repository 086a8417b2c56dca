-- The table is read into room that is enough for every table, and then asked.
use mathlib.Core.Path.{◌≡◌, sym, ap, ◌∙◌}
use Prim.Native.Nat.{ℕ, ◌*◌, ◌≤◌}
use lib.ListN.{take}
use native.Mathlib.Omega.{arith}
use borrow.Author.Rules.{rules}
use Rattle.std.specs.Prelude.{Err}
use Rattle.std.proofs.lemmas.List.{length-take}
use Rattle.choice.proofs.RefusalLaws.{no-numbered}
use Rattle.sets.specs.Scans.{most_scans}
use Rattle.scan_table.specs.Table.{read_table}
use Rattle.shelf.proofs.Asking.{written-most, written-asked, written-refused, asked-written}
use Rattle.shelf.proofs.where_is_written.Goals as goal
use Rattle.shelf.proofs.where_is_written.Goals.{In_ok-scans}

-- the scans of a table that was read are few
few : (c : In_ok-scans) → c.in_ok-scans.scans ≤ 64
unfolding most_scans
few c = written-most c.args.bytes.now _ (sym c.in_ok-scans.ensures.0)

pub overflow_mul-room : goal.overflow_mul-room
overflow_mul-room c = omega (arith, few (goal.at.overflow_mul-room c).In_ok-scans)

pub slice_bounds-room-end : goal.slice_bounds-room-end
slice_bounds-room-end c = omega (arith, few (goal.at.slice_bounds-room-end c).In_ok-scans)

pub slice_bounds-ask_of-end : goal.slice_bounds-ask_of-end
slice_bounds-ask_of-end c = omega (arith, few (goal.at.slice_bounds-ask_of-end c).In_ok-scans, length-take {A = ℕ})

pub ask_of-requires : goal.ask_of-requires
ask_of-requires c = omega (arith, few (goal.at.ask_of-requires c).In_ok-scans, length-take {A = ℕ})

pub returns-in_err-scans : goal.returns-in_err-scans
unfolding most_scans
returns-in_err-scans c = let a = c.args in
    let r = c.in_err-scans.field-0.0 in
    let p : c.from_residual.result ≡ Err r = search rules in
    rw p (asked-written (read_table a.bytes.now) a.set a.tag (written-refused a.bytes.now _ a.set a.tag _ (omega arith) (sym c.in_err-scans.ensures.0)))

pub returns : goal.returns
returns c = let a = c.args in
    let e = sym c.in_ok-scans.ensures.0 in
    rw (no-numbered c.ask_of.result) at (asked-written (read_table a.bytes.now) a.set a.tag
    (c.ask_of.ensures.0 ∙ written-asked a.bytes.now _ a.set a.tag _ _ e (ap (take (c.in_ok-scans.scans * 4)) c.read_table.ensures.1)))
