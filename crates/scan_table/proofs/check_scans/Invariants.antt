-- Reading the scans that are left ends where reading all of them does.
use mathlib.Core.Path.{◌≡◌}
use Prim.Native.Nat.{◌-◌}
use Rattle.numbers.specs.declared.Limit.TheVariants.{Table}
use Rattle.forms.specs.Forms.{place_of, rows}
use Rattle.scan_table.specs.Table.{scan_tests}
use Rattle.scan_table.proofs.check_scans.Given as goal

abbrev pub invariant-loop : goal.invariant-loop
invariant-loop l = place_of (rows l.scans scan_tests Table l.bytes l.at) ≡ place_of (rows (l.scans - l.counter) scan_tests Table l.bytes l.next)
