-- The first refusal of the scans that are left is that of all.
use Rattle.std.proofs.Common.{◌≡◌}
use Rattle.forms.specs.Forms.{rows_no}
use Rattle.scan_table.specs.Table.{scans_in, tests_of}
use Rattle.scan_table.proofs.check_records.Given as goal

abbrev pub invariant-loop-four : goal.invariant-loop-four
invariant-loop-four l = let rest = l.four-iterator.rest.now in
    (l.four-iterator.size ≡ 4) × (rows_no (scans_in l.fields) (tests_of l.tests) l.fields ≡ rows_no (scans_in rest) (tests_of l.tests) rest)
