-- How the calls pass sets, limits, sizes and tests as numbers.
use Rattle.std.specs.Prelude.{Bool, true, false, Result, Ok, Err, List, ℕ, eqb, get_or}
use Rattle.std.specs.Prelude.{if◌then◌else◌}
use Rattle.sets.specs.Scans.{of_first_word}
use Rattle.sets.specs.declared.scans.Scans.{Scans}
use Rattle.sets.specs.declared.acceptors.Acceptors.{Acceptors}
use Rattle.numbers.specs.declared.Limit.{Limit}
use Rattle.numbers.specs.declared.Limit.TheVariants.{Schedule, Table}
use Rattle.sizes.specs.declared.Sizes.{Sizes}

abbrev pub scans_of : ℕ → Scans
scans_of n = of_first_word n

abbrev pub acceptors_of : ℕ → Acceptors
acceptors_of n = record { bits = n }

abbrev pub bit : Bool → ℕ
bit true = 1
bit false = 0

abbrev pub limit_of : ℕ → Limit
limit_of n = if eqb n 0 then Schedule else Table

abbrev pub sizes_of : List ℕ → Sizes
sizes_of five = record {
  proposers = get_or five 0 0;
  acceptors = get_or five 1 0;
  learners = get_or five 2 0;
  slots = get_or five 3 0;
  scans = get_or five 4 0;
}

-- the value that an answer gives, or what stood there before
abbrev pub value_or : {T : Type 0} → Result T ℕ → T → T
value_or (Ok x) old = x
value_or (Err r) old = old
