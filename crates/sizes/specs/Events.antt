-- How many events a schedule has at most, and so a run.
use Rattle.std.specs.Prelude.{ℕ}

abbrev pub most_events : ℕ
most_events = 4_096
