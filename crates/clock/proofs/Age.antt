-- What the age of a scan is, and when the clock rule gives the true time. Assumes nothing.
use Rattle.std.proofs.Common.{◌≡◌, ℕ, ◌+◌, ◌-◌, ◌%◌, ◌^◌, ◌<◌, ◌≤◌, arith, le-leb, Ok}
use Rattle.clock.specs.Clock.{age, clock_rule_no, clock_rule}

-- the number that wraps back from the scan's tick to the dock's is the age
pub age-is : (dock scan r : ℕ) → dock < 2 ^ 32 → scan < 2 ^ 32 → r < 2 ^ 32 → (r + scan) % 2 ^ 32 ≡ dock → age dock scan ≡ r
unfolding age
age-is dock scan r hd hs hr e = omega arith

-- the tick of a handheld that has run for so many milliseconds
abbrev pub tick : ℕ → ℕ
tick ran = ran % 2 ^ 32

-- the age by the ticks is the true age, if that is below 2 ^ 32 ms
pub true-age : (ran old : ℕ) → old < 2 ^ 32 → age (tick (ran + old)) (tick ran) ≡ old
unfolding age
true-age ran old h = omega arith

-- a scan made at `ran` milliseconds of the handheld and docked `old` milliseconds later, at `time`: the rule gives the true time
pub true-time : (ran old time : ℕ) → old < 2 ^ 32 → old ≤ time → time ≤ 2 ^ 48 - 1
    → clock_rule (tick (ran + old)) (tick ran) time ≡ Ok (time - old)
unfolding clock_rule clock_rule_no
true-time ran old time h l t = simp (true-age ran old h, le-leb time (2 ^ 48 - 1) t, le-leb old time l)
