-- The clock rule of document 01, "Clock and shelf", over whole numbers.
use Rattle.std.specs.Prelude.{ℕ, ◌+◌, ◌-◌, ◌%◌, ◌^◌, ◌==◌, nat_le, Result, Ok, Err}
use Rattle.std.specs.Prelude.{if◌then◌else◌}
use Rattle.choice.specs.Tests.{◌unless◌, ◌⨾◌, ok}

-- age is dock tick less scan tick, modulo 4,294,967,296
unfoldable pub age : ℕ → ℕ → ℕ
age dock_tick scan_tick = (dock_tick + 2 ^ 32 - scan_tick) % 2 ^ 32

-- 9: a dock time above 2 ^ 48 - 1, or an age above the dock time
unfoldable pub clock_rule_no : ℕ → ℕ → ℕ → ℕ
clock_rule_no dock_tick scan_tick dock_time =
    9 unless nat_le dock_time (2 ^ 48 - 1)
    ⨾ 9 unless nat_le (age dock_tick scan_tick) dock_time
    ⨾ ok

-- a scan's time, or refusal 9
abbrev pub ScanTime : Type 0
ScanTime = Result ℕ ℕ

-- scan time is dock time less age, unless that refuses
unfoldable pub clock_rule : ℕ → ℕ → ℕ → ScanTime
clock_rule dock_tick scan_tick dock_time =
    if clock_rule_no dock_tick scan_tick dock_time == 0
    then Ok (dock_time - age dock_tick scan_tick)
    else Err 9

-- the time that an answer gives, or what stood there before
abbrev pub clock_time : ScanTime → ℕ → ℕ
clock_time (Ok time) old = time
clock_time (Err n) old = old
