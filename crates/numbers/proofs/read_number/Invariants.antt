-- The loop's invariant: reading on with what the groups so far came to gives what reading from the start gives.
use Rattle.std.proofs.Common.{◌≡◌, false, ◌+◌, ◌<◌, ◌-◌, ◌^◌, ltb, drop}
use Rattle.numbers.specs.Coding.{groups_of, most_of, groups_from}
use Rattle.numbers.proofs.read_number.Given as goal

abbrev pub invariant-loop-earlier : goal.invariant-loop-earlier
invariant-loop-earlier l =
    (l.weight ≡ 128 ^ l.earlier)
    × (l.low < l.weight)
    × (groups_from (groups_of l.fn.limit) false (most_of l.fn.limit) 0 1 (drop l.at l.bytes) l.at
    ≡ groups_from (groups_of l.fn.limit - l.earlier) (ltb 0 l.earlier) (most_of l.fn.limit) l.low l.weight (drop l.earlier l.rest) (l.at + l.earlier))
