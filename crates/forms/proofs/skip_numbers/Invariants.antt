-- The loop's invariant: reading the numbers that are left ends where reading all of them does.
use Rattle.std.proofs.Common.{◌≡◌, ◌-◌}
use Rattle.forms.specs.Forms.{place_of, plain}
use Rattle.forms.proofs.skip_numbers.Given as goal

abbrev pub invariant-loop : goal.invariant-loop
invariant-loop l = place_of (plain l.count l.limit l.bytes l.at) ≡ place_of (plain (l.count - l.counter) l.limit l.bytes l.next)
