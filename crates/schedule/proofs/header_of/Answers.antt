-- `schedule::header_of` meets its contract: each of the six numbers is below 65,536, so that no cast loses bits. Assumes nothing.
use native.Mathlib.Omega.{arith}
use mathlib.Core.Path.{refl}
use Rattle.schedule.specs.Schedule.{header_of}
use Rattle.schedule.proofs.header_of.Goals as goal

pub overflow_cast-sizes : goal.overflow_cast-sizes
overflow_cast-sizes c = omega (arith, c.requires 0)

pub overflow_cast-sizes-2 : goal.overflow_cast-sizes-2
overflow_cast-sizes-2 c = omega (arith, c.requires 1)

pub overflow_cast-sizes-3 : goal.overflow_cast-sizes-3
overflow_cast-sizes-3 c = omega (arith, c.requires 2)

pub overflow_cast-sizes-4 : goal.overflow_cast-sizes-4
overflow_cast-sizes-4 c = omega (arith, c.requires 3)

pub overflow_cast-sizes-5 : goal.overflow_cast-sizes-5
overflow_cast-sizes-5 c = omega (arith, c.requires 4)

pub overflow_cast-result : goal.overflow_cast-result
overflow_cast-result c = omega (arith, c.requires 5)

pub returns : goal.returns
unfolding header_of
returns c = refl
