use Rattle.unpacking.proofs.Judging.{last_plain, last_escaped, last_fits}
use native.Mathlib.Omega.{arith}
use Rattle.unpacking.proofs.last_byte.Goals as goal

pub overflow_add-result : goal.overflow_add-result
overflow_add-result c = omega (arith, last_fits _ c.requires.in_bounds c.requires.sound c.if-s-n-eq61.true)

pub returns-then-s-n-eq61 : goal.returns-then-s-n-eq61
returns-then-s-n-eq61 c = search last_escaped

pub returns-else-s-n-eq61 : goal.returns-else-s-n-eq61
returns-else-s-n-eq61 c = search last_plain
