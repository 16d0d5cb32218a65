use Rattle.measuring.proofs.Counts.{sign_from}
use native.Mathlib.Omega.{arith}
use Rattle.measuring.proofs.count_open.Goals as goal

pub overflow_sub-result : goal.overflow_sub-result
overflow_sub-result c = omega (arith, c.requires.less, sign_from _ _ c.from-after.ensures, sign_from _ _ c.from-before.ensures)

pub returns : goal.returns
returns c = omega (arith, sign_from _ _ c.from-after.ensures, sign_from _ _ c.from-before.ensures)
