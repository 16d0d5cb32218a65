use Rattle.split.proofs.Lasts.{capped_small, capped_large}
use native.Mathlib.Omega.{arith}
use Rattle.measuring.proofs.capped.Goals as goal

pub returns-then-n-gt65536 : goal.returns-then-n-gt65536
returns-then-n-gt65536 c = capped_large _ (omega arith)

pub returns-else-n-gt65536 : goal.returns-else-n-gt65536
returns-else-n-gt65536 c = capped_small _ (omega arith)
