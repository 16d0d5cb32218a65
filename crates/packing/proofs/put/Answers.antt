use Rattle.std.proofs.Common.{arith}
use Rattle.packing.proofs.Escapes.{put_least}
use Rattle.packing.proofs.put.Goals as goal

pub overflow_sub-out : goal.overflow_sub-out
overflow_sub-out c = omega (arith, put_least _ _ c.is_within.ensures c.if-is_within.true)
