use Rattle.gathering.proofs.CountTable.{up_fits, counted_up}
use native.Mathlib.Omega.{arith}
use Rattle.gathering.proofs.count_up.Goals as goal

pub overflow_add-n : goal.overflow_add-n
overflow_add-n c = let h = up_fits _ _ _ c.requires _ _ c.seat-s.ensures _ c.get32-n.ensures in omega arith

pub returns : goal.returns
returns c = counted_up _ _ _ c.requires _ _ c.seat-s.ensures _ c.get32-n.ensures _ c.put32.ensures
