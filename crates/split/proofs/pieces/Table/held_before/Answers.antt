use Rattle.split.proofs.Tables.{before_less, held_none, held_newest}
use native.Mathlib.Omega.{arith}
use Rattle.split.proofs.pieces.Table.held_before.Goals as goal

pub held_after-requires : goal.held_after-requires
held_after-requires c = let h = before_less _ _ _ _ c.earlier.ensures _ c.in-Some.is in omega (arith, c.requires)

pub returns-in-Some : goal.returns-in-Some
returns-in-Some c = held_newest _ _ _ _ c.earlier.ensures _ c.in-Some.is _ c.held_after.ensures

pub returns-in-None : goal.returns-in-None
returns-in-None c = held_none _ _ _ _ c.earlier.ensures c.in-None.is
