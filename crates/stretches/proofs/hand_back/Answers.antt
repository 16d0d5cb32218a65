use Rattle.split.proofs.Tables.{before_less}
use Rattle.stretches.proofs.Spreading.{back_room, handed_none, handed}
use native.Mathlib.Omega.{arith}
use Rattle.stretches.proofs.hand_back.Goals as goal

pub put32-requires : goal.put32-requires
put32-requires c = search back_room

pub overflow_add-p : goal.overflow_add-p
overflow_add-p c = let h = before_less _ _ _ _ c.earlier.ensures _ c.in-Some.is in omega (arith, c.well_formed, c.ranges, c.requires.row, c.requires.chained.ends, c.requires.chained.words)

pub returns-in-Some : goal.returns-in-Some
returns-in-Some c = search handed

pub returns-in_default : goal.returns-in_default
returns-in_default c = search handed_none
