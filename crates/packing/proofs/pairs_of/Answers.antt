use Rattle.packing.proofs.Twins.{full_least, twin_turn, twin_end}
use native.Mathlib.Omega.{arith}
use Rattle.packing.proofs.pairs_of.Goals as goal

pub overflow_sub-part : goal.overflow_sub-part
overflow_sub-part c = search full_least

pub loop-i-preserved : goal.loop-i-preserved
loop-i-preserved c = twin_turn _ _ _ _ c.loop-i.invariant c.requires.part_len c.loop-i-test.true _ (omega (arith, c.from_le_bytes.ensures))

pub returns : goal.returns
returns c = search twin_end
