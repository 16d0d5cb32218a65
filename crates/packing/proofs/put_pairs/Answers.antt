use Rattle.packing.proofs.Twins.{low_high, part_turn, part_end}
use native.Mathlib.Omega.{arith}
use Rattle.packing.proofs.put_pairs.Goals as goal

pub loop-w-preserved : goal.loop-w-preserved
loop-w-preserved c =
    let b = low_high _ _ c.to_le_bytes.ensures (omega (arith, c.type_inv.pairs c.loop-w.w-index)) in
    part_turn _ _ _ _ _ _ c.loop-w.invariant c.loop-w-test.true _ _ b.0 b.1

pub returns : goal.returns
returns c = search part_end
