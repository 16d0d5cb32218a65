use Rattle.packing.proofs.Escapes.{bare_space, bare_turn, mixed_turn}
use Rattle.packing.proofs.escape_at.Goals as goal

pub copy_block-at-requires-clause-at_in_bounds : goal.copy_block-at-requires-clause-at_in_bounds
copy_block-at-requires-clause-at_in_bounds c = bare_space _ _ _ _ _ _ c.loop-rest.invariant 16 c.loop-rest-test.true c.requires

pub loop-rest-preserved-then-is_bare : goal.loop-rest-preserved-then-is_bare
loop-rest-preserved-then-is_bare c = bare_turn _ _ _ _ _ _ c.loop-rest.invariant 16 _ c.is_bare.ensures c.if-is_bare.true _ _ c.copy_block-at.ensures

pub loop-rest-preserved : goal.loop-rest-preserved
loop-rest-preserved c = mixed_turn _ _ _ _ _ _ c.loop-rest.invariant _ _ c.escape_mixed-r.ensures
