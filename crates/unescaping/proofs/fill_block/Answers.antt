use Rattle.unescaping.proofs.Filling.{dense_long, block_dense, block_long, block_bare}
use Rattle.std.proofs.Common.{sym}
use Rattle.unescaping.proofs.fill_block.Goals as goal

pub slice_bounds-unpair-end : goal.slice_bounds-unpair-end
slice_bounds-unpair-end c = sym (dense_long _ _ c.is_dense.ensures c.if-is_dense.true)

pub unpair-requires-clause-part_len : goal.unpair-requires-clause-part_len
unpair-requires-clause-part_len c = dense_long _ _ c.is_dense.ensures c.if-is_dense.true

pub returns-then-is_dense : goal.returns-then-is_dense
returns-then-is_dense c = block_dense _ _ c.is_dense.ensures c.if-is_dense.true _ _ _ _ c.requires.long c.unpair.ensures

pub slice_bounds-block-end : goal.slice_bounds-block-end
slice_bounds-block-end c = sym (block_long _ c.requires.long)

pub copy_block-requires-clause-part_len : goal.copy_block-requires-clause-part_len
copy_block-requires-clause-part_len c = block_long _ c.requires.long

pub returns-then-is_bare : goal.returns-then-is_bare
returns-then-is_bare c = block_bare _ _ _ _ _ _ c.requires.long c.is_bare.ensures c.if-is_bare.true c.copy_block.ensures
