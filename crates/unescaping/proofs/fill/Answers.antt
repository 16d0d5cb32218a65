use Rattle.unescaping.proofs.Filling.{fill_blocks, fill_rest}
use Rattle.std.proofs.Common.{arith}
use Rattle.unescaping.proofs.fill.Goals as goal

pub loop-b-preserved : goal.loop-b-preserved
loop-b-preserved c = fill_blocks _ _ _ _ _ _ c.loop-b.invariant c.loop-b-test.true _ _ c.fill_block-more.ensures

pub returns : goal.returns
returns c = fill_rest _ _ _ _ _ _ c.loop-b.invariant (omega (arith, c.loop-b-test.false, c.loop-b.auto)) _ _ c.fill_few.ensures
