use Rattle.unescaping.proofs.Filling.{fill_turn}
use Rattle.unescaping.proofs.fill_few.Goals as goal

pub loop-k-preserved : goal.loop-k-preserved
loop-k-preserved c = fill_turn _ _ _ _ _ _ _ c.loop-k.invariant c.loop-k-test.true _ c.get-g.ensures
