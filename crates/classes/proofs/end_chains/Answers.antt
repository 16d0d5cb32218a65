use Rattle.classes.proofs.Chains.{ending_turn}
use Rattle.classes.proofs.end_chains.Goals as goal

pub loop-i-preserved : goal.loop-i-preserved
loop-i-preserved c = search ending_turn
