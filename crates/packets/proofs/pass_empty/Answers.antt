use Rattle.packets.proofs.Adding.{pass_less, pass_turn}
use Rattle.packets.proofs.pass_empty.Goals as goal

pub loop-i-smaller : goal.loop-i-smaller
loop-i-smaller c = search pass_less

pub loop-i-preserved : goal.loop-i-preserved
loop-i-preserved c = search pass_turn
