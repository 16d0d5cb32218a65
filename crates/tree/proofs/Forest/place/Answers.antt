use Rattle.tree.proofs.Index.{seeking_start, seeking_none, seeking_turn}
use Rattle.tree.proofs.Forest.place.Goals as goal

pub loop-i-init : goal.loop-i-init
loop-i-init c = search seeking_start

pub returns-in_default : goal.returns-in_default
returns-in_default c = search seeking_none

pub loop-i-preserved : goal.loop-i-preserved
loop-i-preserved c = search seeking_turn
