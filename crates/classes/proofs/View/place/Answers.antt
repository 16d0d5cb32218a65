use Rattle.classes.proofs.Walking.{seeking_start, seeking_none, seeking_hit, seeking_turn}
use Rattle.classes.proofs.View.place.Goals as goal

pub loop-j-init : goal.loop-j-init
loop-j-init c = search seeking_start

pub returns-in_default : goal.returns-in_default
returns-in_default c = search seeking_none

pub loop-j-preserved : goal.loop-j-preserved
loop-j-preserved c = search seeking_turn

pub returns-then-has_key : goal.returns-then-has_key
returns-then-has_key c = search seeking_hit
