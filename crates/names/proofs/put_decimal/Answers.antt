use Rattle.names.proofs.Counting.{backward_start, backward_turn, backward_end}
use Rattle.names.proofs.put_decimal.Goals as goal

pub loop-to-init : goal.loop-to-init
loop-to-init c = search backward_start

pub loop-to-preserved : goal.loop-to-preserved
loop-to-preserved c = search backward_turn

pub returns : goal.returns
returns c = search backward_end
