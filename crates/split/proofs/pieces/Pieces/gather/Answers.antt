use Rattle.split.proofs.Gathers.{gathering_none, gathering_row, gathering_put, gathering_less, gathering_turn, gathering_end}
use Rattle.split.proofs.pieces.Pieces.gather.Goals as goal

pub returns-in_default : goal.returns-in_default
returns-in_default c = search gathering_none

pub length_of-n-requires : goal.length_of-n-requires
length_of-n-requires c = search gathering_row

pub put_part-requires : goal.put_part-requires
put_part-requires c = search gathering_put

pub loop-left-smaller : goal.loop-left-smaller
loop-left-smaller c = search gathering_less

pub loop-left-preserved : goal.loop-left-preserved
loop-left-preserved c = search gathering_turn

pub returns : goal.returns
returns c = search gathering_end
