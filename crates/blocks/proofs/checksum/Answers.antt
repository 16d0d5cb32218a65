use Rattle.blocks.proofs.Counting.{sum_start, sum_turn, sum_end}
use Rattle.blocks.proofs.checksum.Goals as goal

pub returns : goal.returns
returns c = search sum_end
