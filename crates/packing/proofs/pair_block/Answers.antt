use Rattle.packing.proofs.Twins.{twins_room, twins_wrote}
use Rattle.packing.proofs.pair_block.Goals as goal

pub put_pairs-requires : goal.put_pairs-requires
put_pairs-requires c = search twins_room

pub returns : goal.returns
returns c = search twins_wrote
