use Rattle.names.proofs.Writing.{part_written}
use Rattle.names.proofs.put_part.Goals as goal

pub returns : goal.returns
returns c = search part_written
