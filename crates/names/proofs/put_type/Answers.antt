use Rattle.names.proofs.Writing.{type_written}
use Rattle.names.proofs.put_type.Goals as goal

pub returns : goal.returns
returns c = search type_written
