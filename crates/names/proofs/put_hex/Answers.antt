use Rattle.names.proofs.Counting.{hex_written}
use Rattle.names.proofs.put_hex.Goals as goal

pub returns : goal.returns
returns c = search hex_written
