use Rattle.names.proofs.Counting.{zeros_written}
use Rattle.names.proofs.put_zeros.Goals as goal

pub returns : goal.returns
returns c = search zeros_written
