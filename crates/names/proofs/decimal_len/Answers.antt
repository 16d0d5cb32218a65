use Rattle.names.proofs.Counting.{counted}
use Rattle.names.proofs.decimal_len.Goals as goal

pub returns : goal.returns
returns c = search counted
