use Rattle.options.proofs.Numbers.{tail_in_law}
use Rattle.options.proofs.tail_in.Goals as goal

pub returns : goal.returns
returns c = search tail_in_law
