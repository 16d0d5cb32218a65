use Rattle.options.proofs.Numbers.{container_in_law}
use Rattle.options.proofs.container_in.Goals as goal

pub returns : goal.returns
returns c = search container_in_law
