use Rattle.options.proofs.Numbers.{fcs_in_law}
use Rattle.options.proofs.fcs_in.Goals as goal

pub returns : goal.returns
returns c = search fcs_in_law
