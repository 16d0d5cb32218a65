use Rattle.options.specs.Numbers.{fcs_number}
use mathlib.Core.Path.{refl}
use Rattle.options.proofs.fcs_of.Goals as goal

pub returns : goal.returns
unfolding fcs_number
returns c = refl
