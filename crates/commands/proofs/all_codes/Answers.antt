use Rattle.commands.specs.Numbers.{all_codes}
use Rattle.commands.specs.Commands.{t1, t2}
use mathlib.Core.Path.{refl}
use Rattle.commands.proofs.all_codes.Goals as goal

pub returns : goal.returns
unfolding all_codes t1 t2
returns c = refl
