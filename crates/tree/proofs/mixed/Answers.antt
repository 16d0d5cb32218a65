use mathlib.Core.Path.{refl}
use Rattle.tree.specs.Tree.{mix_of}
use Rattle.tree.proofs.mixed.Goals as goal

pub returns : goal.returns
unfolding mix_of
returns c = refl
