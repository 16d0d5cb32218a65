use Rattle.letters.specs.Run.{all_letters, parts, endings, stems, inner}
use Rattle.laws.specs.Keys.{eq_k}
use mathlib.Core.Path.{refl}
use Rattle.letters.proofs.all_letters.Goals as goal

pub returns : goal.returns
unfolding all_letters parts endings stems inner eq_k
returns c = refl
