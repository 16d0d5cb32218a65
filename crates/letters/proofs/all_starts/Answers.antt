use Rattle.letters.specs.Run.{all_letters, all_starts, parts, endings, stems, inner, begins}
use Rattle.laws.specs.Keys.{eq_k}
use mathlib.Core.Path.{refl}
use Rattle.letters.proofs.all_starts.Goals as goal

pub returns : goal.returns
unfolding all_starts all_letters parts endings stems inner begins eq_k
returns c = refl
