use Rattle.letters.specs.Run.{all_lens, parts, endings, stems}
use mathlib.Core.Path.{refl}
use Rattle.letters.proofs.all_lens.Goals as goal

pub returns : goal.returns
unfolding all_lens parts endings stems
returns c = refl
