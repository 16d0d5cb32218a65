use Rattle.letters.specs.Run.{all_pairs, parts, part_at, ending_in, endings, stems, begins}
use Rattle.commands.specs.Numbers.{all_names, commands, others}
use Rattle.commands.specs.Labels.{type_name}
use Rattle.commands.specs.Commands.{t1, t2}
use Rattle.laws.specs.Keys.{eq_k}
use mathlib.Core.Path.{refl}
use Rattle.letters.proofs.all_pairs.Goals as goal

pub returns : goal.returns
unfolding all_pairs all_names commands others type_name t1 t2 parts endings stems part_at ending_in begins eq_k
returns c = refl
