use Rattle.letters.proofs.Stems.{trying_start, trying_yes, trying_turn, trying_end}
use Rattle.letters.proofs.is_command_name.Goals as goal

pub loop-stem-init : goal.loop-stem-init
loop-stem-init c = search trying_start

pub returns-then-is_named_from : goal.returns-then-is_named_from
returns-then-is_named_from c = search trying_yes

pub loop-stem-preserved : goal.loop-stem-preserved
loop-stem-preserved c = search trying_turn

pub returns : goal.returns
returns c = search trying_end
