use Rattle.options.proofs.Numbers.{tail_strict, tail_tolerant}
use Rattle.options.proofs.tail_of.Goals as goal

pub returns-in-0 : goal.returns-in-0
returns-in-0 c = search tail_strict

pub returns-in_default : goal.returns-in_default
returns-in_default c = search tail_tolerant
