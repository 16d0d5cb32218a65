use Rattle.words.proofs.Parts.{two_parts}
use Rattle.words.proofs.copy_short.Goals as goal

pub returns-then-n-lt8 : goal.returns-then-n-lt8
returns-then-n-lt8 c = search two_parts

pub returns : goal.returns
returns c = search two_parts
