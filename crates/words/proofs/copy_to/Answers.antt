use Rattle.words.proofs.Parts.{all_parts}
use Rattle.words.proofs.copy_to.Goals as goal

pub returns-then-n-lt16 : goal.returns-then-n-lt16
returns-then-n-lt16 c = search all_parts

pub returns-then-n-lt48 : goal.returns-then-n-lt48
returns-then-n-lt48 c = search all_parts
