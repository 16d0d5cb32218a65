use Rattle.unescaping.proofs.Flaws.{break_end}
use Rattle.unescaping.proofs.count_breaks.Goals as goal

pub returns : goal.returns
returns c = search break_end
