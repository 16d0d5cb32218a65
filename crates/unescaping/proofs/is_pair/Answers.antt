use Rattle.unescaping.proofs.Pairs.{pair_if}
use Rattle.unescaping.proofs.is_pair.Goals as goal

pub returns : goal.returns
returns c = pair_if _
