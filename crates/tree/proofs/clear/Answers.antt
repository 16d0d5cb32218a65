use Rattle.tree.proofs.Index.{cleared}
use Rattle.tree.proofs.clear.Goals as goal

pub returns : goal.returns
returns c = search cleared
