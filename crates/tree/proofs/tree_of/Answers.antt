use Rattle.tree.proofs.Index.{tree_is}
use Rattle.tree.proofs.tree_of.Goals as goal

pub returns : goal.returns
returns c = search tree_is
