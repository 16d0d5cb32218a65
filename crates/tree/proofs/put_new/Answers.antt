use Rattle.tree.proofs.Index.{new_put}
use Rattle.tree.proofs.put_new.Goals as goal

pub returns : goal.returns
returns c = search new_put
