use Rattle.table.proofs.Chain.{link_put}
use Rattle.table.proofs.link.Goals as goal

pub returns : goal.returns
returns c = search link_put
