use Rattle.items.specs.Items.{item_head}
use Rattle.laws.proofs.Stores.{writes_then}
use Rattle.items.proofs.put_head.Goals as goal

pub returns : goal.returns
unfolding item_head
returns c = search writes_then
