use Rattle.items.proofs.Steps.{item_written}
use Rattle.items.specs.Items.{item_head}
use borrow.Author.Rules.{rules}
use Rattle.items.proofs.put_item.Goals as goal

pub copy_to-requires : goal.copy_to-requires
unfolding item_head
copy_to-requires c = search rules

pub returns : goal.returns
returns c = search item_written
