use Rattle.items.proofs.Steps.{span_written}
use Rattle.items.specs.Items.{item_head}
use borrow.Author.Rules.{rules}
use Rattle.items.proofs.put_span.Goals as goal

pub put_le-place-requires : goal.put_le-place-requires
unfolding item_head
put_le-place-requires c = search rules

pub copy_to-requires : goal.copy_to-requires
unfolding item_head
copy_to-requires c = search rules

pub returns : goal.returns
returns c = search span_written
