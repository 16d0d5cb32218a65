use Rattle.order.proofs.Turning.{put_ends}
use Rattle.order.proofs.put_before.Goals as goal

pub returns : goal.returns
returns c = put_ends _ _ _ _ _ c.requires.long c.put_item.ensures
