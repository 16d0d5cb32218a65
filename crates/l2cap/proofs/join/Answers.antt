use Rattle.l2cap.proofs.Finishing.{join_is}
use Rattle.l2cap.proofs.join.Goals as goal

pub returns : goal.returns
returns c = join_is _ _ _ _ _ _ _ c.requires _ c.split_at_mut-area.ensures.front _ c.split_at_mut-area.ensures.back _ _ c.gather.ensures
