use Rattle.names.proofs.Writing.{head_written}
use Rattle.names.proofs.put_head.Goals as goal

pub returns : goal.returns
returns c = head_written _ _ _ _ _ _ _ _ _ _ _ _ _ _ _ _ _ c.copy_to-a.ensures c.put_decimal-b.ensures c.copy_to-c.ensures c.put_counter-d.ensures c.copy_to-e.ensures c.put_way.ensures
