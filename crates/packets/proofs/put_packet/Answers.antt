use Rattle.packets.proofs.Adding.{put_all}
use Rattle.packets.proofs.put_packet.Goals as goal

pub returns : goal.returns
returns c = put_all _ _ _ _ _ _ _ _ _ _ c.put32.ensures c.from.ensures c.put32-2.ensures c.put32-3.ensures c.put32-4.ensures c.put64.ensures
