use Rattle.packets.proofs.Adding.{add_none, add_unasked, add_one_packet}
use Rattle.packets.proofs.add_packet.Goals as goal

pub returns-in_default : goal.returns-in_default
returns-in_default c = search add_none

pub returns-then-not-is_asked : goal.returns-then-not-is_asked
returns-then-not-is_asked c = search add_unasked

pub returns : goal.returns
returns c = search add_one_packet
