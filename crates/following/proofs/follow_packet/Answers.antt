use Rattle.following.proofs.Showing.{turn_show, turn_done}
use Rattle.following.proofs.follow_packet.Goals as goal

pub show-signs-requires : goal.show-signs-requires
show-signs-requires c = search turn_show

pub returns : goal.returns
returns c = search turn_done
