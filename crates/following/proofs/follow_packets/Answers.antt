use Rattle.following.proofs.Walking.{follow_start, follow_pre, follow_again, follow_end}
use Rattle.following.proofs.follow_packets.Goals as goal

pub loop-r-init : goal.loop-r-init
loop-r-init c = rw c.into_iter-r-iterator.ensures.into_iter_gives (search follow_start)

pub follow_record-s-requires : goal.follow_record-s-requires
follow_record-s-requires c = search follow_pre

pub loop-r-preserved : goal.loop-r-preserved
loop-r-preserved c = search follow_again

pub returns : goal.returns
returns c = search follow_end
