use Rattle.leftover.proofs.Meeting.{leaving_start, leaving_pre, leaving_turn, leaving_end}
use Rattle.leftover.proofs.left_open.Goals as goal

pub loop-r-init : goal.loop-r-init
loop-r-init c =
    rw c.into_iter-r-iterator.ensures.into_iter_gives (search leaving_start)

pub meet-m-requires : goal.meet-m-requires
meet-m-requires c = search leaving_pre

pub loop-r-preserved : goal.loop-r-preserved
loop-r-preserved c = search leaving_turn

pub returns : goal.returns
returns c = search leaving_end
