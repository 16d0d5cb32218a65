use Rattle.packets.proofs.Adding.{walk_start, walk_pass, walk_turn, ended}
use Rattle.packets.proofs.read_packets.Goals as goal

pub loop-r-init : goal.loop-r-init
loop-r-init c = search walk_start

pub loop-r-preserved-then-r-head : goal.loop-r-preserved-then-r-head
loop-r-preserved-then-r-head c = search walk_pass

pub loop-r-preserved : goal.loop-r-preserved
loop-r-preserved c = search walk_turn

pub returns : goal.returns
returns c = search ended
