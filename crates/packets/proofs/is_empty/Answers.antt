use Rattle.packets.proofs.Adding.{empty_short, empty_room, empty_is}
use Rattle.packets.proofs.is_empty.Goals as goal

pub returns-then-trace-at : goal.returns-then-trace-at
returns-then-trace-at c = search empty_short

pub size_at-requires : goal.size_at-requires
size_at-requires c = search empty_room

pub returns : goal.returns
returns c = search empty_is
