use Rattle.spans.proofs.Buffers.{counting_room, counting_turn, counting_end, next_smaller}
use Rattle.spans.proofs.count_part.Goals as goal

pub add_span-sum-requires : goal.add_span-sum-requires
add_span-sum-requires c = search counting_room

pub loop-wire-smaller : goal.loop-wire-smaller
loop-wire-smaller c = next_smaller _ _ _ c.next.ensures _ c.in-Some.is

pub loop-wire-preserved : goal.loop-wire-preserved
loop-wire-preserved c = search counting_turn

pub returns : goal.returns
returns c = search counting_end
