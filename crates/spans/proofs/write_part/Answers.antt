use Rattle.spans.proofs.Buffers.{writing_room, writing_turn, writing_end, next_smaller}
use Rattle.spans.proofs.write_part.Goals as goal

pub put_span-to-requires : goal.put_span-to-requires
put_span-to-requires c = search writing_room

pub loop-wire-smaller : goal.loop-wire-smaller
loop-wire-smaller c = next_smaller _ _ _ c.next.ensures _ c.in-Some.is

pub loop-wire-preserved : goal.loop-wire-preserved
loop-wire-preserved c = search writing_turn

pub returns : goal.returns
returns c = search writing_end
