use Rattle.std.proofs.Common.{refl}
use Rattle.packing.proofs.Escapes.{frame_room, pack_long, pack_short, pack_wrote}
use Rattle.packing.proofs.pack.Goals as goal

pub returns-then-n-gt32760 : goal.returns-then-n-gt32760
returns-then-n-gt32760 c = search pack_long

pub returns-then-out-needed : goal.returns-then-out-needed
returns-then-out-needed c = search pack_short

pub write_frame-requires : goal.write_frame-requires
write_frame-requires c = frame_room _ _ c.args.payload.now _ _ _ _ _ c.head_of-head.ensures c.tally_few-h.ensures c.tally-t.ensures refl _ c.is_within.ensures c.from-more.ensures c.args.out.now c.if-out-needed.false

pub returns : goal.returns
returns c = search pack_wrote
