use Rattle.packing.proofs.Escapes.{room_1, room_2, room_3, whole}
use Rattle.packing.proofs.write_frame.Goals as goal

pub start_frame-a-requires : goal.start_frame-a-requires
start_frame-a-requires c = search room_1

pub write_payload-b-requires : goal.write_payload-b-requires
write_payload-b-requires c = search room_2

pub end_frame-requires : goal.end_frame-requires
end_frame-requires c = search room_3

pub returns : goal.returns
returns c = search whole
