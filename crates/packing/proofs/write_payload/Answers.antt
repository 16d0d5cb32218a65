use Rattle.packing.proofs.Escapes.{bare_as, bare_room}
use Rattle.packing.proofs.write_payload.Goals as goal

pub copy_to-requires : goal.copy_to-requires
copy_to-requires c = search bare_room

pub returns-then-p : goal.returns-then-p
returns-then-p c = search bare_as
