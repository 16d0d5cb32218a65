use Rattle.writing.proofs.Writing.{write_none, write_first, write_wrote}
use Rattle.writing.proofs.write_piece.Goals as goal

pub returns-then-e-length_of : goal.returns-then-e-length_of
returns-then-e-length_of c = search write_none

pub write_first-f-requires : goal.write_first-f-requires
write_first-f-requires c = search write_first

pub returns : goal.returns
returns c = search write_wrote
