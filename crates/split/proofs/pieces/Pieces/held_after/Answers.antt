use Rattle.split.proofs.Tables.{held_same}
use Rattle.split.proofs.pieces.Pieces.held_after.Goals as goal

pub returns : goal.returns
returns c = search held_same
