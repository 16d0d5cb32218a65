use Rattle.split.proofs.Gathers.{whole_work, whole_file}
use Rattle.split.proofs.pieces.Pieces.piece.Goals as goal

pub returns-then-is_joined : goal.returns-then-is_joined
returns-then-is_joined c = search whole_work

pub returns : goal.returns
returns c = search whole_file
