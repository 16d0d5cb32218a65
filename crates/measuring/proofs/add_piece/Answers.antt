use Rattle.measuring.proofs.Counting.{added_is, added_none}
use Rattle.measuring.proofs.add_piece.Goals as goal

pub returns-then-h-n-eq0 : goal.returns-then-h-n-eq0
returns-then-h-n-eq0 c = search added_none

pub returns : goal.returns
returns c = search added_is
