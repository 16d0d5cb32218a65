use Rattle.l2cap.specs.Steps.{row_at}
use borrow.Author.Rules.{rules}
use Rattle.l2cap.proofs.row_of.Goals as goal

pub returns : goal.returns
unfolding row_at
returns c = search rules
