use borrow.Author.Rules.{rules}
use Rattle.gaps.proofs.tell_gaps.Goals as goal

pub returns : goal.returns
returns c = search rules
