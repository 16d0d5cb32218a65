use Rattle.items.proofs.Steps.{over, under}
use Rattle.items.proofs.check.Goals as goal

pub returns-then-list-gt-MOST : goal.returns-then-list-gt-MOST
returns-then-list-gt-MOST c = search over

pub returns : goal.returns
returns c = search under
