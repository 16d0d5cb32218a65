use Rattle.spans.proofs.Scans.{first_counted}
use Rattle.spans.proofs.count_first.Goals as goal

pub returns-then-begins : goal.returns-then-begins
returns-then-begins c = search first_counted
