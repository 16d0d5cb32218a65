use Rattle.spans.proofs.Scans.{from_none}
use Rattle.spans.proofs.count_from.Goals as goal

pub returns-then-skip-part : goal.returns-then-skip-part
returns-then-skip-part c = search from_none
