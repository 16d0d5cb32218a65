use Rattle.spans.proofs.Scans.{first_before_last}
use Rattle.spans.proofs.first_end.Goals as goal

pub returns : goal.returns
returns c = search first_before_last
