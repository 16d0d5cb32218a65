use Rattle.spans.proofs.Scans.{added_known}
use Rattle.spans.proofs.add_behind.Goals as goal

pub returns-then-t-gt0 : goal.returns-then-t-gt0
returns-then-t-gt0 c = search added_known
