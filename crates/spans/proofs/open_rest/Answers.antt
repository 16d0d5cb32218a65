use Rattle.spans.proofs.Scans.{open_held, open_self}
use Rattle.spans.proofs.open_rest.Goals as goal

pub returns-then-h-gt0 : goal.returns-then-h-gt0
returns-then-h-gt0 c = search open_held

pub returns : goal.returns
returns c = search open_self
