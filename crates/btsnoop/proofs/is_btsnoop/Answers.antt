use Rattle.btsnoop.proofs.Headers.{begins_short, begins_not, begins_version}
use Rattle.btsnoop.proofs.is_btsnoop.Goals as goal

pub returns-then-file-lt16 : goal.returns-then-file-lt16
returns-then-file-lt16 c = search begins_short

pub returns-then-same : goal.returns-then-same
returns-then-same c = search begins_version

pub returns-else-same : goal.returns-else-same
returns-else-same c = search begins_not
