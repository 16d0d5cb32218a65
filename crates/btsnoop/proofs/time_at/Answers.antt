use Rattle.btsnoop.proofs.Records.{time_at}
use Rattle.btsnoop.proofs.time_at.Goals as goal

pub returns : goal.returns
returns c = search time_at
