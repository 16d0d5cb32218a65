use Rattle.btsnoop.proofs.Records.{size_at}
use Rattle.btsnoop.proofs.record_size.Goals as goal

pub returns : goal.returns
returns c = search size_at
