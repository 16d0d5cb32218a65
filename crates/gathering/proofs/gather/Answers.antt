use Rattle.gathering.proofs.Gathering.{gathers}
use Rattle.gathering.proofs.gather.Goals as goal

pub returns : goal.returns
returns c = search gathers
