use Rattle.recorded.proofs.Looking.{look_done}
use Rattle.recorded.proofs.look_at.Goals as goal

pub returns : goal.returns
returns c = search look_done
