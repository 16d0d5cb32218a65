use Rattle.names.proofs.Naming.{looks}
use Rattle.names.proofs.look_at.Goals as goal

pub returns : goal.returns
returns c = rw c.ok.ensures.value (looks _ _ c.inspect.ensures)
