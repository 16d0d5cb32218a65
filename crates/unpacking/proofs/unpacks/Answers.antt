use Rattle.unpacking.proofs.Answers.{unpacks_is}
use Rattle.unpacking.proofs.unpacks.Goals as goal

pub returns : goal.returns
returns c = rw c.is_ok.ensures.value (unpacks_is _ _ c.read_frame.ensures)
