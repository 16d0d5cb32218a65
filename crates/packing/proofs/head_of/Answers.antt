use Rattle.packing.proofs.Escapes.{head_bytes}
use Rattle.packing.proofs.head_of.Goals as goal

pub returns : goal.returns
returns c = head_bytes _ _ _ _ c.to_be_bytes.ensures
