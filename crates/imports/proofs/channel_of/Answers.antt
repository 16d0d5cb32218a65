use Rattle.imports.proofs.NumberLaws.{channel_law}
use Rattle.imports.proofs.channel_of.Goals as goal

pub returns : goal.returns
returns c = rw c.ok.ensures.value (channel_law _ _ c.try_from.ensures)
