use Rattle.blocks.proofs.Copying.{copy_through}
use Rattle.blocks.proofs.copy_block.Goals as goal

pub returns : goal.returns
returns c = search copy_through
