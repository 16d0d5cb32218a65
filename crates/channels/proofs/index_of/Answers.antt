use Rattle.channels.proofs.Walk.{index_is}
use Rattle.channels.proofs.index_of.Goals as goal

pub returns : goal.returns
returns c = search index_is
