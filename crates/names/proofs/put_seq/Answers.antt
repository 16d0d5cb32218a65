use Rattle.names.specs.Parts.{seq_part}
use Rattle.laws.proofs.Stores.{writes_then}
use Rattle.names.proofs.put_seq.Goals as goal

pub returns : goal.returns
unfolding seq_part
returns c = search writes_then
