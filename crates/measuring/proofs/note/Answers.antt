use Rattle.measuring.proofs.Steps.{noted_is}
use Rattle.measuring.proofs.note.Goals as goal

pub returns : goal.returns
returns c = search noted_is
