use Rattle.names.proofs.Naming.{name_short, name_wrote}
use Rattle.names.proofs.name_frame.Goals as goal

pub returns-then-out-needed : goal.returns-then-out-needed
returns-then-out-needed c = search name_short

pub returns : goal.returns
returns c = search name_wrote
