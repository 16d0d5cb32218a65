use Rattle.told.proofs.NumberLaws.{named_calls}
use Rattle.told.proofs.name_told.Goals as goal

pub returns : goal.returns
returns c = search named_calls
