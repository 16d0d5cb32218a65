use Rattle.told.proofs.RecordLaws.{records_calls}
use Rattle.told.proofs.records_of.Goals as goal

pub returns : goal.returns
returns c = search records_calls
