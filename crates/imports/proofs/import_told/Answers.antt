use Rattle.imports.proofs.ImportLaws.{import_calls}
use Rattle.imports.proofs.import_told.Goals as goal

pub returns : goal.returns
returns c = search import_calls
