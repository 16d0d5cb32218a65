use Rattle.imports.proofs.ImportLaws.{sizes_calls}
use Rattle.imports.proofs.sizes_told.Goals as goal

pub returns : goal.returns
returns c = search sizes_calls
