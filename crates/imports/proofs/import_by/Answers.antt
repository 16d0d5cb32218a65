use Rattle.imports.proofs.ImportLaws.{import_two}
use Rattle.imports.proofs.import_by.Goals as goal

pub returns : goal.returns
returns c = search import_two
