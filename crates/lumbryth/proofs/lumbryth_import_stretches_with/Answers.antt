use Rattle.places.proofs.StretchLaws.{stretch_calls}
use Rattle.lumbryth.proofs.lumbryth_import_stretches_with.Goals as goal

pub returns : goal.returns
returns c = search stretch_calls
