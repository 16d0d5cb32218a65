use Rattle.places.proofs.StretchLaws.{stretch_two}
use Rattle.lumbryth.proofs.lumbryth_import_stretches.Goals as goal

pub returns : goal.returns
returns c = search stretch_two
