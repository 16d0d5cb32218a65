use Rattle.split.proofs.Tables.{earlier_is, less_one}
use mathlib.Core.Path.{◌∙◌}
use Rattle.split.proofs.pieces.Table.earlier.Goals as goal

pub returns : goal.returns
returns c = earlier_is _ _ _ c.args.self.chained c.requires _ (less_one _ _ c.checked_sub.ensures ∙ c.get32.ensures)
