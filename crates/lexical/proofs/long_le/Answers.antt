use Rattle.lexical.proofs.Comparing.{le_is}
use mathlib.Core.Path.{◌∙◌}
use Rattle.lexical.proofs.long_le.Goals as goal

pub returns : goal.returns
returns c = c.is_le.ensures ∙ rw c.cmp.ensures (le_is _ _)
