use Rattle.classes.proofs.Chains.{earlier_none, earlier_kept}
use Rattle.classes.proofs.earlier_only.Goals as goal

pub returns-then-i-v : goal.returns-then-i-v
returns-then-i-v c = search earlier_none

pub returns-else-i-v : goal.returns-else-i-v
returns-else-i-v c = search earlier_kept
