use Rattle.packing.proofs.Escapes.{first_more}
use Rattle.packing.proofs.escape_mixed.Goals as goal

pub returns-then-at-from-eq32 : goal.returns-then-at-from-eq32
returns-then-at-from-eq32 c = search first_more
