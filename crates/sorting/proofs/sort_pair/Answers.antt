use Rattle.sorting.proofs.Places.{pairs_met, pairs_turned}
use Rattle.sorting.proofs.sort_pair.Goals as goal

pub returns-then-is_first : goal.returns-then-is_first
returns-then-is_first c = search pairs_met

pub returns : goal.returns
returns c = search pairs_turned
