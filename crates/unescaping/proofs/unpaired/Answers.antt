use Rattle.unescaping.proofs.Pairs.{pair_room, pair_fits}
use Rattle.unescaping.proofs.unpaired.Goals as goal

pub overflow_add-result : goal.overflow_add-result
overflow_add-result c = search pair_room

pub overflow_cast-result : goal.overflow_cast-result
overflow_cast-result c = search pair_fits
