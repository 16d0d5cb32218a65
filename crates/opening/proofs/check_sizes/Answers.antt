use Rattle.opening.proofs.Opening.{sizes_long, sizes_short, sizes_fit}
use Rattle.opening.proofs.check_sizes.Goals as goal

pub returns-then-n-gt1048576 : goal.returns-then-n-gt1048576
returns-then-n-gt1048576 c = search sizes_long

pub returns-then-work-n : goal.returns-then-work-n
returns-then-work-n c = search sizes_short

pub returns : goal.returns
returns c = search sizes_fit
