use Rattle.sorting.proofs.Comparing.{first_ranks, first_bytes}
use Rattle.sorting.proofs.is_first.Goals as goal

pub returns-then-a-b : goal.returns-then-a-b
returns-then-a-b c = search first_ranks

pub returns : goal.returns
returns c = search first_bytes
