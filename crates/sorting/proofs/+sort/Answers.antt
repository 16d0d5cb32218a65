use Rattle.sorting.proofs.Places.{sorts_few, sorts_halves}
use Rattle.sorting.proofs.+sort.Goals as goal

pub returns-then-n-lt2 : goal.returns-then-n-lt2
returns-then-n-lt2 t c = search sorts_few

pub returns : goal.returns
returns t c = search sorts_halves
