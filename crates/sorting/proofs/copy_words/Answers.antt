use Rattle.sorting.proofs.Places.{copies}
use Rattle.sorting.proofs.copy_words.Goals as goal

pub returns : goal.returns
returns c = search copies
