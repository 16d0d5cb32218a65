use Rattle.sorting.proofs.Places.{rotates}
use Rattle.sorting.proofs.rotate_words.Goals as goal

pub returns : goal.returns
returns c = search rotates
