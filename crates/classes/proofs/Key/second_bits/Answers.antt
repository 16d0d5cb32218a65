use Rattle.classes.specs.Bits.{second_of, pair_of}
use Rattle.classes.specs.Keys.{words_of}
use borrow.Author.Rules.{rules}
use Rattle.classes.proofs.Key.second_bits.Goals as goal

pub returns : goal.returns
unfolding words_of second_of pair_of
returns c = search rules
