use Rattle.classes.specs.Bits.{first_of, mix_of}
use Rattle.classes.specs.Keys.{words_of}
use borrow.Author.Rules.{rules}
use Rattle.classes.proofs.Key.first_bits.Goals as goal

pub returns : goal.returns
unfolding words_of first_of mix_of
returns c = search rules
