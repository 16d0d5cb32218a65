use Rattle.laws.specs.Numbers.{be32}
use borrow.Author.Rules.{rules}
use Rattle.words.proofs.get_be32.Goals as goal

pub returns : goal.returns
unfolding be32
returns c = search rules
