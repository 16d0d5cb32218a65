use Rattle.laws.specs.Numbers.{le32}
use borrow.Author.Rules.{rules}
use Rattle.words.proofs.get_le32.Goals as goal

pub returns : goal.returns
unfolding le32
returns c = search rules
