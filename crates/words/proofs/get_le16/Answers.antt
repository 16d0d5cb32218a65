use Rattle.laws.specs.Numbers.{le16}
use borrow.Author.Rules.{rules}
use Rattle.words.proofs.get_le16.Goals as goal

pub returns : goal.returns
unfolding le16
returns c = search rules
