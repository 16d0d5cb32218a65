use Rattle.words.specs.Words.{word}
use borrow.Author.Rules.{rules}
use Rattle.words.proofs.get32.Goals as goal

pub returns : goal.returns
unfolding word
returns c = search rules
