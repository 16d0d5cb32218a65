use Rattle.classes.specs.Classes.{key_at}
use Rattle.classes.specs.Keys.{words_of}
use Rattle.classes.proofs.View.key_at.Goals as goal

pub returns : goal.returns
unfolding words_of key_at
returns c = cc
