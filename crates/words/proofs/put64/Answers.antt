use Rattle.words.specs.Words.{put_long}
use Rattle.words.proofs.put64.Goals as goal

pub returns : goal.returns
unfolding put_long
returns c = cc
