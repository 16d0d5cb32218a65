use Rattle.unescaping.proofs.Pairs.{unpair_turn, unpair_end}
use Rattle.unescaping.proofs.unpair.Goals as goal

pub loop-i-preserved : goal.loop-i-preserved
loop-i-preserved c = search unpair_turn

pub returns : goal.returns
returns c = search unpair_end
