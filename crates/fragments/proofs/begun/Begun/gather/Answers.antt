use Rattle.fragments.proofs.Walking.{gather_less, gather_turn, gather_end}
use Rattle.fragments.proofs.begun.Begun.gather.Goals as goal

pub loop-i-smaller : goal.loop-i-smaller
loop-i-smaller c = search gather_less

pub loop-i-preserved : goal.loop-i-preserved
loop-i-preserved c = search gather_turn

pub returns : goal.returns
returns c = search gather_end
