use Rattle.fragments.proofs.Walking.{seek_less, seek_turn, seek_here, seek_end}
use Rattle.fragments.proofs.begun.Begun.byte.Goals as goal

pub loop-i-smaller : goal.loop-i-smaller
loop-i-smaller c = search seek_less

pub returns-then-j-n : goal.returns-then-j-n
returns-then-j-n c = search seek_here

pub loop-i-preserved : goal.loop-i-preserved
loop-i-preserved c = search seek_turn

pub returns : goal.returns
returns c = search seek_end
