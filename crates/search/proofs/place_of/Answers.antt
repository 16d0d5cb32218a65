use Rattle.search.proofs.Searching.{placing_start, placing_hit, placing_miss}
use Rattle.search.proofs.place_of.Goals as goal

pub loop-i-init : goal.loop-i-init
loop-i-init c = search placing_start

pub loop-i-preserved-then-s-i : goal.loop-i-preserved-then-s-i
loop-i-preserved-then-s-i c = search placing_hit

pub loop-i-preserved : goal.loop-i-preserved
loop-i-preserved c = search placing_miss
