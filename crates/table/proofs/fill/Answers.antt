use Rattle.table.proofs.Chain.{fill_start, fill_put, fill_turn, fill_end}
use Rattle.table.proofs.fill.Goals as goal

pub loop-i-init : goal.loop-i-init
loop-i-init c = search fill_start

pub put32-requires : goal.put32-requires
put32-requires c = search fill_put

pub loop-i-preserved : goal.loop-i-preserved
loop-i-preserved c = search fill_turn

pub returns : goal.returns
returns c = search fill_end
