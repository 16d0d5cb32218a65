use Rattle.stretches.proofs.Spreading.{spreading_start, spreading_pre, spreading_turn}
use Rattle.stretches.proofs.spread_back.Goals as goal

pub loop-i-init : goal.loop-i-init
loop-i-init c = search spreading_start

pub hand_back-requires : goal.hand_back-requires
hand_back-requires c = search spreading_pre

pub loop-i-preserved : goal.loop-i-preserved
loop-i-preserved c = search spreading_turn
