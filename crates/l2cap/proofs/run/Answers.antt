use Rattle.l2cap.proofs.Ranges.{ranging_start, ranging_step, ranging_turn}
use Rattle.l2cap.proofs.run.Goals as goal

pub loop-i-init : goal.loop-i-init
loop-i-init c = search ranging_start

pub step-s-requires : goal.step-s-requires
step-s-requires c = search ranging_step

pub loop-i-preserved : goal.loop-i-preserved
loop-i-preserved c = search ranging_turn
