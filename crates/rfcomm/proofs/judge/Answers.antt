use Rattle.rfcomm.proofs.Judging.{judged_asks, judged_passed, judged_frame_law}
use Rattle.rfcomm.proofs.judge.Goals as goal

pub returns-then-asks : goal.returns-then-asks
returns-then-asks c = search judged_asks

pub returns-then-is_tried : goal.returns-then-is_tried
returns-then-is_tried c = search judged_frame_law

pub returns : goal.returns
returns c = search judged_passed
