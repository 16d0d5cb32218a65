use Rattle.channels.proofs.Walk.{step_inside, pdu_step_is}
use Rattle.channels.proofs.pdu_step.Goals as goal

pub step_at-requires : goal.step_at-requires
step_at-requires c = step_inside _ _ _ _ c.requires _ c.read_pdu-p.ensures

pub returns : goal.returns
returns c = pdu_step_is _ _ _ _ c.requires _ c.read_pdu-p.ensures _ _ c.in_side.ensures c.step_at.ensures
