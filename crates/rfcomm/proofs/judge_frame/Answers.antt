use Rattle.rfcomm.proofs.Judging.{verdict_uih}
use Rattle.rfcomm.proofs.judge_frame.Goals as goal

pub returns-in-Uih : goal.returns-in-Uih
returns-in-Uih c = search verdict_uih
