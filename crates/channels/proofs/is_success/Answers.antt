use Rattle.channels.proofs.Payloads.{success_is}
use Rattle.channels.proofs.is_success.Goals as goal

pub returns : goal.returns
returns c = success_is _ _ c.field16.ensures _ c.eq.ensures
