use Rattle.channels.proofs.Payloads.{body_missing, body_got}
use Rattle.channels.proofs.body_of.Goals as goal

pub returns-in_default : goal.returns-in_default
returns-in_default c = search body_missing

pub returns : goal.returns
returns c = body_got _ _ c.field16.ensures _ _ c.in-Some.is c.from-end.ensures _ c.get.ensures.lookup _ c.unwrap_or_default.ensures
