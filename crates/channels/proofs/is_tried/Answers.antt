use Rattle.channels.proofs.Walk.{tries_unnamed, tries_named}
use Rattle.channels.proofs.is_tried.Goals as goal

pub returns-in_default : goal.returns-in_default
returns-in_default c = search tries_unnamed

pub returns : goal.returns
returns c = search tries_named
