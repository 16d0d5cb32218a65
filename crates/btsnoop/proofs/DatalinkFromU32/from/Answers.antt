use Rattle.btsnoop.proofs.Headers.{by_h4, by_monitor, by_other}
use Rattle.btsnoop.proofs.DatalinkFromU32.from.Goals as goal

pub returns-in-1002 : goal.returns-in-1002
returns-in-1002 c = search by_h4

pub returns-in-2001 : goal.returns-in-2001
returns-in-2001 c = search by_monitor

pub returns-in_default : goal.returns-in_default
returns-in_default c = search by_other
