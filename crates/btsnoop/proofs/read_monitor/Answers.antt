use Rattle.btsnoop.proofs.Reading.{monitor_tx, monitor_rx, monitor_none}
use Rattle.btsnoop.proofs.read_monitor.Goals as goal

pub returns-in-4 : goal.returns-in-4
returns-in-4 c = search monitor_tx

pub returns-in-5 : goal.returns-in-5
returns-in-5 c = search monitor_rx

pub returns-in_default : goal.returns-in_default
returns-in_default c = search monitor_none
