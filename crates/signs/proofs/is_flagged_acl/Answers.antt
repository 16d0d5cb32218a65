use Rattle.signs.proofs.Acl.{acl_monitor, acl_hci, acl_h4, acl_not}
use Rattle.signs.proofs.is_flagged_acl.Goals as goal

pub returns-in-Monitor : goal.returns-in-Monitor
returns-in-Monitor c = search acl_monitor

pub returns-then-is_data : goal.returns-then-is_data
returns-then-is_data c = search acl_h4

pub returns-else-is_data : goal.returns-else-is_data
returns-else-is_data c = search acl_not

pub returns-in-Hci : goal.returns-in-Hci
returns-in-Hci c = search acl_hci
