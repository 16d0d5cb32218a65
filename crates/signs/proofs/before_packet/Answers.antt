use Rattle.signs.proofs.Acl.{before_hci, before_h4, before_monitor, before_directed}
use Rattle.signs.proofs.before_packet.Goals as goal

pub returns-in-Btsnoop-Hci : goal.returns-in-Btsnoop-Hci
returns-in-Btsnoop-Hci c = before_hci _ _ c.in-Btsnoop-Hci.is (rw c.in-Btsnoop-Hci.is at c.in-Btsnoop-Hci.field-0-is)

pub returns-in-Btsnoop-H4 : goal.returns-in-Btsnoop-H4
returns-in-Btsnoop-H4 c = before_h4 _ _ c.in-Btsnoop-H4.is (rw c.in-Btsnoop-H4.is at c.in-Btsnoop-H4.field-0-is)

pub returns-in-Btsnoop-Monitor : goal.returns-in-Btsnoop-Monitor
returns-in-Btsnoop-Monitor c = before_monitor _ _ c.in-Btsnoop-Monitor.is (rw c.in-Btsnoop-Monitor.is at c.in-Btsnoop-Monitor.field-0-is)

pub returns-in-Pcap : goal.returns-in-Pcap
returns-in-Pcap c = search before_directed
