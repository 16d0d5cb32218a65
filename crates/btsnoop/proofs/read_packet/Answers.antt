use Rattle.btsnoop.proofs.Reading.{record_monitor, record_skip, record_h4, record_plain}
use Rattle.btsnoop.proofs.read_packet.Goals as goal
use Rattle.btsnoop.proofs.read_packet.Goals.{in-Monitor-1, in_default+else-flags-eq1+in-Monitor-1}

pub returns-in-Monitor : goal.returns-in-Monitor
returns-in-Monitor c =
    elim c.in-Monitor-1.branch [
      | in-Monitor-1 w ↦ search record_monitor
      | in_default+else-flags-eq1+in-Monitor-1 w ↦ search record_monitor
    ]

pub returns-in_default : goal.returns-in_default
returns-in_default c = search record_skip

pub returns-in-H4 : goal.returns-in-H4
returns-in-H4 c = search record_h4

pub returns-in-Hci : goal.returns-in-Hci
returns-in-Hci c = search record_plain
