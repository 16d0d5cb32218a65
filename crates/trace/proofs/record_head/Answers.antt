use Rattle.trace.proofs.Formats.{record_head_btsnoop, record_head_pcap}
use Rattle.trace.proofs.record_head.Goals as goal

pub returns-in-Btsnoop : goal.returns-in-Btsnoop
returns-in-Btsnoop c = search record_head_btsnoop

pub returns-in-Pcap : goal.returns-in-Pcap
returns-in-Pcap c = search record_head_pcap
