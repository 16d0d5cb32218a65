use Rattle.trace.proofs.Formats.{file_head_btsnoop, file_head_pcap}
use Rattle.trace.proofs.file_head.Goals as goal

pub returns-in-Btsnoop : goal.returns-in-Btsnoop
returns-in-Btsnoop c = search file_head_btsnoop

pub returns-in-Pcap : goal.returns-in-Pcap
returns-in-Pcap c = search file_head_pcap
