use Rattle.trace.proofs.Formats.{size_btsnoop, size_pcap}
use Rattle.trace.proofs.Trace.size_at.Goals as goal

pub returns-in-Btsnoop : goal.returns-in-Btsnoop
returns-in-Btsnoop c = search size_btsnoop

pub returns-in-Pcap : goal.returns-in-Pcap
returns-in-Pcap c = search size_pcap
