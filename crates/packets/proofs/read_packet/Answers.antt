use Rattle.trace.proofs.Finding.{bytes_btsnoop, bytes_pcap}
use Rattle.packets.proofs.Adding.{btsnoop_packet, pcap_packet}
use Rattle.packets.proofs.read_packet.Goals as goal

pub read_packet-requires : goal.read_packet-requires
read_packet-requires c = search bytes_btsnoop

pub read_packet-requires-in-Pcap : goal.read_packet-requires-in-Pcap
read_packet-requires-in-Pcap c = search bytes_pcap

pub returns-in-Btsnoop : goal.returns-in-Btsnoop
returns-in-Btsnoop c = search btsnoop_packet

pub returns-in-Pcap : goal.returns-in-Pcap
returns-in-Pcap c = search pcap_packet
