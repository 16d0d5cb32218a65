use Rattle.pcap.proofs.Reading.{packet_short, packet_directed, packet_other}
use Rattle.pcap.proofs.read_packet.Goals as goal

pub returns-then-r-lt20 : goal.returns-then-r-lt20
returns-then-r-lt20 c = search packet_short

pub returns-then-way-lt2 : goal.returns-then-way-lt2
returns-then-way-lt2 c = search packet_directed

pub returns : goal.returns
returns c = search packet_other
