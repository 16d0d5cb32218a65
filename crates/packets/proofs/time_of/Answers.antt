use Rattle.packets.proofs.Adding.{btsnoop_room, pcap_room, btsnoop_time, pcap_time}
use Rattle.packets.proofs.time_of.Goals as goal

pub time_at-requires : goal.time_at-requires
time_at-requires c = search btsnoop_room

pub time_at-requires-in-Pcap : goal.time_at-requires-in-Pcap
time_at-requires-in-Pcap c = search pcap_room

pub returns-in-Btsnoop : goal.returns-in-Btsnoop
returns-in-Btsnoop c = search btsnoop_time

pub returns-in-Pcap : goal.returns-in-Pcap
returns-in-Pcap c = search pcap_time
