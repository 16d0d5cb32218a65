-- The container that a caller names, and what a header says of how the records after it are read.
use Rattle.std.specs.Prelude.{ℕ, ◌+◌, List, length, drop}
use Rattle.std.proofs.Math.Option.{Option}
use Rattle.laws.specs.Lists.{flat}
use Rattle.container.specs.Container as container
use Rattle.container.specs.Packets.{Packet, packets}
use Rattle.btsnoop.specs.Header.{datalink}
use Rattle.btsnoop.specs.Headers.{number_of, datalink_by}
use Rattle.btsnoop.specs.Records.{btsnoop}
use Rattle.btsnoop.specs.Records as btsnoop_records
use Rattle.btsnoop.specs.Packets as btsnoop_packets
use Rattle.pcap.specs.Header.{is_big, is_nano}
use Rattle.pcap.specs.Pcap.{pcap}
use Rattle.pcap.specs.Records as pcap_records
use Rattle.pcap.specs.Packets as pcap_packets
use Rattle.trace.specs.declared.Container.{Container}
use Rattle.trace.specs.declared.Container.TheVariants.{Btsnoop, Pcap}
use Rattle.trace.specs.declared.Format.{Format}
use Rattle.trace.specs.declared.Format.TheVariants.{Btsnoop as ByDatalink, Pcap as ByEncoding}

-- the container by its name
abbrev pub container_of : Container → container.Container
container_of Btsnoop = btsnoop
container_of Pcap = pcap

-- what a file's header says
abbrev pub format_of : Container → List ℕ → Format
format_of Btsnoop f = ByDatalink (datalink_by (datalink f))
format_of Pcap f = ByEncoding (record { big = is_big f; nano = is_nano f })

-- ---- by what it says: the bytes of the file header, those of a record before its packet, a record's size from its front, its time, the packet in it

unfoldable pub file_head : Format → ℕ
file_head (ByDatalink d) = 16
file_head (ByEncoding e) = 24

unfoldable pub record_head : Format → ℕ
record_head (ByDatalink d) = 24
record_head (ByEncoding e) = 16

unfoldable pub size_by : Format → List ℕ → ℕ
size_by (ByDatalink d) b = btsnoop_records.record_size b
size_by (ByEncoding e) b = pcap_records.record_size e.big b

unfoldable pub time_by : Format → List ℕ → ℕ
time_by (ByDatalink d) r = btsnoop_packets.milliseconds r
time_by (ByEncoding e) r = pcap_packets.milliseconds e.big e.nano r

unfoldable pub packet_by : Format → List ℕ → Option Packet
packet_by (ByDatalink d) r = btsnoop_packets.packet_of (number_of d) r
packet_by (ByEncoding e) r = pcap_packets.packet_of e.big e.nano r

-- ---- the file's whole records, the packets in them, where they end

-- those from a place on
abbrev pub records_from : Format → List ℕ → ℕ → List (List ℕ)
records_from g f at = container.records_in (size_by g) (drop at f)

abbrev pub records_by : Format → List ℕ → List (List ℕ)
records_by g f = records_from g f (file_head g)

abbrev pub packets_by : Format → List ℕ → List Packet
packets_by g f = packets (packet_by g) (records_by g f)

abbrev pub tail_by : Format → List ℕ → ℕ
tail_by g f = file_head g + length (flat (records_by g f))
