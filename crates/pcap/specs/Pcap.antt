-- The container pcap.
use Rattle.container.specs.Container.{Container}
use Rattle.pcap.specs.Header.{is_big, is_nano, is_pcap, link_of, is_link}
use Rattle.pcap.specs.Records.{record_size}
use Rattle.pcap.specs.Packets.{packet_of}

abbrev pub pcap : Container
pcap = record {
  head = 24;
  is_file = is_pcap;
  foreign = 21;
  link_type = link_of;
  is_taken = is_link;
  untaken = 22;
  size = λ f. record_size (is_big f);
  packet = λ f. packet_of (is_big f) (is_nano f);
}
