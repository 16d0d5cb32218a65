-- Records, after the 16-byte header: original length, included length, flags, drops (4 bytes each), timestamp (8), and the packet. A record is its bytes.
-- With the header and the packets this is the container btsnoop.
use Rattle.std.specs.Prelude.{ℕ, ◌+◌, List}
use Rattle.laws.specs.Numbers.{be32}
use Rattle.container.specs.Container.{Container}
use Rattle.btsnoop.specs.Header.{is_btsnoop, datalink, is_datalink}
use Rattle.btsnoop.specs.Packets.{packet_of}

-- only the included length counts
unfoldable pub record_size : List ℕ → ℕ
record_size b = 24 + be32 b 4

abbrev pub btsnoop : Container
btsnoop = record {
  head = 16;
  is_file = is_btsnoop;
  foreign = 3;
  link_type = datalink;
  is_taken = is_datalink;
  untaken = 4;
  size = λ f. record_size;
  packet = λ f. packet_of (datalink f);
}
