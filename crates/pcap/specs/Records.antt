-- Records, after the 24-byte header: seconds, fraction, captured length, original length (4 bytes each, by the byte order), and the packet. A record is its bytes.
use Rattle.std.specs.Prelude.{ℕ, ◌+◌, Bool, List}
use Rattle.pcap.specs.Header.{number}

-- the captured length counts
unfoldable pub record_size : Bool → List ℕ → ℕ
record_size big b = 16 + number big b 8
