-- What reading the header answers: how numbers are written, or why it is not taken.
use Rattle.std.specs.Prelude.{Option, Some, None, Result, Ok, Err, cond, List, ℕ}
use Rattle.pcap.specs.Header.{is_big, is_nano, is_pcap, link_of, is_link}
use Rattle.pcap.specs.declared.Encoding.{Encoding}
use Rattle.pcap.specs.declared.HeaderError.{HeaderError}
use Rattle.pcap.specs.declared.HeaderError.TheVariants.{NotPcap, LinkType}

-- by the magic of a pcap file
unfoldable pub encoding_of : List ℕ → Option Encoding
encoding_of f = cond (is_pcap f) (Some (record { big = is_big f; nano = is_nano f })) None

unfoldable pub header_of : List ℕ → Result Encoding HeaderError
header_of f = cond (is_pcap f) (cond (is_link (link_of f)) (Ok (record { big = is_big f; nano = is_nano f })) (Err (LinkType (link_of f)))) (Err NotPcap)
