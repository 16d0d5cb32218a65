-- Headers, records and packets of pcap, by computation. Version, zone, accuracy and snap length hold odd numbers: nobody looks at them.
use Prim.Native.Nat.{ℕ}
use mathlib.Core.Path.{◌≡◌, refl}
use mathlib.Core.Bool.{true, false}
use mathlib.Core.List.{List, [], ◌∷◌, ◌++◌, map}
use lib.ListN.{take}
use Rattle.laws.specs.Chop.{chop, chop_from}
use Rattle.laws.specs.Keys.{eq_k}
use Rattle.laws.specs.Lists.{flat}
use Rattle.laws.specs.Numbers.{le16, le32, be32}
use Rattle.container.specs.Packets.{Packet, fragment, h4_packet, packets}
use Rattle.container.specs.Container.{is_whole, records_in, records, tail_offset, packets_in}
use Rattle.pcap.specs.Header.{big_micro, little_micro, big_nano, little_nano, is_big, is_little, is_nano, is_pcap, number, link_of, is_link}
use Rattle.pcap.specs.Records.{record_size}
use Rattle.pcap.specs.Packets.{milliseconds, directed_packet, packet_of}
use Rattle.pcap.specs.Pcap.{pcap}

abbrev odd : List ℕ
odd = 0x01 ∷ 0x07 ∷ 0x02 ∷ 0x03 ∷ 0x10 ∷ 0x0E ∷ 0x11 ∷ 0x12 ∷ 0x05 ∷ 0x06 ∷ 0x07 ∷ 0x08 ∷ 0x04 ∷ 0x00 ∷ 0x00 ∷ 0x04 ∷ []

abbrev little_link : List ℕ
little_link = 0xC9 ∷ 0x00 ∷ 0x00 ∷ 0x00 ∷ []

abbrev big_link : List ℕ
big_link = 0x00 ∷ 0x00 ∷ 0x00 ∷ 0xC9 ∷ []

abbrev head_of : List ℕ → List ℕ → List ℕ
head_of magic link = magic ++ (odd ++ link)

-- H4: an ACL packet of handle 0x040, a start, 4 bytes of data and one that is ignored
abbrev acl : List ℕ
acl = 0x02 ∷ 0x40 ∷ 0x20 ∷ 0x04 ∷ 0x00 ∷ 0xA1 ∷ 0xA2 ∷ 0xA3 ∷ 0xA4 ∷ 0xFF ∷ []

abbrev rx : List ℕ
rx = 0 ∷ 0 ∷ 0 ∷ 1 ∷ []

-- 4,294,967,295 seconds and 1,999,999 microseconds, or 1,999,999,999 nanoseconds; 14 bytes captured of 99
abbrev little_micros : List ℕ
little_micros = 0xFF ∷ 0xFF ∷ 0xFF ∷ 0xFF ∷ 0x7F ∷ 0x84 ∷ 0x1E ∷ 0x00 ∷ 0x0E ∷ 0x00 ∷ 0x00 ∷ 0x00 ∷ 0x63 ∷ 0x00 ∷ 0x00 ∷ 0x00 ∷ []

abbrev big_micros : List ℕ
big_micros = 0xFF ∷ 0xFF ∷ 0xFF ∷ 0xFF ∷ 0x00 ∷ 0x1E ∷ 0x84 ∷ 0x7F ∷ 0x00 ∷ 0x00 ∷ 0x00 ∷ 0x0E ∷ 0x00 ∷ 0x00 ∷ 0x00 ∷ 0x63 ∷ []

abbrev little_nanos : List ℕ
little_nanos = 0xFF ∷ 0xFF ∷ 0xFF ∷ 0xFF ∷ 0xFF ∷ 0x93 ∷ 0x35 ∷ 0x77 ∷ 0x0E ∷ 0x00 ∷ 0x00 ∷ 0x00 ∷ 0x63 ∷ 0x00 ∷ 0x00 ∷ 0x00 ∷ []

abbrev big_nanos : List ℕ
big_nanos = 0xFF ∷ 0xFF ∷ 0xFF ∷ 0xFF ∷ 0x77 ∷ 0x35 ∷ 0x93 ∷ 0xFF ∷ 0x00 ∷ 0x00 ∷ 0x00 ∷ 0x0E ∷ 0x00 ∷ 0x00 ∷ 0x00 ∷ 0x63 ∷ []

abbrev packet : ℕ → Packet
packet way = record { link = 0x40; rx = way; start = true; time = 4294967296999; bytes = 0xA1 ∷ 0xA2 ∷ 0xA3 ∷ 0xA4 ∷ [] }

-- a little-endian file in microseconds
abbrev file_of : List (List ℕ) → List ℕ
file_of rs = head_of little_micro little_link ++ flat rs

-- one record, with these four bytes of direction
abbrev toward : List ℕ → List ℕ
toward w = little_micros ++ (w ++ acl)

-- a record with a packet of so few bytes
abbrev few : ℕ → List ℕ → List ℕ
few n b = 0 ∷ 0 ∷ 0 ∷ 0 ∷ 0 ∷ 0 ∷ 0 ∷ 0 ∷ n ∷ 0 ∷ 0 ∷ 0 ∷ 0x63 ∷ 0 ∷ 0 ∷ 0 ∷ b

abbrev packets_at : List (List ℕ) → List Packet
packets_at rs = packets_in pcap (file_of rs)

abbrev heads : List (List ℕ)
heads =
    head_of little_micro little_link ∷ head_of big_micro big_link ∷ head_of little_nano little_link ∷ head_of big_nano big_link ∷ take 23 (head_of little_micro little_link) ∷ head_of (0xA1 ∷ 0xB2 ∷ 0xCD ∷ 0x34 ∷ []) big_link ∷
    head_of (0x0A ∷ 0x0D ∷ 0x0D ∷ 0x0A ∷ []) little_link ∷ []

pub pcap_computed :
    -- the four magics, 23 bytes, two other magics
    (map is_pcap heads ≡ true ∷ true ∷ true ∷ true ∷ false ∷ false ∷ false ∷ []) ×
    -- the link type: in either order; all four bytes
    (map link_of (take 4 heads) ≡ 201 ∷ 201 ∷ 201 ∷ 201 ∷ []) ×
    (link_of (head_of little_micro big_link) ≡ 0xC9000000) × (is_link (link_of (head_of little_micro (0xC9 ∷ 0x00 ∷ 0x01 ∷ 0x00 ∷ []))) ≡ false) × (is_link (link_of (head_of big_micro (0x20 ∷ 0x00 ∷ 0x00 ∷ 0xC9 ∷ []))) ≡ false) ×
    (pcap.foreign ≡ 21) × (pcap.untaken ≡ 22) ×
    -- orders and resolutions give one packet
    (packets_in pcap (head_of little_micro little_link ++ (little_micros ++ (rx ++ acl))) ≡ packet 1 ∷ []) × (packets_in pcap (head_of big_micro big_link ++ (big_micros ++ (rx ++ acl))) ≡ packet 1 ∷ []) ×
    (packets_in pcap (head_of little_nano little_link ++ (little_nanos ++ (rx ++ acl))) ≡ packet 1 ∷ []) × (packets_in pcap (head_of big_nano big_link ++ (big_nanos ++ (rx ++ acl))) ≡ packet 1 ∷ []) ×
    -- directions
    (packets_at (toward (0 ∷ 0 ∷ 0 ∷ 0 ∷ []) ∷ []) ≡ packet 0 ∷ []) ×
    (packets_at (toward (0 ∷ 0 ∷ 0 ∷ 2 ∷ []) ∷ toward (0 ∷ 0 ∷ 0 ∷ 3 ∷ []) ∷ toward (1 ∷ 0 ∷ 0 ∷ 0 ∷ []) ∷ toward (0 ∷ 0 ∷ 1 ∷ 1 ∷ []) ∷ toward (0 ∷ 0 ∷ 1 ∷ 0 ∷ []) ∷ []) ≡ []) ×
    -- 0, 3, 4 bytes; another H4 type; they do not end the reading
    (packets_at (few 0 [] ∷ few 3 (2 ∷ 2 ∷ 2 ∷ []) ∷ few 4 rx ∷ few 9 (rx ++ (4 ∷ 0x40 ∷ 0x20 ∷ 0 ∷ 0 ∷ [])) ∷ toward rx ∷ []) ≡ packet 1 ∷ []) ×
    -- a record that passes the end by one byte ends it; offsets count from the file's start
    (tail_offset pcap (file_of (few 0 [] ∷ toward rx ∷ [])) ≡ 70) × (tail_offset pcap (take 69 (file_of (few 0 [] ∷ toward rx ∷ []))) ≡ 40) × (tail_offset pcap (take 55 (file_of (few 0 [] ∷ toward rx ∷ []))) ≡ 40) × (tail_offset pcap (file_of []) ≡ 24)
unfolding is_pcap is_big is_little is_nano number link_of is_link tail_offset records records_in chop chop_from is_whole record_size be32 le16 le32 eq_k packets_in packets packet_of directed_packet milliseconds fragment h4_packet
pcap_computed = (refl, refl, refl, refl, refl, refl, refl, refl, refl, refl, refl, refl, refl, refl, refl, refl, refl, refl)
