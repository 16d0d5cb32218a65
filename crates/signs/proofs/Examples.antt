-- Signs in pcap files of both byte orders, by computation.
use Prim.Native.Nat.{ℕ}
use mathlib.Core.Path.{◌≡◌, refl}
use mathlib.Core.Bool.{Bool, true, false, cond}
use mathlib.Core.List.{List, [], ◌∷◌, ◌++◌}
use Rattle.laws.specs.Chop.{chop, chop_from}
use Rattle.laws.specs.Keyed.{run, after, keep}
use Rattle.laws.specs.Keys.{eq_k}
use Rattle.laws.specs.Lists.{flat}
use Rattle.laws.specs.Numbers.{le16, le32, be32}
use Rattle.container.specs.Container.{is_whole, records_in}
use Rattle.container.specs.Packets.{fragment, h4_packet}
use Rattle.pcap.specs.Header.{big_micro, little_micro, is_big, is_nano, number}
use Rattle.pcap.specs.Records.{record_size}
use Rattle.pcap.specs.Packets.{milliseconds, directed_packet, packet_of}
use Rattle.l2cap.specs.Pdus.{joined, is_complete, still_open}
use Rattle.trace.specs.Formats.{format_of, file_head, size_by, packet_by}
use Rattle.trace.specs.declared.Container.TheVariants.{Pcap}
use Rattle.trace.specs.declared.Format.{Format}
use Rattle.trace.specs.declared.Format.TheVariants.{Pcap as ByEncoding}
use Rattle.signs.specs.Places.{placed, placed_packet, placed_packets, where_is, records_at, packets_at}
use Rattle.signs.specs.Recorded.{is_short, is_zeros, is_acl, is_none, is_skipped, drops, dropped, dropped_at}
use Rattle.signs.specs.Partial.{bytes_of, place_of, begun_at, goes_on, stray_out, strays, given_up_out, given_up, at_end, began_at, left_open}
use Rattle.signs.specs.Gaps.{first_of, record_gaps, packet_gaps, gaps}

-- a number in 4 bytes, by the byte order
abbrev four : Bool → ℕ → List ℕ
four big n = cond big (0 ∷ 0 ∷ 0 ∷ n ∷ []) (n ∷ 0 ∷ 0 ∷ 0 ∷ [])

-- a record of so many bytes captured of so many, at 1 second
abbrev record_of : Bool → ℕ → ℕ → List ℕ → List ℕ
record_of big captured original b = four big 1 ++ (four big 0 ++ (four big captured ++ (four big original ++ b)))

abbrev file_of : Bool → List (List ℕ) → List ℕ
file_of big rs = cond big big_micro little_micro ++ (four big 0 ++ (four big 0 ++ (four big 0 ++ (four big 0 ++ (four big 201 ++ flat rs)))))

abbrev format : Bool → Format
format big = ByEncoding (record { big = big; nano = false })

-- a direction, and the type of ACL data
abbrev toward : ℕ → List ℕ → List ℕ
toward way b = 0 ∷ 0 ∷ 0 ∷ way ∷ 2 ∷ b

-- a start whose data has 4 bytes, of which one is here
abbrev snapped : List ℕ
snapped = 0x40 ∷ 0x20 ∷ 4 ∷ 0 ∷ 0xA1 ∷ []

abbrev zeros : List ℕ
zeros = 0 ∷ 0 ∷ 0 ∷ 0 ∷ 0 ∷ 0 ∷ 0 ∷ 0 ∷ 0 ∷ 0 ∷ 0 ∷ 0 ∷ 0 ∷ 0 ∷ 0 ∷ 0 ∷ []

abbrev unequal : List ℕ
unequal = 0 ∷ 0 ∷ 0 ∷ 0 ∷ 0 ∷ 0 ∷ 0 ∷ 0 ∷ 0 ∷ 0 ∷ 1 ∷ 0 ∷ 0 ∷ 0 ∷ 0 ∷ 255 ∷ []

-- stored short, ACL data, skipped, zeros only
abbrev seen : Bool → List ℕ → List Bool
seen big r = is_short (format big) r ∷ is_acl (format big) r ∷ is_skipped (format big) r ∷ is_zeros r ∷ []

pub records_computed :
    -- a packet that the recorder snapped
    (seen true (record_of true 10 13 (toward 1 snapped)) ≡ true ∷ true ∷ true ∷ false ∷ []) × (seen false (record_of false 10 13 (toward 0 snapped)) ≡ true ∷ true ∷ true ∷ false ∷ []) ×
    -- a head with 256 bytes captured of 255; in the other byte order these are 65,536 of 4,278,190,080
    (is_short (format true) unequal ≡ false) × (is_short (format false) unequal ≡ true) ×
    -- whole, in a record with a byte more than the packet needs; equal lengths
    (seen true (record_of true 11 11 (toward 1 (0x40 ∷ 0x20 ∷ 1 ∷ 0 ∷ 0xA1 ∷ 0xFF ∷ []))) ≡ false ∷ true ∷ false ∷ false ∷ []) ×
    -- direction 2, a direction in the other byte order, another type, no type, no direction
    (seen true (record_of true 10 10 (toward 2 snapped)) ≡ false ∷ false ∷ false ∷ false ∷ []) × (seen false (record_of false 10 10 (toward 2 snapped)) ≡ false ∷ false ∷ false ∷ false ∷ []) ×
    (is_acl (format false) (record_of false 10 10 (1 ∷ 0 ∷ 0 ∷ 0 ∷ 2 ∷ snapped)) ≡ false) × (is_acl (format true) (record_of true 10 10 (0 ∷ 0 ∷ 0 ∷ 1 ∷ 4 ∷ snapped)) ≡ false) ×
    (is_acl (format true) (record_of true 4 4 (0 ∷ 0 ∷ 0 ∷ 1 ∷ [])) ≡ false) × (is_acl (format true) (record_of true 2 2 (2 ∷ 2 ∷ [])) ≡ false) ×
    -- zeros
    (seen true zeros ≡ false ∷ false ∷ false ∷ true ∷ []) × (seen false zeros ≡ false ∷ false ∷ false ∷ true ∷ []) ×
    -- no count of drops, whatever stands there
    (drops (format true) (record_of true 10 13 (toward 1 snapped)) ≡ 0)
unfolding is_short is_acl is_skipped is_none is_zeros drops number be32 le32 le16 packet_by packet_of directed_packet milliseconds fragment h4_packet
records_computed = (refl, refl, refl, refl, refl, refl, refl, refl, refl, refl, refl, refl, refl, refl)

-- zeros at 24; a snapped packet at 40; the same toward neither side at 66; a continuation of nothing at 92; at 118 a start whose PDU has
-- 4 bytes, none of which is here
abbrev lossy : Bool → List ℕ
lossy big =
    file_of big
    (zeros ∷ record_of big 10 13 (toward 1 snapped) ∷ record_of big 10 10 (toward 2 snapped) ∷
    record_of big 10 10 (toward 1 (0x40 ∷ 0x10 ∷ 1 ∷ 0 ∷ 0xA1 ∷ [])) ∷ record_of big 13 13 (toward 0 (0x40 ∷ 0x20 ∷ 4 ∷ 0 ∷ 4 ∷ 0 ∷ 0x41 ∷ 0 ∷ [])) ∷ [])

abbrev signs : List ℕ
signs = 1 ∷ 40 ∷ 0 ∷ 0 ∷ 1 ∷ 40 ∷ 1 ∷ 24 ∷ 1 ∷ 92 ∷ 0 ∷ 0 ∷ 1 ∷ 118 ∷ []

pub big_computed : gaps (format_of Pcap (lossy true)) (lossy true) ≡ signs
unfolding gaps record_gaps packet_gaps first_of records_at packets_at placed placed_packet placed_packets where_is is_short is_acl is_skipped is_none is_zeros drops dropped dropped_at bytes_of place_of begun_at goes_on stray_out strays given_up_out given_up at_end began_at left_open is_complete is_big is_nano number be32 le32 le16 file_head size_by packet_by packet_of directed_packet milliseconds fragment h4_packet record_size records_in chop chop_from is_whole eq_k joined still_open run after keep
big_computed = refl

pub little_computed : gaps (format_of Pcap (lossy false)) (lossy false) ≡ signs
unfolding gaps record_gaps packet_gaps first_of records_at packets_at placed placed_packet placed_packets where_is is_short is_acl is_skipped is_none is_zeros drops dropped dropped_at bytes_of place_of begun_at goes_on stray_out strays given_up_out given_up at_end began_at left_open is_complete is_big is_nano number be32 le32 le16 file_head size_by packet_by packet_of directed_packet milliseconds fragment h4_packet record_size records_in chop chop_from is_whole eq_k joined still_open run after keep
little_computed = refl
