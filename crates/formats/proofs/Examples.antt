-- Document 01's worked example as a pcap file, and each refusal that pcap has of its own, by computation; and sizes.
use Prim.Native.Nat.{ℕ}
use mathlib.Core.Path.{◌≡◌, refl}
use mathlib.Core.Bool.{Bool, true, false}
use mathlib.Core.List.{List, [], ◌∷◌, ◌++◌}
use mathlib.Core.Option.{none}
use lib.ListN.{length, take, drop}
use Rattle.laws.specs.Answers.{accepted, refused, is_given}
use Rattle.laws.specs.Chop.{chop, chop_from}
use Rattle.laws.specs.Keys.{eq_k}
use Rattle.laws.specs.Keyed.{run, after}
use Rattle.laws.specs.Count.{count, nub, mem}
use Rattle.laws.specs.Totals.{total}
use Rattle.laws.specs.Numbers.{le16, le32, le64, be32, be64}
use Rattle.laws.specs.Lists.{flat}
use Rattle.items.specs.declared.Direction.TheVariants.{Rx}
use Rattle.items.specs.Items.{span, rx_of, item, span_item, span_list}
use Rattle.mdr.specs.Frame.{judged as judged_frame, unpack_of, unpacks_of}
use Rattle.mdr.specs.Sum.{checksum_of}
use Rattle.container.specs.Packets.{fragment, h4_packet, packets}
use Rattle.container.specs.Container.{is_whole, records_in, records, tail_offset, packets_in}
use Rattle.btsnoop.specs.Header.{is_btsnoop}
use Rattle.btsnoop.specs.Records.{btsnoop}
use Rattle.pcap.specs.Header.{is_big, is_little, is_nano, is_pcap, number, link_of, is_link}
use Rattle.pcap.specs.Records.{record_size}
use Rattle.pcap.specs.Packets.{milliseconds, directed_packet, packet_of}
use Rattle.pcap.specs.Pcap.{pcap}
use Rattle.l2cap.specs.Pdus.{joined, is_complete, still_open, pdu_of, completed, pdus}
use Rattle.channels.specs.Signals.{command_size, is_command, commands, body, signal_of, signals_in, pdu_signals, signals}
use Rattle.channels.specs.Channels.{any, names, named, asks_for, admits, admitted_after, admitted, is_tried, asks_rfcomm, asks_session}
use Rattle.channels.specs.Tried.{tried_by}
use Rattle.uih.specs.Fcs.{shift_one, shifted, register, fcs_of}
use Rattle.uih.specs.Frames.{is_sabm, is_uih, short_length, info_length, info_start, credit_of, frame_of, is_right}
use Rattle.rfcomm.specs.Pieces.{uih_kind, frame_kind, kind_by, judged_from, judged_by, counted, piece_of, brought, pieces, is_wrong, wrong_on}
use Rattle.search.specs.Seek.{seek}
use Rattle.spans.specs.Scan.{spans_n, rest_n, spans_of, rest_of, capped}
use Rattle.spans.specs.Spans.{spans, unfinished, on_dlci}
use Rattle.spans.specs.Account.{dropped_n, dropped_of, cleared_of, in_spans, dropped, cleared, left}
use Rattle.outcome.specs.Import.{Tail, strict, tolerant, by_source, on_channel, first, has_frame, chosen, Found, missing, listed, file_pieces, read, ends_well, outcome, given, fits, work_suffices, imported}
use Rattle.outcome.specs.Sizes.{sizes, counts, sized}
use Rattle.outcome.proofs.Examples.{sample, finds, went}
use Rattle.formats.specs.Written.{num, Seen, btsnoop_file, pcap_head, pcap_file}

-- the packet of the worked example, and a nanosecond less than a millisecond past its time
abbrev packet : Seen
packet = record { time = 999999; way = Rx; h4 = drop 40 sample }

abbrev frame : List ℕ
frame = 0x3E ∷ 0x01 ∷ 0x00 ∷ 0x00 ∷ 0x00 ∷ 0x00 ∷ 0x00 ∷ 0x01 ∷ 0x3C ∷ []

-- little-endian, microseconds; as bytes
abbrev pub pcap_sample : List ℕ
pcap_sample =
    0xD4 ∷ 0xC3 ∷ 0xB2 ∷ 0xA1 ∷ 0x02 ∷ 0x00 ∷ 0x04 ∷ 0x00 ∷ 0x00 ∷ 0x00 ∷ 0x00 ∷ 0x00 ∷ 0x00 ∷ 0x00 ∷ 0x00 ∷ 0x00 ∷ 0xFF ∷ 0xFF ∷ 0x00 ∷ 0x00 ∷ 0xC9 ∷ 0x00 ∷ 0x00 ∷ 0x00 ∷
    0x00 ∷ 0x00 ∷ 0x00 ∷ 0x00 ∷ 0xE7 ∷ 0x03 ∷ 0x00 ∷ 0x00 ∷ 0x1A ∷ 0x00 ∷ 0x00 ∷ 0x00 ∷ 0x1A ∷ 0x00 ∷ 0x00 ∷ 0x00 ∷
    0x00 ∷ 0x00 ∷ 0x00 ∷ 0x01 ∷ 0x02 ∷ 0x40 ∷ 0x20 ∷ 0x11 ∷ 0x00 ∷ 0x0D ∷ 0x00 ∷ 0x41 ∷ 0x00 ∷ 0x49 ∷ 0xEF ∷ 0x13 ∷
    0x3E ∷ 0x01 ∷ 0x00 ∷ 0x00 ∷ 0x00 ∷ 0x00 ∷ 0x00 ∷ 0x01 ∷ 0x3C ∷ 0x00 ∷ []

-- what writing gives is these bytes, and document 01's
pub as_written : (pcap_file false false (packet ∷ []) ≡ pcap_sample) × (btsnoop_file (record { time = 0; way = Rx; h4 = drop 40 sample } ∷ []) ≡ sample)
unfolding rx_of
as_written = (refl, refl)

abbrev answer_of : Bool → Bool → Tail → Found
answer_of big nano tail = outcome pcap (pcap_file big nano (packet ∷ [])) (by_source none tail)

abbrev one : Found
one = finds 18 (span 1 0 frame ∷ []) 0 66 (went 9 0 0 0)

-- a header with another link type field
abbrev linked : Bool → ℕ → List ℕ
linked big n = take 20 (pcap_head big false) ++ num big n

-- a record of a file that is little-endian, in microseconds, with this packet, direction included
abbrev row : ℕ → ℕ → List ℕ → List ℕ
row seconds micro b = num false seconds ++ (num false micro ++ (num false (length b) ++ (num false (length b) ++ b)))

abbrev file_of : List (List ℕ) → List ℕ
file_of rs = pcap_head false false ++ flat rs

-- the packet with its direction's four bytes
abbrev toward : List ℕ → List ℕ
toward w = w ++ drop 40 sample

abbrev rx : List ℕ
rx = 0 ∷ 0 ∷ 0 ∷ 1 ∷ []

abbrev answer_to : List (List ℕ) → Found
answer_to rs = outcome pcap (file_of rs) (by_source none strict)

pub pcap_examples :
    -- two byte orders, two resolutions: one list
    (answer_of false false strict ≡ one) × (answer_of true false strict ≡ one) × (answer_of false true strict ≡ one) × (answer_of true true strict ≡ one) ×
    -- less its last byte; one byte after the header; nothing after it
    (outcome pcap (take 65 pcap_sample) (by_source none strict) ≡ missing 5 (24 ∷ [])) × (outcome pcap (take 65 pcap_sample) (by_source none tolerant) ≡ missing 6 []) ×
    (outcome pcap (take 25 pcap_sample) (by_source none strict) ≡ missing 5 (24 ∷ [])) × (outcome pcap (take 24 pcap_sample) (by_source none strict) ≡ missing 6 []) ×
    -- 21: under 24 bytes, also tolerant; another magic; btsnoop. A pcap file is no btsnoop file.
    (outcome pcap (take 23 pcap_sample) (by_source none tolerant) ≡ missing 21 []) × (outcome pcap (0xA1 ∷ 0xB2 ∷ 0xCD ∷ 0x34 ∷ drop 4 pcap_sample) (by_source none strict) ≡ missing 21 []) ×
    (outcome pcap sample (by_source none strict) ≡ missing 21 []) × (outcome btsnoop pcap_sample (by_source none strict) ≡ missing 3 []) ×
    -- 22: all four bytes, in the file's byte order
    (outcome pcap (linked false 202) (by_source none strict) ≡ missing 22 (202 ∷ [])) × (outcome pcap (linked true 202) (by_source none strict) ≡ missing 22 (202 ∷ [])) × (outcome pcap (linked false 0x200000C9) (by_source none strict) ≡ missing 22 (0x200000C9 ∷ [])) ×
    -- seconds and a fraction of more than one, rounded down
    (answer_to (row 4294967295 1999999 (toward rx) ∷ []) ≡ finds 18 (span 1 4294967296999 frame ∷ []) 0 66 (went 9 0 0 0)) ×
    -- a direction is four bytes big-endian, and compared whole; Tx is listed as Tx
    (answer_to (row 0 0 (toward (1 ∷ 0 ∷ 0 ∷ 0 ∷ [])) ∷ []) ≡ missing 6 []) × (answer_to (row 0 0 (toward (0 ∷ 0 ∷ 0 ∷ 3 ∷ [])) ∷ []) ≡ missing 6 []) ×
    (answer_to (row 0 0 (toward (0 ∷ 0 ∷ 0 ∷ 0 ∷ [])) ∷ []) ≡ finds 18 (span 0 0 frame ∷ []) 0 66 (went 9 0 0 0)) ×
    -- packets too short for a direction, or with nothing behind it, are skipped, and do not end the reading
    (answer_to (row 0 0 [] ∷ row 0 0 (2 ∷ 2 ∷ 2 ∷ []) ∷ row 0 0 rx ∷ row 0 0 (toward rx) ∷ []) ≡ finds 18 (span 1 0 frame ∷ []) 0 121 (went 9 0 0 0))
unfolding outcome is_btsnoop is_pcap is_big is_little is_nano number link_of is_link ends_well read tail_offset records records_in chop chop_from is_whole record_size be32 be64 le16 eq_k file_pieces packets_in packets packet_of directed_packet milliseconds fragment h4_packet pdus run after joined is_complete still_open pdu_of completed command_size is_command commands body signal_of signals_in pdu_signals signals any names named asks_for admits admitted_after admitted is_tried asks_rfcomm asks_session is_sabm is_uih short_length info_length info_start credit_of is_right fcs_of register shifted shift_one frame_of uih_kind frame_kind kind_by tried_by judged_from judged_by counted piece_of brought pieces seek spans_n rest_n spans_of rest_of capped spans unfinished on_dlci total dropped_n dropped_of cleared_of in_spans dropped cleared left count nub mem on_channel first has_frame chosen is_wrong wrong_on listed unpacks_of unpack_of judged_frame is_given checksum_of le32 rx_of
pcap_examples = (refl, refl, refl, refl, refl, refl, refl, refl, refl, refl, refl, refl, refl, refl, refl, refl, refl, refl, refl, refl)

-- the sizes: of the example; of it behind packets too short for a direction, or with nothing behind it; less its last byte; 21, 22; 2
pub sizes_of_pcap :
    (sized pcap pcap_sample 528 (by_source none strict) ≡ accepted (23 ∷ 1 ∷ 1 ∷ 1 ∷ [])) ×
    (sized pcap (file_of (row 0 0 [] ∷ row 0 0 (2 ∷ 2 ∷ 2 ∷ []) ∷ row 0 0 rx ∷ row 0 0 (toward rx) ∷ [])) 968 (by_source none strict) ≡ accepted (23 ∷ 4 ∷ 1 ∷ 1 ∷ [])) ×
    (sized pcap (take 65 pcap_sample) 520 (by_source none strict) ≡ refused 5 (24 ∷ [])) × (sized pcap (take 65 pcap_sample) 520 (by_source none tolerant) ≡ refused 6 []) ×
    (sized pcap sample 496 (by_source none strict) ≡ refused 21 []) × (sized pcap (linked true 202) 192 (by_source none strict) ≡ refused 22 (202 ∷ [])) ×
    (sized pcap pcap_sample 527 (by_source none strict) ≡ refused 2 [])
unfolding outcome is_btsnoop is_pcap is_big is_little is_nano number link_of is_link ends_well read tail_offset records records_in chop chop_from is_whole record_size be32 be64 le16 eq_k file_pieces packets_in packets packet_of directed_packet milliseconds fragment h4_packet pdus run after joined is_complete still_open pdu_of completed command_size is_command commands body signal_of signals_in pdu_signals signals any names named asks_for admits admitted_after admitted is_tried asks_rfcomm asks_session is_sabm is_uih short_length info_length info_start credit_of is_right fcs_of register shifted shift_one frame_of uih_kind frame_kind kind_by tried_by judged_from judged_by counted piece_of brought pieces seek spans_n rest_n spans_of rest_of capped spans unfinished on_dlci total dropped_n dropped_of cleared_of in_spans dropped cleared left count nub mem on_channel first has_frame chosen is_wrong wrong_on listed unpacks_of unpack_of judged_frame is_given checksum_of le32 rx_of imported fits work_suffices given item span_item span_list le64 sizes counts sized
sizes_of_pcap = (refl, refl, refl, refl, refl, refl, refl)
