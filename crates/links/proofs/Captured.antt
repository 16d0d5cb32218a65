-- The three packets of the examples in a pcap file: the same list as from btsnoop; and pcap's own refusals; by computation.
use Prim.Native.Nat.{ℕ, ◌+◌, ◌*◌}
use mathlib.Core.Path.{◌≡◌, refl}
use mathlib.Core.List.{List, [], ◌∷◌, ◌++◌}
use lib.ListN.{length, take}
use Rattle.laws.specs.Answers.{Outcome, refuses}
use Rattle.laws.specs.Chop.{chop, chop_from}
use Rattle.laws.specs.Keys.{eq_k}
use Rattle.laws.specs.Keyed.{run, after, keep}
use Rattle.laws.specs.Count.{count, nub, mem}
use Rattle.laws.specs.Numbers.{le, le16, le32, le64, be32, be64}
use Rattle.items.specs.Items.{span, item, span_item, span_list}
use Rattle.container.specs.Packets.{fragment, h4_packet, packets, of_link}
use Rattle.container.specs.Container.{is_whole, records_in, records, tail_offset, packets_in}
use Rattle.btsnoop.specs.Header.{is_btsnoop, datalink, is_datalink}
use Rattle.btsnoop.specs.Records.{record_size, btsnoop}
use Rattle.btsnoop.specs.Packets.{milliseconds, hci_packet, monitor_packet, packet_of}
use Rattle.pcap.specs.Header as pcap_header
use Rattle.pcap.specs.Records as pcap_records
use Rattle.pcap.specs.Packets as pcap_packets
use Rattle.pcap.specs.Pcap.{pcap}
use Rattle.trace.specs.Headers.{headed}
use Rattle.l2cap.specs.Pdus.{joined, is_complete, still_open, pdu_of, completed, pdus}
use Rattle.channels.specs.Signals.{command_size, is_command, commands, body, signal_of, signals_in, pdu_signals, signals}
use Rattle.channels.specs.Channels.{any, names, named, asks_for, admits, admitted_after, admitted, is_tried, asks_rfcomm, asks_session}
use Rattle.channels.specs.Tried.{tried_by}
use Rattle.uih.specs.Fcs.{shift_one, shifted, register, fcs_of}
use Rattle.uih.specs.Frames.{is_sabm, is_uih, short_length, info_length, info_start, credit_of, frame_of, is_right}
use Rattle.rfcomm.specs.Pieces.{uih_kind, frame_kind, kind_by, judged_from, judged_by, counted, piece_of, brought, pieces}
use Rattle.search.specs.Seek.{seek}
use Rattle.spans.specs.Scan.{spans_n, rest_n, spans_of, rest_of, capped}
use Rattle.spans.specs.Spans.{spans, unfinished, on_dlci}
use Rattle.outcome.specs.Import.{ends_well, fits, work_suffices}
use Rattle.opening.specs.Opening.{ends, heads, opened, or_given}
use Rattle.links.specs.OneLink.{pieces_of, may_ask, listed_of, own, one_link}
use Rattle.links.specs.Alone.{ReadsWhole}
use Rattle.cut.proofs.Made.{acl, pdu, request_of}
use Rattle.links.proofs.Made.{lists, frame, front, back, more, three, alone, among}

-- little-endian, in microseconds: a header; a record with direction (0 Tx, 1 Rx), milliseconds and a packet
abbrev head : List ℕ
head = pcap_header.little_micro ++ (le 2 2 ++ (le 2 4 ++ (le 4 0 ++ (le 4 0 ++ (le 4 65535 ++ le 4 201)))))

abbrev row : ℕ → ℕ → List ℕ → List ℕ
row rx ms b = le 4 0 ++ (le 4 (1000 * ms) ++ (le 4 (4 + length b) ++ (le 4 (4 + length b) ++ (0 ∷ 0 ∷ 0 ∷ rx ∷ b))))

-- between the three: the handle 0x41 names their CID, and a record of no direction
abbrev captured : List ℕ
captured =
    head ++
    (row 1 5 (acl 0x40 2 front) ++
    (row 0 6 (acl 0x41 2 (pdu 1 (request_of 1 0x41))) ++
    (row 1 6 (acl 0x40 1 back) ++
    (row 2 6 (acl 0x40 2 front) ++
    row 1 7 (acl 0x40 2 (more 1))))))

abbrev asked : List ℕ → ℕ → ℕ → ℕ → Outcome
asked f index handle d = one_link pcap f (8 * length f) index handle d

-- the same packets of the handle 0x40 as in the two btsnoop files; strict reading does not refuse
pub captured_same :
    (own pcap 0x40 captured ≡ three) ×
    (own pcap 0x40 captured ≡ own btsnoop 0x40 alone) ×
    (own pcap 0x40 captured ≡ own btsnoop 0x40 among) ×
    (ReadsWhole pcap captured (8 * length captured))
unfolding own of_link keep or_given opened heads ends headed ends_well fits work_suffices is_btsnoop datalink is_datalink tail_offset records records_in chop chop_from is_whole record_size be32 be64 le16 eq_k packets_in packets packet_of milliseconds fragment h4_packet hci_packet monitor_packet le32 pcap_header.is_big pcap_header.is_little pcap_header.is_nano pcap_header.is_pcap pcap_header.number pcap_header.link_of pcap_header.is_link pcap_records.record_size pcap_packets.milliseconds pcap_packets.directed_packet pcap_packets.packet_of
captured_same = (refl, refl, refl, refl)

-- the same list, of adapter 0 alone
pub captured_list :
    (asked captured 0 0x40 18 ≡ lists (span 1 6 (frame 0) ∷ span 1 7 (frame 1) ∷ []) 1) ×
    (asked captured 0 0x40 18 ≡ one_link btsnoop alone (8 * length alone) 0 0x40 18) ×
    (asked captured 0 0x40 18 ≡ one_link btsnoop among (8 * length among) 0 0x40 18) ×
    (asked captured 1 0x40 18 ≡ lists [] 0)
unfolding own of_link keep or_given opened heads ends headed ends_well fits work_suffices is_btsnoop datalink is_datalink tail_offset records records_in chop chop_from is_whole record_size be32 be64 le16 eq_k packets_in packets packet_of milliseconds fragment h4_packet hci_packet monitor_packet pdus run after joined is_complete still_open pdu_of completed command_size is_command commands body signal_of signals_in pdu_signals signals any names named asks_for admits admitted_after admitted is_tried asks_rfcomm asks_session is_sabm is_uih short_length info_length info_start credit_of is_right fcs_of register shifted shift_one frame_of uih_kind frame_kind kind_by tried_by judged_from judged_by counted piece_of brought pieces seek spans_n rest_n spans_of rest_of capped spans unfinished on_dlci one_link listed_of may_ask pieces_of count nub mem item span_item span_list le32 le64 pcap_header.is_big pcap_header.is_little pcap_header.is_nano pcap_header.is_pcap pcap_header.number pcap_header.link_of pcap_header.is_link pcap_records.record_size pcap_packets.milliseconds pcap_packets.directed_packet pcap_packets.packet_of
captured_list = (refl, refl, refl, refl)

-- 21, 22 and 5 before 23; 3 where the file is read as btsnoop
pub captured_refusals :
    (asked alone 0 4096 18 ≡ refuses 21 []) ×
    (asked (take 23 captured) 0 4096 18 ≡ refuses 21 []) ×
    (asked (take 20 captured ++ le 4 202) 0 4096 18 ≡ refuses 22 (202 ∷ [])) ×
    (asked (take 60 captured) 0 4096 18 ≡ refuses 5 (58 ∷ [])) ×
    (asked captured 0 4096 18 ≡ refuses 23 []) ×
    (one_link btsnoop captured (8 * length captured) 0 4096 18 ≡ refuses 3 [])
unfolding own of_link keep or_given opened heads ends headed ends_well fits work_suffices is_btsnoop datalink is_datalink tail_offset records records_in chop chop_from is_whole record_size be32 be64 le16 eq_k packets_in packets packet_of milliseconds fragment h4_packet hci_packet monitor_packet pdus run after joined is_complete still_open pdu_of completed command_size is_command commands body signal_of signals_in pdu_signals signals any names named asks_for admits admitted_after admitted is_tried asks_rfcomm asks_session is_sabm is_uih short_length info_length info_start credit_of is_right fcs_of register shifted shift_one frame_of uih_kind frame_kind kind_by tried_by judged_from judged_by counted piece_of brought pieces seek spans_n rest_n spans_of rest_of capped spans unfinished on_dlci one_link listed_of may_ask pieces_of count nub mem item span_item span_list le32 le64 pcap_header.is_big pcap_header.is_little pcap_header.is_nano pcap_header.is_pcap pcap_header.number pcap_header.link_of pcap_header.is_link pcap_records.record_size pcap_packets.milliseconds pcap_packets.directed_packet pcap_packets.packet_of
captured_refusals = (refl, refl, refl, refl, refl, refl)
