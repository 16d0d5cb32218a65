-- What the claim of independence says of files, and that it says no more than is so, by computation: files that hold the same packets of a link; files that differ in
-- one thing of them, and give other lists; each refusal; and that import's choice depends on other links.
use Prim.Native.Nat.{ℕ, ◌*◌}
use mathlib.Core.Path.{◌≡◌, refl, sym, ◌∙◌}
use mathlib.Core.Bool.{true, false}
use mathlib.Core.List.{List, [], ◌∷◌, ◌++◌}
use mathlib.Core.Option.{Option, none, some}
use native.Mathlib.Omega.{arith}
use lib.ListN.{length, take, replicate}
use Rattle.laws.specs.Answers.{accepted, refused, Outcome, gives, refuses, answer, output, is_given}
use Rattle.laws.specs.Stores.{filled}
use Rattle.laws.specs.Chop.{chop, chop_from}
use Rattle.laws.specs.Keys.{eq_k}
use Rattle.laws.specs.Keyed.{run, after, keep}
use Rattle.laws.specs.Count.{count, nub, mem}
use Rattle.laws.specs.Numbers.{le16, le32, le64, be32, be64}
use Rattle.items.specs.Items.{span, item, span_item, span_list}
use Rattle.mdr.specs.Escape.{within}
use Rattle.mdr.specs.Frame.{judged as judged_frame, unpack_of, unpacks_of}
use Rattle.mdr.specs.Sum.{checksum_of}
use Rattle.container.specs.Packets.{fragment, h4_packet, packets, of_link}
use Rattle.container.specs.Container.{is_whole, records_in, records, tail_offset, packets_in}
use Rattle.btsnoop.specs.Header.{is_btsnoop, datalink, is_datalink}
use Rattle.btsnoop.specs.Records.{record_size, btsnoop}
use Rattle.btsnoop.specs.Packets.{milliseconds, hci_packet, monitor_packet, packet_of}
use Rattle.trace.specs.Headers.{headed}
use Rattle.l2cap.specs.Pdus.{joined, is_complete, still_open, pdu_of, completed, pdus}
use Rattle.channels.specs.Signals.{command_size, is_command, commands, body, signal_of, signals_in, pdu_signals, signals}
use Rattle.channels.specs.Channels.{any, names, named, asks_for, admits, admitted_after, admitted, is_tried, asks_rfcomm, asks_session}
use Rattle.channels.specs.Tried.{source, tried_by}
use Rattle.uih.specs.Fcs.{shift_one, shifted, register, fcs_of}
use Rattle.uih.specs.Frames.{is_sabm, is_uih, short_length, info_length, info_start, credit_of, frame_of, is_right}
use Rattle.rfcomm.specs.Pieces.{unchecked, uih_kind, frame_kind, kind_by, judged_from, judged_by, counted, piece_of, brought, pieces}
use Rattle.search.specs.Seek.{seek}
use Rattle.spans.specs.Scan.{spans_n, rest_n, spans_of, rest_of, capped}
use Rattle.spans.specs.Spans.{spans, unfinished, on_dlci}
use Rattle.outcome.specs.Import.{on_channel, first, has_frame, chosen, file_pieces, ends_well, fits, work_suffices}
use Rattle.outcome.proofs.Examples.{sample}
use Rattle.opening.specs.Opening.{ends, heads, opened, or_given}
use Rattle.links.specs.OneLink.{pieces_of, may_ask, listed_of, own, one_link}
use Rattle.links.specs.Alone.{ReadsWhole}
use Rattle.cut.proofs.Made.{header_of}
use Rattle.links.proofs.Made.{lists, frame, begun, front, back, more, packet, three, alone_with, alone, turned, among, unpackable, sides, read_as}

-- the list of an adapter's index, a handle and a DLCI, with all the work that the file needs
abbrev asked : List ℕ → ℕ → ℕ → ℕ → Outcome
asked f index handle d = one_link btsnoop f (8 * length f) index handle d

-- ---- the worked example

abbrev list : List ℕ
list = 0x11 ∷ 0 ∷ 0 ∷ 0 ∷ 1 ∷ 0 ∷ 0 ∷ 0 ∷ 0 ∷ 0 ∷ 0 ∷ 0 ∷ 0 ∷ 0 ∷ 0x3E ∷ 1 ∷ 0 ∷ 0 ∷ 0 ∷ 0 ∷ 0 ∷ 1 ∷ 0x3C ∷ []

-- its list; none for another handle, adapter or DLCI; what is lent, and what is left of it
pub of_sample :
    (asked sample 0 0x40 18 ≡ gives (1 ∷ 0 ∷ 23 ∷ []) list) ×
    (asked sample 0 0x41 18 ≡ gives (0 ∷ 0 ∷ 0 ∷ []) []) ×
    (asked sample 1 0x40 18 ≡ gives (0 ∷ 0 ∷ 0 ∷ []) []) ×
    (asked sample 0 0x40 19 ≡ gives (0 ∷ 0 ∷ 0 ∷ []) []) ×
    (answer (asked sample 0 0x40 18) 23 ≡ accepted (1 ∷ 0 ∷ 23 ∷ [])) ×
    (answer (asked sample 0 0x40 18) 22 ≡ refused 7 (23 ∷ [])) ×
    (answer (asked sample 0 0x41 18) 0 ≡ accepted (0 ∷ 0 ∷ 0 ∷ [])) ×
    (output (asked sample 0 0x40 18) (replicate 25 7) ≡ list ++ (7 ∷ 7 ∷ []))
unfolding own of_link keep or_given opened heads ends headed ends_well fits work_suffices is_btsnoop datalink is_datalink tail_offset records records_in chop chop_from is_whole record_size be32 be64 le16 eq_k packets_in packets packet_of milliseconds fragment h4_packet hci_packet monitor_packet pdus run after joined is_complete still_open pdu_of completed command_size is_command commands body signal_of signals_in pdu_signals signals any names named asks_for admits admitted_after admitted is_tried asks_rfcomm asks_session is_sabm is_uih short_length info_length info_start credit_of is_right fcs_of register shifted shift_one frame_of uih_kind frame_kind kind_by tried_by judged_from judged_by counted piece_of brought pieces seek spans_n rest_n spans_of rest_of capped spans unfinished on_dlci one_link listed_of may_ask pieces_of count nub mem item span_item span_list le32 le64 answer output filled
of_sample = (refl, refl, refl, refl, refl, refl, refl, refl)

-- ---- two files

-- datalinks 1002 and 2001: the same packets of the handle 0x40 on adapter 0; strict reading refuses neither
pub pair_same :
    (own btsnoop 0x40 alone ≡ three) ×
    (own btsnoop 0x40 among ≡ three) ×
    (ReadsWhole btsnoop alone (8 * length alone)) ×
    (ReadsWhole btsnoop among (8 * length among))
unfolding own of_link keep or_given opened heads ends headed ends_well fits work_suffices is_btsnoop datalink is_datalink tail_offset records records_in chop chop_from is_whole record_size be32 be64 le16 eq_k packets_in packets packet_of milliseconds fragment h4_packet hci_packet monitor_packet
pair_same = (refl, refl, refl, refl)

-- the same list. Adapter 1's handle 0x40 has a list of its own, and so has the handle 0x41; adapter 65,535 has none.
pub pair_lists :
    (asked alone 0 0x40 18 ≡ lists (span 1 6 (frame 0) ∷ span 1 7 (frame 1) ∷ []) 1) ×
    (asked among 0 0x40 18 ≡ lists (span 1 6 (frame 0) ∷ span 1 7 (frame 1) ∷ []) 1) ×
    (asked among 1 0x40 18 ≡ lists (span 1 8 (frame 4) ∷ []) 0) ×
    (asked among 0 0x41 20 ≡ lists (span 1 1 (frame 3) ∷ []) 0) ×
    (asked among 65535 0x40 18 ≡ lists [] 0)
unfolding own of_link keep or_given opened heads ends headed ends_well fits work_suffices is_btsnoop datalink is_datalink tail_offset records records_in chop chop_from is_whole record_size be32 be64 le16 eq_k packets_in packets packet_of milliseconds fragment h4_packet hci_packet monitor_packet pdus run after joined is_complete still_open pdu_of completed command_size is_command commands body signal_of signals_in pdu_signals signals any names named asks_for admits admitted_after admitted is_tried asks_rfcomm asks_session is_sabm is_uih short_length info_length info_start credit_of is_right fcs_of register shifted shift_one frame_of uih_kind frame_kind kind_by tried_by judged_from judged_by counted piece_of brought pieces seek spans_n rest_n spans_of rest_of capped spans unfinished on_dlci one_link listed_of may_ask pieces_of count nub mem item span_item span_list le32 le64
pair_lists = (refl, refl, refl, refl, refl)

-- ---- what the claim asks for: each file's packets of the link differ from the three in one thing, and the list is another

-- direction
pub other_direction :
    (own btsnoop 0x40 (alone_with 1 0 7 1) ≡ packet 1 true 5 front ∷ packet 1 false 6 back ∷ packet 0 true 7 (more 1) ∷ []) ×
    (asked (alone_with 1 0 7 1) 0 0x40 18 ≡ lists (span 1 6 (frame 0) ∷ span 0 7 (frame 1) ∷ []) 1)
unfolding own of_link keep or_given opened heads ends headed ends_well fits work_suffices is_btsnoop datalink is_datalink tail_offset records records_in chop chop_from is_whole record_size be32 be64 le16 eq_k packets_in packets packet_of milliseconds fragment h4_packet hci_packet monitor_packet pdus run after joined is_complete still_open pdu_of completed command_size is_command commands body signal_of signals_in pdu_signals signals any names named asks_for admits admitted_after admitted is_tried asks_rfcomm asks_session is_sabm is_uih short_length info_length info_start credit_of is_right fcs_of register shifted shift_one frame_of uih_kind frame_kind kind_by tried_by judged_from judged_by counted piece_of brought pieces seek spans_n rest_n spans_of rest_of capped spans unfinished on_dlci one_link listed_of may_ask pieces_of count nub mem item span_item span_list le32 le64
other_direction = (refl, refl)

-- time
pub other_time :
    (own btsnoop 0x40 (alone_with 1 1 8 1) ≡ packet 1 true 5 front ∷ packet 1 false 6 back ∷ packet 1 true 8 (more 1) ∷ []) ×
    (asked (alone_with 1 1 8 1) 0 0x40 18 ≡ lists (span 1 6 (frame 0) ∷ span 1 8 (frame 1) ∷ []) 1)
unfolding own of_link keep or_given opened heads ends headed ends_well fits work_suffices is_btsnoop datalink is_datalink tail_offset records records_in chop chop_from is_whole record_size be32 be64 le16 eq_k packets_in packets packet_of milliseconds fragment h4_packet hci_packet monitor_packet pdus run after joined is_complete still_open pdu_of completed command_size is_command commands body signal_of signals_in pdu_signals signals any names named asks_for admits admitted_after admitted is_tried asks_rfcomm asks_session is_sabm is_uih short_length info_length info_start credit_of is_right fcs_of register shifted shift_one frame_of uih_kind frame_kind kind_by tried_by judged_from judged_by counted piece_of brought pieces seek spans_n rest_n spans_of rest_of capped spans unfinished on_dlci one_link listed_of may_ask pieces_of count nub mem item span_item span_list le32 le64
other_time = (refl, refl)

-- that a packet starts a PDU
pub other_start :
    (own btsnoop 0x40 (alone_with 2 1 7 1) ≡ packet 1 true 5 front ∷ packet 1 true 6 back ∷ packet 1 true 7 (more 1) ∷ []) ×
    (asked (alone_with 2 1 7 1) 0 0x40 18 ≡ lists (span 1 7 (frame 1) ∷ []) 1)
unfolding own of_link keep or_given opened heads ends headed ends_well fits work_suffices is_btsnoop datalink is_datalink tail_offset records records_in chop chop_from is_whole record_size be32 be64 le16 eq_k packets_in packets packet_of milliseconds fragment h4_packet hci_packet monitor_packet pdus run after joined is_complete still_open pdu_of completed command_size is_command commands body signal_of signals_in pdu_signals signals any names named asks_for admits admitted_after admitted is_tried asks_rfcomm asks_session is_sabm is_uih short_length info_length info_start credit_of is_right fcs_of register shifted shift_one frame_of uih_kind frame_kind kind_by tried_by judged_from judged_by counted piece_of brought pieces seek spans_n rest_n spans_of rest_of capped spans unfinished on_dlci one_link listed_of may_ask pieces_of count nub mem item span_item span_list le32 le64
other_start = (refl, refl)

-- data
pub other_data :
    (own btsnoop 0x40 (alone_with 1 1 7 2) ≡ packet 1 true 5 front ∷ packet 1 false 6 back ∷ packet 1 true 7 (more 2) ∷ []) ×
    (asked (alone_with 1 1 7 2) 0 0x40 18 ≡ lists (span 1 6 (frame 0) ∷ span 1 7 (frame 2) ∷ []) 1)
unfolding own of_link keep or_given opened heads ends headed ends_well fits work_suffices is_btsnoop datalink is_datalink tail_offset records records_in chop chop_from is_whole record_size be32 be64 le16 eq_k packets_in packets packet_of milliseconds fragment h4_packet hci_packet monitor_packet pdus run after joined is_complete still_open pdu_of completed command_size is_command commands body signal_of signals_in pdu_signals signals any names named asks_for admits admitted_after admitted is_tried asks_rfcomm asks_session is_sabm is_uih short_length info_length info_start credit_of is_right fcs_of register shifted shift_one frame_of uih_kind frame_kind kind_by tried_by judged_from judged_by counted piece_of brought pieces seek spans_n rest_n spans_of rest_of capped spans unfinished on_dlci one_link listed_of may_ask pieces_of count nub mem item span_item span_list le32 le64
other_data = (refl, refl)

-- order
pub other_order :
    (own btsnoop 0x40 turned ≡ packet 1 true 7 (more 1) ∷ packet 1 true 5 front ∷ packet 1 false 6 back ∷ []) ×
    (asked turned 0 0x40 18 ≡ lists (span 1 7 (frame 1) ∷ span 1 6 (begun ++ frame 0) ∷ []) 0)
unfolding own of_link keep or_given opened heads ends headed ends_well fits work_suffices is_btsnoop datalink is_datalink tail_offset records records_in chop chop_from is_whole record_size be32 be64 le16 eq_k packets_in packets packet_of milliseconds fragment h4_packet hci_packet monitor_packet pdus run after joined is_complete still_open pdu_of completed command_size is_command commands body signal_of signals_in pdu_signals signals any names named asks_for admits admitted_after admitted is_tried asks_rfcomm asks_session is_sabm is_uih short_length info_length info_start credit_of is_right fcs_of register shifted shift_one frame_of uih_kind frame_kind kind_by tried_by judged_from judged_by counted piece_of brought pieces seek spans_n rest_n spans_of rest_of capped spans unfinished on_dlci one_link listed_of may_ask pieces_of count nub mem item span_item span_list le32 le64
other_order = (refl, refl)

-- Packets, not bytes of records: on datalink 1002 the handle stands behind the first byte, and is another.
pub other_reading :
    (records btsnoop (read_as 1001) ≡ records btsnoop (read_as 1002)) ×
    (asked (read_as 1001) 0 0x0202 18 ≡ lists (span 1 5 (frame 0) ∷ []) 0) ×
    (asked (read_as 1002) 0 0x0202 18 ≡ lists [] 0)
unfolding own of_link keep or_given opened heads ends headed ends_well fits work_suffices is_btsnoop datalink is_datalink tail_offset records records_in chop chop_from is_whole record_size be32 be64 le16 eq_k packets_in packets packet_of milliseconds fragment h4_packet hci_packet monitor_packet pdus run after joined is_complete still_open pdu_of completed command_size is_command commands body signal_of signals_in pdu_signals signals any names named asks_for admits admitted_after admitted is_tried asks_rfcomm asks_session is_sabm is_uih short_length info_length info_start credit_of is_right fcs_of register shifted shift_one frame_of uih_kind frame_kind kind_by tried_by judged_from judged_by counted piece_of brought pieces seek spans_n rest_n spans_of rest_of capped spans unfinished on_dlci one_link listed_of may_ask pieces_of count nub mem item span_item span_list le32 le64
other_reading = (refl, refl, refl)

-- that strict reading does not refuse: here is a byte more; that enough is lent
pub refused_or_short :
    (own btsnoop 0x40 (alone ++ (0 ∷ [])) ≡ three) ×
    (asked (alone ++ (0 ∷ [])) 0 0x40 18 ≡ refuses 5 (length alone ∷ [])) ×
    (answer (asked alone 0 0x40 18) 48 ≡ accepted (2 ∷ 1 ∷ 48 ∷ [])) ×
    (answer (asked among 0 0x40 18) 47 ≡ refused 7 (48 ∷ []))
unfolding own of_link keep or_given opened heads ends headed ends_well fits work_suffices is_btsnoop datalink is_datalink tail_offset records records_in chop chop_from is_whole record_size be32 be64 le16 eq_k packets_in packets packet_of milliseconds fragment h4_packet hci_packet monitor_packet pdus run after joined is_complete still_open pdu_of completed command_size is_command commands body signal_of signals_in pdu_signals signals any names named asks_for admits admitted_after admitted is_tried asks_rfcomm asks_session is_sabm is_uih short_length info_length info_start credit_of is_right fcs_of register shifted shift_one frame_of uih_kind frame_kind kind_by tried_by judged_from judged_by counted piece_of brought pieces seek spans_n rest_n spans_of rest_of capped spans unfinished on_dlci one_link listed_of may_ask pieces_of count nub mem item span_item span_list le32 le64 answer
refused_or_short = (refl, refl, refl, refl)

-- ---- DLCIs

-- 18 and 19 are one channel, and two lists. A span that does not unpack is listed. A list may be empty, and a buffer unfinished.
pub each_dlci :
    (asked sides 0 0x40 18 ≡ lists (span 1 1 (frame 0) ∷ []) 0) ×
    (asked sides 0 0x40 19 ≡ lists (span 0 2 unpackable ∷ []) 0) ×
    (asked sides 0 0x40 20 ≡ lists [] 1) ×
    (asked sides 0 0x40 21 ≡ lists [] 0)
unfolding own of_link keep or_given opened heads ends headed ends_well fits work_suffices is_btsnoop datalink is_datalink tail_offset records records_in chop chop_from is_whole record_size be32 be64 le16 eq_k packets_in packets packet_of milliseconds fragment h4_packet hci_packet monitor_packet pdus run after joined is_complete still_open pdu_of completed command_size is_command commands body signal_of signals_in pdu_signals signals any names named asks_for admits admitted_after admitted is_tried asks_rfcomm asks_session is_sabm is_uih short_length info_length info_start credit_of is_right fcs_of register shifted shift_one frame_of uih_kind frame_kind kind_by tried_by judged_from judged_by counted piece_of brought pieces seek spans_n rest_n spans_of rest_of capped spans unfinished on_dlci one_link listed_of may_ask pieces_of count nub mem item span_item span_list le32 le64
each_dlci = (refl, refl, refl, refl)

-- ---- refusals, in their order

-- 23: a handle over 4,095, also where no output is lent; the DLCIs 0 and 64. 4,095, 1 and 63 are taken
pub of_23 :
    (asked sample 0 4096 18 ≡ refuses 23 []) ×
    (answer (asked sample 0 4096 18) 0 ≡ refused 23 []) ×
    (asked sample 0 0x40 0 ≡ refuses 23 []) ×
    (asked sample 0 0x40 64 ≡ refuses 23 []) ×
    (asked sample 0 4095 1 ≡ lists [] 0) ×
    (asked sample 0 0x40 63 ≡ lists [] 0)
unfolding own of_link keep or_given opened heads ends headed ends_well fits work_suffices is_btsnoop datalink is_datalink tail_offset records records_in chop chop_from is_whole record_size be32 be64 le16 eq_k packets_in packets packet_of milliseconds fragment h4_packet hci_packet monitor_packet pdus run after joined is_complete still_open pdu_of completed command_size is_command commands body signal_of signals_in pdu_signals signals any names named asks_for admits admitted_after admitted is_tried asks_rfcomm asks_session is_sabm is_uih short_length info_length info_start credit_of is_right fcs_of register shifted shift_one frame_of uih_kind frame_kind kind_by tried_by judged_from judged_by counted piece_of brought pieces seek spans_n rest_n spans_of rest_of capped spans unfinished on_dlci one_link listed_of may_ask pieces_of count nub mem item span_item span_list le32 le64 answer
of_23 = (refl, refl, refl, refl, refl, refl)

-- 2, 3, 4 and 5 before 23
pub before_23 :
    (one_link btsnoop (take 15 sample) 119 0 4096 18 ≡ refuses 2 []) ×
    (asked (take 15 sample) 0 4096 18 ≡ refuses 3 []) ×
    (asked (header_of 1003) 0 4096 18 ≡ refuses 4 (1003 ∷ [])) ×
    (asked (take 61 sample) 0 4096 18 ≡ refuses 5 (16 ∷ []))
unfolding own of_link keep or_given opened heads ends headed ends_well fits work_suffices is_btsnoop datalink is_datalink tail_offset records records_in chop chop_from is_whole record_size be32 be64 le16 eq_k packets_in packets packet_of milliseconds fragment h4_packet hci_packet monitor_packet pdus run after joined is_complete still_open pdu_of completed command_size is_command commands body signal_of signals_in pdu_signals signals any names named asks_for admits admitted_after admitted is_tried asks_rfcomm asks_session is_sabm is_uih short_length info_length info_start credit_of is_right fcs_of register shifted shift_one frame_of uih_kind frame_kind kind_by tried_by judged_from judged_by counted piece_of brought pieces seek spans_n rest_n spans_of rest_of capped spans unfinished on_dlci one_link listed_of may_ask pieces_of count nub mem item span_item span_list le32 le64
before_23 = (refl, refl, refl, refl)

-- ---- import's choice

-- with the same packets of the link, import chooses DLCI 18 in one file and 20 in the other
choices : (chosen none (file_pieces btsnoop (unchecked source) alone) ≡ some 18) × (chosen none (file_pieces btsnoop (unchecked source) among) ≡ some 20)
unfolding is_btsnoop datalink is_datalink tail_offset records records_in chop chop_from is_whole record_size be32 be64 le16 eq_k packets_in packets packet_of milliseconds fragment h4_packet hci_packet monitor_packet pdus run after joined is_complete still_open pdu_of completed command_size is_command commands body signal_of signals_in pdu_signals signals any names named asks_for admits admitted_after admitted is_tried asks_rfcomm asks_session is_sabm is_uih short_length info_length info_start credit_of is_right fcs_of register shifted shift_one frame_of uih_kind frame_kind kind_by tried_by judged_from judged_by counted piece_of brought pieces seek spans_n rest_n spans_of rest_of capped spans unfinished on_dlci on_channel first has_frame chosen file_pieces within unpacks_of unpack_of judged_frame is_given checksum_of
choices = (refl, refl)

-- so it does not depend on one link's packets alone
pub import_not_alone :
    ((f : List ℕ) (work : ℕ) (f₂ : List ℕ) (work₂ : ℕ) → ReadsWhole btsnoop f work → ReadsWhole btsnoop f₂ work₂ → own btsnoop 0x40 f ≡ own btsnoop 0x40 f₂ →
    chosen none (file_pieces btsnoop (unchecked source) f) ≡ chosen none (file_pieces btsnoop (unchecked source) f₂)) → ⊥
import_not_alone h =
    let same : own btsnoop 0x40 alone ≡ own btsnoop 0x40 among = pair_same.0 ∙ sym pair_same.1 in
    let e : ◌≡◌ {A = Option ℕ} (some 18) (some 20) = sym choices.0 ∙ h alone (8 * length alone) among (8 * length among) pair_same.2 pair_same.3 same ∙ choices.1 in
    let z : ◌≡◌ {A = ℕ} 18 20 = cc in
    omega arith
