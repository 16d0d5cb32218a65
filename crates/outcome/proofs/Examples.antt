-- By computation: the worked example and its cut by one byte, each refusal, document 01's own examples of 1 to 7, whose buffers are counted, and
-- where bytes went; and sizes, of these and of a file whose four numbers differ.
use Prim.Native.Nat.{ℕ, ◌<◌}
use mathlib.Core.Path.{◌≡◌, refl}
use mathlib.Core.Bool.{true}
use mathlib.Core.List.{List, [], ◌∷◌, ◌++◌}
use mathlib.Core.Option.{none, some}
use native.Mathlib.Omega.{arith}
use lib.ListN.{length, take, drop, replicate, length-replicate}
use borrow.Author.Tests.{lt-leb}
use Rattle.laws.specs.Answers.{Answer, accepted, refused, refuses, answer, is_given}
use Rattle.laws.specs.Chop.{chop, chop_from}
use Rattle.laws.specs.Keys.{eq_k}
use Rattle.laws.specs.Keyed.{run, after}
use Rattle.laws.specs.Count.{count, nub, mem}
use Rattle.laws.specs.Totals.{total}
use Rattle.laws.specs.Numbers.{le16, le32, le64, be32, be64}
use Rattle.items.specs.Items.{Span, item, span_item, span_list}
use Rattle.mdr.specs.Frame.{judged as judged_frame, unpack_of, unpacks_of}
use Rattle.mdr.specs.Sum.{checksum_of}
use Rattle.btsnoop.specs.Header.{is_btsnoop, datalink, is_datalink}
use Rattle.container.specs.Packets.{fragment, h4_packet, packets}
use Rattle.container.specs.Container.{is_whole, records_in, records, tail_offset, packets_in}
use Rattle.btsnoop.specs.Records.{record_size, btsnoop}
use Rattle.btsnoop.specs.Packets.{milliseconds, hci_packet, monitor_packet, packet_of}
use Rattle.l2cap.specs.Pdus.{joined, is_complete, still_open, pdu_of, completed, pdus}
use Rattle.channels.specs.Signals.{command_size, is_command, commands, body, signal_of, signals_in, pdu_signals, signals}
use Rattle.channels.specs.Channels.{any, names, named, asks_for, admits, admitted_after, admitted, is_tried, asks_rfcomm, asks_session}
use Rattle.channels.specs.Tried.{source, tried_by}
use Rattle.uih.specs.Fcs.{shift_one, shifted, register, fcs_of}
use Rattle.uih.specs.Frames.{is_sabm, is_uih, short_length, info_length, info_start, credit_of, frame_of, is_right}
use Rattle.rfcomm.specs.Pieces.{uih_kind, frame_kind, kind_by, judged_from, judged_by, counted, piece_of, brought, pieces, is_wrong, wrong_on}
use Rattle.search.specs.Seek.{seek}
use Rattle.spans.specs.Scan.{spans_n, rest_n, spans_of, rest_of, capped}
use Rattle.spans.specs.Spans.{spans, unfinished, on_dlci}
use Rattle.spans.specs.Account.{Account, dropped_n, dropped_of, cleared_of, in_spans, dropped, cleared, left}
use Rattle.outcome.specs.Import.{Options, strict, tolerant, by_source, on_channel, first, has_frame, chosen, Found, found, missing, listed, file_pieces, read, ends_well, outcome, given, fits, work_suffices, places_suffice, imported, imported_in}
use Rattle.outcome.specs.Sizes.{sizes, counts, sized}

abbrev pub sample : List ℕ
sample =
    0x62 ∷ 0x74 ∷ 0x73 ∷ 0x6E ∷ 0x6F ∷ 0x6F ∷ 0x70 ∷ 0x00 ∷ 0x00 ∷ 0x00 ∷ 0x00 ∷ 0x01 ∷ 0x00 ∷ 0x00 ∷ 0x03 ∷ 0xEA ∷
    0x00 ∷ 0x00 ∷ 0x00 ∷ 0x16 ∷ 0x00 ∷ 0x00 ∷ 0x00 ∷ 0x16 ∷ 0x00 ∷ 0x00 ∷ 0x00 ∷ 0x01 ∷ 0x00 ∷ 0x00 ∷ 0x00 ∷ 0x00 ∷
    0x00 ∷ 0xDC ∷ 0xDD ∷ 0xB3 ∷ 0x0F ∷ 0x2F ∷ 0x80 ∷ 0x00 ∷
    0x02 ∷ 0x40 ∷ 0x20 ∷ 0x11 ∷ 0x00 ∷ 0x0D ∷ 0x00 ∷ 0x41 ∷ 0x00 ∷ 0x49 ∷ 0xEF ∷ 0x13 ∷
    0x3E ∷ 0x01 ∷ 0x00 ∷ 0x00 ∷ 0x00 ∷ 0x00 ∷ 0x00 ∷ 0x01 ∷ 0x3C ∷ 0x00 ∷ []

abbrev frame : List ℕ
frame = 0x3E ∷ 0x01 ∷ 0x00 ∷ 0x00 ∷ 0x00 ∷ 0x00 ∷ 0x00 ∷ 0x01 ∷ 0x3C ∷ []

-- bytes in spans, dropped, cleared, left
abbrev pub went : ℕ → ℕ → ℕ → ℕ → Account
went a b c d = record { in_spans = a; dropped = b; cleared = c; left = d }

-- DLCI, spans, unfinished, tail offset, no frame with a wrong FCS, and where the bytes went
abbrev pub finds : ℕ → List Span → ℕ → ℕ → Account → Found
finds d ss many tail account = found (record { dlci = d; spans = ss; unfinished = many; tail = tail; wrong = 0; account = account })

abbrev one : List Span
one = record { rx = 1; time = 0; wire = frame } ∷ []

pub example :
    (outcome btsnoop sample (by_source none strict) ≡ finds 18 one 0 62 (went 9 0 0 0)) ×
    (outcome btsnoop (take 61 sample) (by_source none strict) ≡ missing 5 (16 ∷ [])) ×
    (outcome btsnoop (take 61 sample) (by_source none tolerant) ≡ missing 6 [])
unfolding outcome is_btsnoop datalink is_datalink ends_well read tail_offset records records_in chop chop_from is_whole record_size be32 be64 le16 eq_k file_pieces packets_in packets packet_of milliseconds fragment h4_packet hci_packet monitor_packet pdus run after joined is_complete still_open pdu_of completed command_size is_command commands body signal_of signals_in pdu_signals signals any names named asks_for admits admitted_after admitted is_tried asks_rfcomm asks_session is_sabm is_uih short_length info_length info_start credit_of is_right fcs_of register shifted shift_one frame_of uih_kind frame_kind kind_by tried_by judged_from judged_by counted piece_of brought pieces seek spans_n rest_n spans_of rest_of capped spans unfinished on_dlci total dropped_n dropped_of cleared_of in_spans dropped cleared left count nub mem on_channel first has_frame chosen is_wrong wrong_on listed unpacks_of unpack_of judged_frame is_given checksum_of
example = (refl, refl, refl)

-- the header of another datalink, 1000
abbrev other : List ℕ
other = take 14 sample ++ (0x03 ∷ 0xE8 ∷ [])

-- 2: work, or places for stretches; 3; 4; 5; 6: no record, or another channel; 7
pub refusals :
    (imported btsnoop sample 495 (by_source none strict) ≡ refuses 2 []) ×
    (imported_in btsnoop sample 496 1 (by_source none strict) ≡ refuses 2 []) ×
    (imported btsnoop (take 15 sample) 120 (by_source none strict) ≡ refuses 3 []) ×
    (imported btsnoop other 128 (by_source none strict) ≡ refuses 4 (1000 ∷ [])) ×
    (imported btsnoop (take 61 sample) 488 (by_source none strict) ≡ refuses 5 (16 ∷ [])) ×
    (imported btsnoop (take 16 sample) 128 (by_source none strict) ≡ refuses 6 []) ×
    (imported btsnoop sample 496 (by_source (some 8) strict) ≡ refuses 6 []) ×
    (answer (imported btsnoop sample 496 (by_source (some 9) strict)) 22 ≡ refused 7 (23 ∷ []))
unfolding outcome is_btsnoop datalink is_datalink ends_well read tail_offset records records_in chop chop_from is_whole record_size be32 be64 le16 eq_k file_pieces packets_in packets packet_of milliseconds fragment h4_packet hci_packet monitor_packet pdus run after joined is_complete still_open pdu_of completed command_size is_command commands body signal_of signals_in pdu_signals signals any names named asks_for admits admitted_after admitted is_tried asks_rfcomm asks_session is_sabm is_uih short_length info_length info_start credit_of is_right fcs_of register shifted shift_one frame_of uih_kind frame_kind kind_by tried_by judged_from judged_by counted piece_of brought pieces seek spans_n rest_n spans_of rest_of capped spans unfinished on_dlci total dropped_n dropped_of cleared_of in_spans dropped cleared left count nub mem on_channel first has_frame chosen is_wrong wrong_on listed unpacks_of unpack_of judged_frame is_given checksum_of imported imported_in fits work_suffices places_suffice given answer item span_item span_list le32 le64
refusals = (refl, refl, refl, refl, refl, refl, refl, refl)

-- ---- document 01's own examples

-- over 1,048,576 bytes, whatever else is asked
over : (f : List ℕ) (n : ℕ) → length f ≡ n → 1048576 < n → (work : ℕ) (o : Options) → imported btsnoop f work o ≡ refuses 1 []
unfolding imported fits
over f n e h work o = rw (e, lt-leb n 1048576 h)

-- 1: 1,048,577 zeros
pub zeros : (work : ℕ) (o : Options) → imported btsnoop (replicate 1048577 0x00) work o ≡ refuses 1 []
zeros work o = over (replicate 1048577 0x00) 1048577 (length-replicate {A = ℕ} 1048577 0x00) (omega arith) work o

abbrev bare_header : List ℕ
bare_header = take 16 sample

-- the answer of strict import on any channel, with so many bytes of work and output lent
abbrev told : List ℕ → ℕ → ℕ → Answer
told f work room = answer (imported btsnoop f work (by_source none strict)) room

-- 2: bare header, work of 127. 3: 15 bytes. 4: n = 1003. 5: header and one byte. 6: bare header. 7: one 9-byte span, 22 lent
pub literal :
    (told bare_header 127 0 ≡ refused 2 []) ×
    (told (take 15 sample) 120 0 ≡ refused 3 []) ×
    (told (take 14 sample ++ (0x03 ∷ 0xEB ∷ [])) 128 0 ≡ refused 4 (1003 ∷ [])) ×
    (told (bare_header ++ (0x00 ∷ [])) 136 0 ≡ refused 5 (16 ∷ [])) ×
    (told bare_header 128 0 ≡ refused 6 []) ×
    (told sample 496 22 ≡ refused 7 (23 ∷ []))
unfolding outcome is_btsnoop datalink is_datalink ends_well read tail_offset records records_in chop chop_from is_whole record_size be32 be64 le16 eq_k file_pieces packets_in packets packet_of milliseconds fragment h4_packet hci_packet monitor_packet pdus run after joined is_complete still_open pdu_of completed command_size is_command commands body signal_of signals_in pdu_signals signals any names named asks_for admits admitted_after admitted is_tried asks_rfcomm asks_session is_sabm is_uih short_length info_length info_start credit_of is_right fcs_of register shifted shift_one frame_of uih_kind frame_kind kind_by tried_by judged_from judged_by counted piece_of brought pieces seek spans_n rest_n spans_of rest_of capped spans unfinished on_dlci total dropped_n dropped_of cleared_of in_spans dropped cleared left count nub mem on_channel first has_frame chosen is_wrong wrong_on listed unpacks_of unpack_of judged_frame is_given checksum_of imported imported_in fits work_suffices places_suffice given answer item span_item span_list le32 le64
literal = (refl, refl, refl, refl, refl, refl)

-- ---- `unfinished` counts buffers of the DLCI chosen only

-- a record with three bytes of information, on the handle and in the direction of the example's: by a CID and the first byte of RFCOMM
abbrev three : ℕ → ℕ → List ℕ → List ℕ
three cid address information =
    0x00 ∷ 0x00 ∷ 0x00 ∷ 0x10 ∷ 0x00 ∷ 0x00 ∷ 0x00 ∷ 0x10 ∷ 0x00 ∷ 0x00 ∷ 0x00 ∷ 0x01 ∷ 0x00 ∷ 0x00 ∷ 0x00 ∷ 0x00 ∷
    0x00 ∷ 0xDC ∷ 0xDD ∷ 0xB3 ∷ 0x0F ∷ 0x2F ∷ 0x80 ∷ 0x00 ∷
    0x02 ∷ 0x40 ∷ 0x20 ∷ 0x0B ∷ 0x00 ∷ 0x07 ∷ 0x00 ∷ cid ∷ 0x00 ∷ address ∷ 0xEF ∷ 0x07 ∷ (information ++ (0x00 ∷ []))

-- before the example's
abbrev with_three : ℕ → ℕ → List ℕ → List ℕ
with_three cid address information = bare_header ++ (three cid address information ++ drop 16 sample)

-- with the beginning of a frame
abbrev with_beginning : ℕ → ℕ → List ℕ
with_beginning cid address = with_three cid address (0x3E ∷ 0x01 ∷ 0x00 ∷ [])

-- DLCI 20 in the frame's own stretch and in another, before the frame: not counted. DLCI 18 in another stretch: counted
pub unfinished_of_chosen :
    (outcome btsnoop (with_beginning 0x41 0x51) (by_source none strict) ≡ finds 18 one 0 102 (went 9 0 0 0)) ×
    (outcome btsnoop (with_beginning 0x42 0x51) (by_source none strict) ≡ finds 18 one 0 102 (went 9 0 0 0)) ×
    (outcome btsnoop (with_beginning 0x42 0x49) (by_source none strict) ≡ finds 18 one 1 102 (went 9 0 0 3))
unfolding outcome is_btsnoop datalink is_datalink ends_well read tail_offset records records_in chop chop_from is_whole record_size be32 be64 le16 eq_k file_pieces packets_in packets packet_of milliseconds fragment h4_packet hci_packet monitor_packet pdus run after joined is_complete still_open pdu_of completed command_size is_command commands body signal_of signals_in pdu_signals signals any names named asks_for admits admitted_after admitted is_tried asks_rfcomm asks_session is_sabm is_uih short_length info_length info_start credit_of is_right fcs_of register shifted shift_one frame_of uih_kind frame_kind kind_by tried_by judged_from judged_by counted piece_of brought pieces seek spans_n rest_n spans_of rest_of capped spans unfinished on_dlci total dropped_n dropped_of cleared_of in_spans dropped cleared left count nub mem on_channel first has_frame chosen is_wrong wrong_on listed unpacks_of unpack_of judged_frame is_given checksum_of
unfinished_of_chosen = (refl, refl, refl)

-- ---- where bytes went, of the DLCI chosen only

-- a 3C without a start, a byte before a start, and that start, which is left; the same on another DLCI; no start; a span that does not unpack, and a byte behind it
pub account_of_chosen :
    (outcome btsnoop (with_three 0x42 0x49 (0x3C ∷ 0x05 ∷ 0x3E ∷ [])) (by_source none strict) ≡ finds 18 one 1 102 (went 9 2 0 1)) ×
    (outcome btsnoop (with_three 0x42 0x51 (0x3C ∷ 0x05 ∷ 0x3E ∷ [])) (by_source none strict) ≡ finds 18 one 0 102 (went 9 0 0 0)) ×
    (outcome btsnoop (with_three 0x42 0x49 (0x05 ∷ 0x06 ∷ 0x07 ∷ [])) (by_source none strict) ≡ finds 18 one 0 102 (went 9 3 0 0)) ×
    (outcome btsnoop (with_three 0x41 0x49 (0x3E ∷ 0x3C ∷ 0x05 ∷ [])) (by_source none strict) ≡ finds 18 (record { rx = 1; time = 0; wire = 0x3E ∷ 0x3C ∷ [] } ∷ one) 0 102 (went 11 1 0 0))
unfolding outcome is_btsnoop datalink is_datalink ends_well read tail_offset records records_in chop chop_from is_whole record_size be32 be64 le16 eq_k file_pieces packets_in packets packet_of milliseconds fragment h4_packet hci_packet monitor_packet pdus run after joined is_complete still_open pdu_of completed command_size is_command commands body signal_of signals_in pdu_signals signals any names named asks_for admits admitted_after admitted is_tried asks_rfcomm asks_session is_sabm is_uih short_length info_length info_start credit_of is_right fcs_of register shifted shift_one frame_of uih_kind frame_kind kind_by tried_by judged_from judged_by counted piece_of brought pieces seek spans_n rest_n spans_of rest_of capped spans unfinished on_dlci total dropped_n dropped_of cleared_of in_spans dropped cleared left count nub mem on_channel first has_frame chosen is_wrong wrong_on listed unpacks_of unpack_of judged_frame is_given checksum_of
account_of_chosen = (refl, refl, refl, refl)

-- ---- sizes before import

-- the worked example; its cut by one byte; work one short
pub sizes_of_sample :
    (sized btsnoop sample 496 (by_source none strict) ≡ accepted (23 ∷ 1 ∷ 1 ∷ 1 ∷ [])) ×
    (sized btsnoop (take 61 sample) 488 (by_source none strict) ≡ refused 5 (16 ∷ [])) ×
    (sized btsnoop (take 61 sample) 488 (by_source none tolerant) ≡ refused 6 []) ×
    (sized btsnoop sample 495 (by_source none strict) ≡ refused 2 [])
unfolding outcome is_btsnoop datalink is_datalink ends_well read tail_offset records records_in chop chop_from is_whole record_size be32 be64 le16 eq_k file_pieces packets_in packets packet_of milliseconds fragment h4_packet hci_packet monitor_packet pdus run after joined is_complete still_open pdu_of completed command_size is_command commands body signal_of signals_in pdu_signals signals any names named asks_for admits admitted_after admitted is_tried asks_rfcomm asks_session is_sabm is_uih short_length info_length info_start credit_of is_right fcs_of register shifted shift_one frame_of uih_kind frame_kind kind_by tried_by judged_from judged_by counted piece_of brought pieces seek spans_n rest_n spans_of rest_of capped spans unfinished on_dlci total dropped_n dropped_of cleared_of in_spans dropped cleared left count nub mem on_channel first has_frame chosen is_wrong wrong_on listed unpacks_of unpack_of judged_frame is_given checksum_of imported fits work_suffices given item span_item span_list le32 le64 sizes counts sized
sizes_of_sample = (refl, refl, refl, refl)

-- a record of so many bytes
abbrev holding : ℕ → List ℕ → List ℕ
holding n b =
    0x00 ∷ 0x00 ∷ 0x00 ∷ n ∷ 0x00 ∷ 0x00 ∷ 0x00 ∷ n ∷ 0x00 ∷ 0x00 ∷ 0x00 ∷ 0x01 ∷ 0x00 ∷ 0x00 ∷ 0x00 ∷ 0x00 ∷
    0x00 ∷ 0xDC ∷ 0xDD ∷ 0xB3 ∷ 0x0F ∷ 0x2F ∷ 0x80 ∷ 0x00 ∷ b

-- no byte; an event, which is skipped; a request on CID 1, which is not tried; UIH without information; a piece on DLCI 20; the example's record, with the right FCS; the first fragment of a PDU
abbrev apart : List ℕ
apart =
    bare_header ++
    (holding 0 [] ++
    (holding 4 (0x04 ∷ 0x0E ∷ 0x01 ∷ 0x00 ∷ []) ++
    (holding 17 (0x02 ∷ 0x40 ∷ 0x20 ∷ 0x0C ∷ 0x00 ∷ 0x08 ∷ 0x00 ∷ 0x01 ∷ 0x00 ∷ 0x02 ∷ 0x01 ∷ 0x04 ∷ 0x00 ∷ 0x01 ∷ 0x00 ∷ 0x60 ∷ 0x00 ∷ []) ++
    (holding 13 (0x02 ∷ 0x40 ∷ 0x20 ∷ 0x08 ∷ 0x00 ∷ 0x04 ∷ 0x00 ∷ 0x41 ∷ 0x00 ∷ 0x49 ∷ 0xEF ∷ 0x01 ∷ 0x14 ∷ []) ++
    (three 0x42 0x51 (0x05 ∷ 0x06 ∷ 0x07 ∷ []) ++
    (take 45 (drop 16 sample) ++ (0x14 ∷
    holding 10 (0x02 ∷ 0x40 ∷ 0x20 ∷ 0x05 ∷ 0x00 ∷ 0x09 ∷ 0x00 ∷ 0x43 ∷ 0x00 ∷ 0x49 ∷ []))))))))

-- 7 records, of which 5 hold packets; 4 PDUs, of which 3 are tried; 2 pieces, of which one is on the DLCI chosen, and the other has a wrong FCS. A record that passes the end is none.
pub sizes_of_apart :
    (sized btsnoop apart 2128 (by_source none strict) ≡ accepted (23 ∷ 7 ∷ 4 ∷ 2 ∷ [])) ×
    (sized btsnoop apart 2128 (record { channel = none; tail = strict; judging = record { rule = source; fcs = true } }) ≡ accepted (23 ∷ 7 ∷ 4 ∷ 1 ∷ [])) ×
    (sized btsnoop (take 265 apart) 2120 (by_source (some 9) tolerant) ≡ accepted (23 ∷ 6 ∷ 4 ∷ 2 ∷ [])) ×
    (sized btsnoop (take 265 apart) 2120 (by_source none strict) ≡ refused 5 (232 ∷ []))
unfolding outcome is_btsnoop datalink is_datalink ends_well read tail_offset records records_in chop chop_from is_whole record_size be32 be64 le16 eq_k file_pieces packets_in packets packet_of milliseconds fragment h4_packet hci_packet monitor_packet pdus run after joined is_complete still_open pdu_of completed command_size is_command commands body signal_of signals_in pdu_signals signals any names named asks_for admits admitted_after admitted is_tried asks_rfcomm asks_session is_sabm is_uih short_length info_length info_start credit_of is_right fcs_of register shifted shift_one frame_of uih_kind frame_kind kind_by tried_by judged_from judged_by counted piece_of brought pieces seek spans_n rest_n spans_of rest_of capped spans unfinished on_dlci total dropped_n dropped_of cleared_of in_spans dropped cleared left count nub mem on_channel first has_frame chosen is_wrong wrong_on listed unpacks_of unpack_of judged_frame is_given checksum_of imported fits work_suffices given item span_item span_list le32 le64 sizes counts sized
sizes_of_apart = (refl, refl, refl, refl)
