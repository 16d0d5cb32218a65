-- Honest pcap recordings: the recording with everything, as a pcap file in each byte order and resolution. Import of its cuts is computed.
use Prim.Native.Nat.{ℕ, ◌+◌, ◌*◌, ◌/◌, ◌%◌}
use mathlib.Core.Path.{◌≡◌, refl}
use mathlib.Core.Bool.{Bool, true, false, cond}
use mathlib.Core.List.{List, [], ◌∷◌, ◌++◌, map}
use lib.ListN.{length, drop}
use Rattle.laws.specs.Answers.{is_given}
use Rattle.laws.specs.Chop.{chop, chop_from}
use Rattle.laws.specs.Keys.{eq_k}
use Rattle.laws.specs.Keyed.{of, run, after}
use Rattle.laws.specs.Count.{count, nub, mem}
use Rattle.laws.specs.Totals.{total}
use Rattle.laws.specs.Numbers.{le16, le32, be32, be64}
use Rattle.items.specs.Items.{span, rx_of}
use Rattle.mdr.specs.Frame.{head_of, summed_of, body_of, packed, judged as judged_frame, unpack_of, unpacks_of}
use Rattle.mdr.specs.Escape.{within}
use Rattle.mdr.specs.Sum.{checksum_of}
use Rattle.container.specs.Packets.{fragment, h4_packet, packets}
use Rattle.container.specs.Container.{is_whole, records_in, records, tail_offset, packets_in}
use Rattle.btsnoop.specs.Records.{btsnoop}
use Rattle.pcap.specs.Header.{is_big, is_little, is_nano, is_pcap, number, link_of, is_link}
use Rattle.pcap.specs.Records.{record_size}
use Rattle.pcap.specs.Packets.{milliseconds, directed_packet, packet_of}
use Rattle.pcap.specs.Pcap.{pcap}
use Rattle.l2cap.specs.Pdus.{joined, is_complete, still_open, pdu_of, completed, pdus}
use Rattle.channels.specs.Signals.{command_size, is_command, commands, body, signal_of, signals_in, pdu_signals, signals}
use Rattle.channels.specs.Channels.{any, names, named, asks_for, admits, admitted_after, admitted, is_tried, asks_rfcomm, asks_session}
use Rattle.channels.specs.Core.{core_signal_of, core_signals_in, pdu_core_signals, core_signals, latest, both_hold, events_of, events_after, events, holds_after, holds}
use Rattle.channels.specs.Tried.{source, core, tried_by}
use Rattle.uih.specs.Fcs.{shift_one, shifted, register, fcs_of}
use Rattle.uih.specs.Frames.{is_sabm, is_uih, short_length, info_length, info_start, credit_of, frame_of, is_right}
use Rattle.rfcomm.specs.Pieces.{unchecked, uih_kind, frame_kind, kind_by, judged_from, judged_by, counted, piece_of, brought, pieces, is_wrong, wrong_on}
use Rattle.search.specs.Seek.{seek}
use Rattle.spans.specs.Scan.{spans_n, rest_n, spans_of, rest_of, capped}
use Rattle.spans.specs.Spans.{spans, unfinished, on_dlci}
use Rattle.spans.specs.Account.{dropped_n, dropped_of, cleared_of, in_spans, dropped, cleared, left}
use Rattle.btsnoop.specs.Packets.{milliseconds as time_of}
use Rattle.pcap.proofs.Laws.{lawful}
use Rattle.outcome.specs.Import.{on_channel, first, has_frame, chosen, Found, missing, listed, file_pieces, read, ends_well, outcome}
use Rattle.outcome.proofs.Examples.{finds, went}
use Rattle.cut.specs.Recording.{Recording, file, cut}
use Rattle.cut.specs.Left.{left_from, records_left, tail_left, sent, data_of, data_left, closed_in, of_handle, frames_left, mid_frame, ends_mid, mid_in, mid_left, past_close, past_link, past_in, past_left}
use Rattle.cut.specs.Honest.{pdus_in, marked_pdus, with_marks, judged_in, is_data_of, to_data, after_data, adds, carries_on, Honest}
use Rattle.cut.specs.Claim.{wrong_left}
use Rattle.cut.proofs.Tests.{packed_checked, every, once, open_test, ends, header_test, whole_test, small_test, dlci_test, dynamic_test, channel_test, channels_test, checks_test, information_test, sizes_test, beginnings_test, settled_in, settled_test, alone_in, alone_test, handles_test, data_test, mark_test, fragments_test, rules, passed_all, honest}
use Rattle.cut.proofs.Recordings.{unended, busy}
use Rattle.cut.proofs.CoreRecordings.{reused}
use Rattle.cut.proofs.Computed.{tested_by, found_by, left_at, w₀, w₂, w₃, four}
use Rattle.formats.specs.Written.{be, num, pcap_head}

-- a record of datalink 1002 as one of a pcap file: its milliseconds and a little more, its flags as the direction, its packet
abbrev row : Bool → Bool → List ℕ → List ℕ
row big nano r =
    num big (time_of r / 1000) ++ (num big (cond nano (1000000 * (time_of r % 1000) + 999999) (1000 * (time_of r % 1000) + 999)) ++
    (num big (4 + length (drop 24 r)) ++ (num big (4 + length (drop 24 r)) ++ (be 4 (be32 r 8) ++ drop 24 r))))

abbrev as_pcap : Bool → Bool → Recording btsnoop → Recording pcap
as_pcap big nano R = record { d = R.d; header = pcap_head big nano; records = map (λ r. record { bytes = row big nano r.bytes; mark = r.mark }) R.records; links = R.links }

abbrev pub little : Recording pcap
little = as_pcap false false busy

abbrev pub big : Recording pcap
big = as_pcap true false busy

abbrev pub little_nanos : Recording pcap
little_nanos = as_pcap false true busy

abbrev pub big_nanos : Recording pcap
big_nanos = as_pcap true true busy

-- and the recording that only Bluetooth Core's rule covers
abbrev pub little_reused : Recording pcap
little_reused = as_pcap false false reused

little_tested : tested_by (unchecked source) little ≡ passed_all
unfolding rules every once ends header_test whole_test small_test dlci_test dynamic_test channel_test channels_test checks_test information_test sizes_test beginnings_test settled_in settled_test alone_in alone_test handles_test data_test mark_test fragments_test left_from records_left sent data_of data_left pdus_in marked_pdus with_marks judged_in is_data_of to_data after_data adds carries_on file is_pcap is_big is_little is_nano number link_of is_link eq_k record_size be32 be64 le16 le32 packets_in packets packet_of directed_packet milliseconds time_of fragment h4_packet pdus run after of joined is_complete still_open pdu_of completed command_size is_command commands chop chop_from body signal_of signals_in pdu_signals signals any names named asks_for admits admitted_after admitted is_tried asks_rfcomm asks_session is_sabm is_uih short_length info_length info_start credit_of is_right fcs_of register shifted shift_one frame_of uih_kind frame_kind kind_by tried_by judged_from judged_by rx_of packed body_of summed_of head_of checksum_of within
little_tested = refl

big_nanos_tested : tested_by (unchecked source) big_nanos ≡ passed_all
unfolding rules every once ends header_test whole_test small_test dlci_test dynamic_test channel_test channels_test checks_test information_test sizes_test beginnings_test settled_in settled_test alone_in alone_test handles_test data_test mark_test fragments_test left_from records_left sent data_of data_left pdus_in marked_pdus with_marks judged_in is_data_of to_data after_data adds carries_on file is_pcap is_big is_little is_nano number link_of is_link eq_k record_size be32 be64 le16 le32 packets_in packets packet_of directed_packet milliseconds time_of fragment h4_packet pdus run after of joined is_complete still_open pdu_of completed command_size is_command commands chop chop_from body signal_of signals_in pdu_signals signals any names named asks_for admits admitted_after admitted is_tried asks_rfcomm asks_session is_sabm is_uih short_length info_length info_start credit_of is_right fcs_of register shifted shift_one frame_of uih_kind frame_kind kind_by tried_by judged_from judged_by rx_of packed body_of summed_of head_of checksum_of within
big_nanos_tested = refl

reused_tested : tested_by (unchecked core) little_reused ≡ passed_all
unfolding open_test holds holds_after events events_after events_of both_hold latest core_signals pdu_core_signals core_signals_in core_signal_of rules every once ends header_test whole_test small_test dlci_test dynamic_test channel_test channels_test checks_test information_test sizes_test beginnings_test settled_in settled_test alone_in alone_test handles_test data_test mark_test fragments_test left_from records_left sent data_of data_left pdus_in marked_pdus with_marks judged_in is_data_of to_data after_data adds carries_on file is_pcap is_big is_little is_nano number link_of is_link eq_k record_size be32 be64 le16 le32 packets_in packets packet_of directed_packet milliseconds time_of fragment h4_packet pdus run after of joined is_complete still_open pdu_of completed command_size is_command commands chop chop_from body signal_of signals_in pdu_signals signals any names named asks_for admits admitted_after admitted is_tried asks_rfcomm asks_session is_sabm is_uih short_length info_length info_start credit_of is_right fcs_of register shifted shift_one frame_of uih_kind frame_kind kind_by tried_by judged_from judged_by rx_of packed body_of summed_of head_of checksum_of within
reused_tested = refl

-- so the claim for pcap is not empty
pub little_honest : Honest (unchecked source) little
little_honest = honest lawful (unchecked source) packed_checked (λ l t. unended) little little_tested

pub big_nanos_honest : Honest (unchecked source) big_nanos
big_nanos_honest = honest lawful (unchecked source) packed_checked (λ l t. unended) big_nanos big_nanos_tested

pub little_reused_honest : Honest (unchecked core) little_reused
little_reused_honest = honest lawful (unchecked core) packed_checked (λ l t. unended) little_reused reused_tested

-- ---- cuts

-- whole; less one byte; within a free record; a fragment short of two frames; before the first frame is closed; nothing but the header
abbrev cuts : List ℕ
cuts = 576 ∷ 575 ∷ 360 ∷ 357 ∷ 312 ∷ 24 ∷ []

-- the frames of the btsnoop recording with everything, at the same cuts; the tail offsets are pcap's
abbrev answers : List Found
answers =
    finds 18 (four ++ (span 0 10 w₀ ∷ [])) 2 576 (went 51 0 0 11) ∷ finds 18 (four ++ (span 0 10 w₀ ∷ [])) 1 539 (went 51 0 0 7) ∷ finds 18 four 0 358 (went 42 0 0 0) ∷ finds 18 (span 1 7 w₃ ∷ span 1 7 w₂ ∷ []) 0 313 (went 21 0 0 0) ∷ missing 6 [] ∷ missing 6 [] ∷ []

pub all_cuts :
    (map (found_by (unchecked source) little) cuts ≡ answers) × (map (left_at (unchecked source) little) cuts ≡ answers) ×
    -- a cut within the header is refused with 21, though nothing is left: the claim is for n from 24 on
    (found_by (unchecked source) little 23 ≡ missing 21 []) × (left_at (unchecked source) little 23 ≡ missing 6 [])
unfolding cut file tail_left of_handle closed_in frames_left mid_frame ends_mid mid_in mid_left past_close past_link past_in past_left wrong_left judged_in with_marks marked_pdus pdus_in left_from records_left sent data_of data_left outcome is_pcap is_big is_little is_nano number link_of is_link ends_well read tail_offset records records_in chop chop_from is_whole record_size be32 be64 le16 le32 eq_k file_pieces packets_in packets packet_of directed_packet milliseconds time_of fragment h4_packet pdus run after of joined is_complete still_open pdu_of completed command_size is_command commands body signal_of signals_in pdu_signals signals any names named asks_for admits admitted_after admitted is_tried asks_rfcomm asks_session is_sabm is_uih short_length info_length info_start credit_of is_right fcs_of register shifted shift_one frame_of uih_kind frame_kind kind_by tried_by judged_from judged_by counted piece_of brought pieces seek spans_n rest_n spans_of rest_of capped spans unfinished on_dlci total dropped_n dropped_of cleared_of in_spans dropped cleared left count nub mem on_channel first has_frame chosen is_wrong wrong_on listed unpacks_of unpack_of judged_frame is_given within checksum_of packed body_of summed_of head_of rx_of
all_cuts = (refl, refl, refl, refl)

-- the same frames in each byte order and resolution, and the same counts
abbrev few : List ℕ
few = 575 ∷ 357 ∷ 24 ∷ []

abbrev fewer : List Found
fewer = finds 18 (four ++ (span 0 10 w₀ ∷ [])) 1 539 (went 51 0 0 7) ∷ finds 18 (span 1 7 w₃ ∷ span 1 7 w₂ ∷ []) 0 313 (went 21 0 0 0) ∷ missing 6 [] ∷ []

pub big_cuts : (map (found_by (unchecked source) big) few ≡ fewer) × (map (left_at (unchecked source) big) few ≡ fewer)
unfolding cut file tail_left of_handle closed_in frames_left mid_frame ends_mid mid_in mid_left past_close past_link past_in past_left wrong_left judged_in with_marks marked_pdus pdus_in left_from records_left sent data_of data_left outcome is_pcap is_big is_little is_nano number link_of is_link ends_well read tail_offset records records_in chop chop_from is_whole record_size be32 be64 le16 le32 eq_k file_pieces packets_in packets packet_of directed_packet milliseconds time_of fragment h4_packet pdus run after of joined is_complete still_open pdu_of completed command_size is_command commands body signal_of signals_in pdu_signals signals any names named asks_for admits admitted_after admitted is_tried asks_rfcomm asks_session is_sabm is_uih short_length info_length info_start credit_of is_right fcs_of register shifted shift_one frame_of uih_kind frame_kind kind_by tried_by judged_from judged_by counted piece_of brought pieces seek spans_n rest_n spans_of rest_of capped spans unfinished on_dlci total dropped_n dropped_of cleared_of in_spans dropped cleared left count nub mem on_channel first has_frame chosen is_wrong wrong_on listed unpacks_of unpack_of judged_frame is_given within checksum_of packed body_of summed_of head_of rx_of
big_cuts = (refl, refl)

pub little_nanos_cuts : (map (found_by (unchecked source) little_nanos) few ≡ fewer) × (map (left_at (unchecked source) little_nanos) few ≡ fewer)
unfolding cut file tail_left of_handle closed_in frames_left mid_frame ends_mid mid_in mid_left past_close past_link past_in past_left wrong_left judged_in with_marks marked_pdus pdus_in left_from records_left sent data_of data_left outcome is_pcap is_big is_little is_nano number link_of is_link ends_well read tail_offset records records_in chop chop_from is_whole record_size be32 be64 le16 le32 eq_k file_pieces packets_in packets packet_of directed_packet milliseconds time_of fragment h4_packet pdus run after of joined is_complete still_open pdu_of completed command_size is_command commands body signal_of signals_in pdu_signals signals any names named asks_for admits admitted_after admitted is_tried asks_rfcomm asks_session is_sabm is_uih short_length info_length info_start credit_of is_right fcs_of register shifted shift_one frame_of uih_kind frame_kind kind_by tried_by judged_from judged_by counted piece_of brought pieces seek spans_n rest_n spans_of rest_of capped spans unfinished on_dlci total dropped_n dropped_of cleared_of in_spans dropped cleared left count nub mem on_channel first has_frame chosen is_wrong wrong_on listed unpacks_of unpack_of judged_frame is_given within checksum_of packed body_of summed_of head_of rx_of
little_nanos_cuts = (refl, refl)

pub big_nanos_cuts : (map (found_by (unchecked source) big_nanos) few ≡ fewer) × (map (left_at (unchecked source) big_nanos) few ≡ fewer)
unfolding cut file tail_left of_handle closed_in frames_left mid_frame ends_mid mid_in mid_left past_close past_link past_in past_left wrong_left judged_in with_marks marked_pdus pdus_in left_from records_left sent data_of data_left outcome is_pcap is_big is_little is_nano number link_of is_link ends_well read tail_offset records records_in chop chop_from is_whole record_size be32 be64 le16 le32 eq_k file_pieces packets_in packets packet_of directed_packet milliseconds time_of fragment h4_packet pdus run after of joined is_complete still_open pdu_of completed command_size is_command commands body signal_of signals_in pdu_signals signals any names named asks_for admits admitted_after admitted is_tried asks_rfcomm asks_session is_sabm is_uih short_length info_length info_start credit_of is_right fcs_of register shifted shift_one frame_of uih_kind frame_kind kind_by tried_by judged_from judged_by counted piece_of brought pieces seek spans_n rest_n spans_of rest_of capped spans unfinished on_dlci total dropped_n dropped_of cleared_of in_spans dropped cleared left count nub mem on_channel first has_frame chosen is_wrong wrong_on listed unpacks_of unpack_of judged_frame is_given within checksum_of packed body_of summed_of head_of rx_of
big_nanos_cuts = (refl, refl)
