-- Bluetooth Core's rule, by computation: recordings that are honest by it, one of which the source's rule does not cover, and recordings that break a rule and with it the claim.
use mathlib.Core.Path.{◌≡◌, refl}
use mathlib.Core.List.{List, [], ◌∷◌}
use Rattle.laws.proofs.Choice.{no_way}
use Rattle.laws.specs.Lists.{All, all_cons}
use Rattle.laws.specs.Answers.{is_given}
use Rattle.laws.specs.Chop.{chop, chop_from}
use Rattle.laws.specs.Keys.{eq_k}
use Rattle.laws.specs.Keyed.{of, run, after}
use Rattle.laws.specs.Count.{count, nub, mem}
use Rattle.laws.specs.Totals.{total}
use Rattle.laws.specs.Numbers.{le16, be32, be64}
use Rattle.items.specs.Items.{span, rx_of}
use Rattle.mdr.specs.Frame.{head_of, summed_of, body_of, packed, judged as judged_frame, unpack_of, unpacks_of}
use Rattle.mdr.specs.Escape.{within}
use Rattle.mdr.specs.Sum.{checksum_of}
use Rattle.btsnoop.specs.Header.{is_btsnoop, datalink, is_datalink}
use Rattle.btsnoop.specs.Records.{record_size}
use Rattle.btsnoop.proofs.Laws.{lawful}
use Rattle.container.specs.Container.{is_whole, records_in, records, tail_offset, packets_in}
use Rattle.container.specs.Packets.{fragment, h4_packet, packets}
use Rattle.btsnoop.specs.Packets.{milliseconds, hci_packet, monitor_packet, packet_of}
use Rattle.l2cap.specs.Pdus.{joined, is_complete, still_open, pdu_of, completed, pdus}
use Rattle.channels.specs.Signals.{command_size, is_command, commands, body, signal_of, signals_in, pdu_signals, signals}
use Rattle.channels.specs.Channels.{any, names, named, asks_for, admits, admitted_after, admitted, is_tried, asks_rfcomm, asks_session}
use Rattle.channels.specs.Core.{core_signal_of, core_signals_in, pdu_core_signals, core_signals, latest, both_hold, events_of, events_after, events, holds_after, holds}
use Rattle.channels.specs.Tried.{source, core, tried_by}
use Rattle.uih.specs.Fcs.{shift_one, shifted, register, fcs_of}
use Rattle.uih.specs.Frames.{is_sabm, is_uih, short_length, info_length, info_start, credit_of, frame_of, is_right}
use Rattle.rfcomm.specs.Pieces.{unchecked, uih_kind, frame_kind, kind_by, judged_from, judged_by, counted, piece_of, brought, pieces, is_wrong, wrong_on}
use Rattle.search.specs.Seek.{seek}
use Rattle.spans.specs.Scan.{spans_n, rest_n, spans_of, rest_of, capped}
use Rattle.spans.specs.Spans.{spans, unfinished, on_dlci}
use Rattle.spans.specs.Account.{dropped_n, dropped_of, cleared_of, in_spans, dropped, cleared, left}
use Rattle.outcome.specs.Import.{missing, on_channel, first, has_frame, chosen, listed, file_pieces, read, ends_well, outcome}
use Rattle.outcome.proofs.Examples.{finds, went}
use Rattle.cut.specs.Recording.{file, cut}
use Rattle.cut.specs.Left.{left_from, records_left, tail_left, sent, data_of, data_left, closed_in, of_handle, frames_left, mid_frame, ends_mid, mid_in, mid_left, past_close, past_link, past_in, past_left}
use Rattle.cut.specs.Honest.{Honest, pdus_in, marked_pdus, with_marks, judged_in, is_data_of, to_data, after_data, adds, carries_on}
use Rattle.cut.specs.Claim.{wrong_left}
use Rattle.cut.proofs.Tests.{packed_checked, every, once, open_test, ends, header_test, whole_test, small_test, dlci_test, dynamic_test, channel_test, channels_test, right_test, checks_test, information_test, sizes_test, beginnings_test, settled_in, settled_test, alone_in, alone_test, handles_test, data_test, mark_test, fragments_test, rules, passed_all, honest}
use Rattle.cut.proofs.Recordings.{unended, example, named_channel, new_link, new_session, other_data, other_dlci, only_cut}
use Rattle.cut.proofs.CoreRecordings.{reused, succeeds_within, other_identifier, after_end, ends_within, asked_within, foreign_source}
use Rattle.cut.proofs.Computed.{channels, settled, alone, tested_by, but, DifferBy, w₀, w₂}

-- honest by Bluetooth Core's rule
pub core_tested : (tested_by (unchecked core) example ≡ passed_all) × (tested_by (unchecked core) reused ≡ passed_all) × (tested_by (unchecked core) succeeds_within ≡ passed_all)
unfolding open_test tried_by holds holds_after events events_after events_of both_hold latest core_signals pdu_core_signals core_signals_in core_signal_of rules every once ends header_test whole_test small_test dlci_test dynamic_test channel_test channels_test information_test sizes_test beginnings_test settled_in settled_test alone_in alone_test handles_test data_test mark_test fragments_test left_from records_left sent data_of data_left pdus_in marked_pdus with_marks judged_in is_data_of to_data after_data adds carries_on file is_btsnoop datalink is_datalink eq_k record_size be32 be64 le16 packets_in packets packet_of milliseconds fragment h4_packet hci_packet monitor_packet pdus run after of joined is_complete still_open pdu_of completed command_size is_command commands chop chop_from body signal_of signals_in pdu_signals signals any names named asks_for admits admitted_after admitted is_tried asks_rfcomm asks_session is_sabm is_uih short_length info_length info_start credit_of is_right fcs_of register shifted shift_one frame_of uih_kind frame_kind kind_by judged_from judged_by rx_of packed body_of summed_of head_of checksum_of within right_test checks_test
core_tested = (refl, refl, refl)

-- By the source's rule, the look-alike bytes break the claim; identifiers are not compared, a channel is never released, and a response to no request's source admits nothing.
pub source_tested : (tested_by (unchecked source) reused ≡ but alone) × (tested_by (unchecked source) other_identifier ≡ passed_all) × (tested_by (unchecked source) after_end ≡ passed_all) × (tested_by (unchecked source) foreign_source ≡ passed_all)
unfolding open_test tried_by holds holds_after events events_after events_of both_hold latest core_signals pdu_core_signals core_signals_in core_signal_of rules every once ends header_test whole_test small_test dlci_test dynamic_test channel_test channels_test information_test sizes_test beginnings_test settled_in settled_test alone_in alone_test handles_test data_test mark_test fragments_test left_from records_left sent data_of data_left pdus_in marked_pdus with_marks judged_in is_data_of to_data after_data adds carries_on file is_btsnoop datalink is_datalink eq_k record_size be32 be64 le16 packets_in packets packet_of milliseconds fragment h4_packet hci_packet monitor_packet pdus run after of joined is_complete still_open pdu_of completed command_size is_command commands chop chop_from body signal_of signals_in pdu_signals signals any names named asks_for admits admitted_after admitted is_tried asks_rfcomm asks_session is_sabm is_uih short_length info_length info_start credit_of is_right fcs_of register shifted shift_one frame_of uih_kind frame_kind kind_by judged_from judged_by rx_of packed body_of summed_of head_of checksum_of within right_test checks_test
source_tested = (refl, refl, refl, refl)

-- each broken recording passes all rules but one
pub broken_tested :
    (tested_by (unchecked core) other_identifier ≡ but channels) × (tested_by (unchecked core) after_end ≡ but channels) × (tested_by (unchecked core) ends_within ≡ but channels) × (tested_by (unchecked core) named_channel ≡ but channels) ×
    (tested_by (unchecked core) asked_within ≡ but settled) × (tested_by (unchecked core) new_link ≡ but settled) × (tested_by (unchecked core) new_session ≡ but settled) ×
    (tested_by (unchecked core) foreign_source ≡ but alone) × (tested_by (unchecked core) other_data ≡ but alone) × (tested_by (unchecked core) other_dlci ≡ but alone) × (tested_by (unchecked core) only_cut ≡ but alone)
unfolding open_test tried_by holds holds_after events events_after events_of both_hold latest core_signals pdu_core_signals core_signals_in core_signal_of rules every once ends header_test whole_test small_test dlci_test dynamic_test channel_test channels_test information_test sizes_test beginnings_test settled_in settled_test alone_in alone_test handles_test data_test mark_test fragments_test left_from records_left sent data_of data_left pdus_in marked_pdus with_marks judged_in is_data_of to_data after_data adds carries_on file is_btsnoop datalink is_datalink eq_k record_size be32 be64 le16 packets_in packets packet_of milliseconds fragment h4_packet hci_packet monitor_packet pdus run after of joined is_complete still_open pdu_of completed command_size is_command commands chop chop_from body signal_of signals_in pdu_signals signals any names named asks_for admits admitted_after admitted is_tried asks_rfcomm asks_session is_sabm is_uih short_length info_length info_start credit_of is_right fcs_of register shifted shift_one frame_of uih_kind frame_kind kind_by judged_from judged_by rx_of packed body_of summed_of head_of checksum_of within right_test checks_test
broken_tested = (refl, refl, refl, refl, refl, refl, refl, refl, refl, refl, refl)

-- so the claim by Bluetooth Core's rule is not empty
pub reused_honest : Honest (unchecked core) reused
reused_honest = honest lawful (unchecked core) packed_checked (λ l t. unended) reused core_tested.1

pub within_honest : Honest (unchecked core) succeeds_within
within_honest = honest lawful (unchecked core) packed_checked (λ l t. unended) succeeds_within core_tested.2

-- and one of them is not honest by the source's rule: once the request for PSM 3 is there, its third PDU is data on d
third : {A : Type 0} {P : A → Type 0} {a b c : A} {l : List A} → All P (a ∷ b ∷ c ∷ l) → P c
third (all_cons p (all_cons q (all_cons r w))) = r

pub reused_uncovered : {G : Type 0} → Honest (unchecked source) reused → G
unfolding open_test tried_by holds holds_after events events_after events_of both_hold latest core_signals pdu_core_signals core_signals_in core_signal_of rules every once ends header_test whole_test small_test dlci_test dynamic_test channel_test channels_test information_test sizes_test beginnings_test settled_in settled_test alone_in alone_test handles_test data_test mark_test fragments_test left_from records_left sent data_of data_left pdus_in marked_pdus with_marks judged_in is_data_of to_data after_data adds carries_on file is_btsnoop datalink is_datalink eq_k record_size be32 be64 le16 packets_in packets packet_of milliseconds fragment h4_packet hci_packet monitor_packet pdus run after of joined is_complete still_open pdu_of completed command_size is_command commands chop chop_from body signal_of signals_in pdu_signals signals any names named asks_for admits admitted_after admitted is_tried asks_rfcomm asks_session is_sabm is_uih short_length info_length info_start credit_of is_right fcs_of register shifted shift_one frame_of uih_kind frame_kind kind_by judged_from judged_by rx_of packed body_of summed_of head_of checksum_of within right_test checks_test
reused_uncovered H = no_way refl (third (H.alone 189) refl)

-- ---- cuts

pub all_cuts :
    -- honest: import finds what is left
    DifferBy (unchecked core) reused 413 (finds 18 (span 1 6 w₀ ∷ span 0 7 w₂ ∷ []) 0 413 (went 18 0 0 0)) (finds 18 (span 1 6 w₀ ∷ span 0 7 w₂ ∷ []) 0 413 (went 18 0 0 0)) ×
    DifferBy (unchecked core) reused 325 (finds 18 (span 1 6 w₀ ∷ []) 0 280 (went 9 0 0 0)) (finds 18 (span 1 6 w₀ ∷ []) 0 280 (went 9 0 0 0)) ×
    DifferBy (unchecked core) reused 279 (missing 6 []) (missing 6 []) ×
    DifferBy (unchecked core) succeeds_within 177 (finds 18 (span 0 4 w₀ ∷ []) 0 177 (went 9 0 0 0)) (finds 18 (span 0 4 w₀ ∷ []) 0 177 (went 9 0 0 0)) ×
    DifferBy (unchecked source) foreign_source 194 (finds 18 (span 1 2 w₀ ∷ []) 0 194 (went 9 0 0 0)) (finds 18 (span 1 2 w₀ ∷ []) 0 194 (went 9 0 0 0)) ×
    -- the source's rule lists the look-alike bytes as frames
    DifferBy (unchecked source) reused 413 (finds 18 (span 1 3 w₂ ∷ span 1 6 w₀ ∷ span 0 7 w₂ ∷ span 1 9 w₂ ∷ []) 0 413 (went 36 0 0 0)) (finds 18 (span 1 6 w₀ ∷ span 0 7 w₂ ∷ []) 0 413 (went 18 0 0 0)) ×
    -- a rule is broken: import finds something else
    DifferBy (unchecked core) other_identifier 148 (missing 6 []) (finds 18 (span 0 3 w₀ ∷ []) 0 148 (went 9 0 0 0)) ×
    DifferBy (unchecked core) after_end 189 (missing 6 []) (finds 18 (span 0 4 w₀ ∷ []) 0 189 (went 9 0 0 0)) ×
    DifferBy (unchecked core) ends_within 218 (missing 6 []) (finds 18 (span 0 5 w₀ ∷ []) 0 218 (went 9 0 0 0)) ×
    DifferBy (unchecked core) named_channel 103 (missing 6 []) (finds 18 (span 1 5 w₀ ∷ []) 0 103 (went 9 0 0 0)) ×
    DifferBy (unchecked core) asked_within 140 (missing 6 []) (finds 18 (span 1 3 w₀ ∷ []) 0 140 (went 9 0 0 0)) ×
    DifferBy (unchecked core) new_link 136 (missing 6 []) (finds 18 (span 1 7 w₀ ∷ []) 0 136 (went 9 0 0 0)) ×
    DifferBy (unchecked core) new_session 136 (missing 6 []) (finds 18 (span 1 7 w₀ ∷ []) 0 136 (went 9 0 0 0)) ×
    DifferBy (unchecked core) foreign_source 194 (finds 18 (span 1 2 w₀ ∷ span 0 4 w₂ ∷ []) 0 194 (went 18 0 0 0)) (finds 18 (span 1 2 w₀ ∷ []) 0 194 (went 9 0 0 0)) ×
    DifferBy (unchecked core) other_data 108 (finds 18 (span 1 5 w₀ ∷ span 1 6 w₂ ∷ []) 0 108 (went 18 0 0 0)) (finds 18 (span 1 5 w₀ ∷ []) 0 108 (went 9 0 0 0)) ×
    DifferBy (unchecked core) other_dlci 108 (finds 19 (span 1 4 w₂ ∷ []) 0 108 (went 9 0 0 0)) (finds 18 (span 1 5 w₀ ∷ []) 0 108 (went 9 0 0 0)) ×
    DifferBy (unchecked core) only_cut 108 (finds 18 (span 1 5 w₀ ∷ span 1 6 w₂ ∷ []) 0 108 (went 18 0 0 0)) (finds 18 (span 1 5 w₀ ∷ []) 0 108 (went 9 0 0 0))
unfolding tried_by holds holds_after events events_after events_of both_hold latest core_signals pdu_core_signals core_signals_in core_signal_of cut file tail_left of_handle closed_in frames_left mid_frame ends_mid mid_in mid_left past_close past_link past_in past_left left_from records_left sent data_of data_left outcome is_btsnoop datalink is_datalink ends_well read tail_offset records records_in chop chop_from is_whole record_size be32 be64 le16 eq_k file_pieces packets_in packets packet_of milliseconds fragment h4_packet hci_packet monitor_packet pdus run after of joined is_complete still_open pdu_of completed command_size is_command commands body signal_of signals_in pdu_signals signals any names named asks_for admits admitted_after admitted is_tried asks_rfcomm asks_session is_sabm is_uih short_length info_length info_start credit_of is_right fcs_of register shifted shift_one frame_of uih_kind frame_kind kind_by judged_from judged_by counted piece_of brought pieces seek spans_n rest_n spans_of rest_of capped spans unfinished on_dlci total dropped_n dropped_of cleared_of in_spans dropped cleared left count nub mem on_channel first has_frame chosen is_wrong wrong_on listed unpacks_of unpack_of judged_frame is_given within checksum_of packed body_of summed_of head_of rx_of wrong_left judged_in with_marks marked_pdus pdus_in
all_cuts = ((refl, refl), (refl, refl), (refl, refl), (refl, refl), (refl, refl), (refl, refl), (refl, refl), (refl, refl), (refl, refl), (refl, refl), (refl, refl), (refl, refl), (refl, refl), (refl, refl), (refl, refl), (refl, refl), (refl, refl))
