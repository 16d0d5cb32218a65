-- FCS checked, by computation: the noisy recordings are honest, and import of their cuts is what is left, with the count of wrong frames. Each rule that is broken alone breaks the claim.
use Prim.Native.Nat.{ℕ}
use mathlib.Core.Path.{◌≡◌, refl}
use mathlib.Core.List.{List, [], ◌∷◌, ◌++◌, map}
use mathlib.Core.Option.{none}
use lib.ListN.{take}
use Rattle.laws.proofs.Choice.{no_way}
use Rattle.laws.specs.Lists.{All, all_cons}
use Rattle.laws.specs.Answers.{is_given}
use Rattle.laws.specs.Chop.{chop, chop_from}
use Rattle.laws.specs.Keys.{eq_k}
use Rattle.laws.specs.Keyed.{of, run, after}
use Rattle.laws.specs.Count.{count, nub, mem}
use Rattle.laws.specs.Totals.{total}
use Rattle.laws.specs.Numbers.{le16, be32, be64}
use Rattle.items.specs.Items.{Span, span, rx_of}
use Rattle.mdr.specs.Frame.{head_of, summed_of, body_of, packed, judged as judged_frame, unpack_of, unpacks_of}
use Rattle.mdr.specs.Escape.{within}
use Rattle.mdr.specs.Sum.{checksum_of}
use Rattle.btsnoop.specs.Header.{is_btsnoop, datalink, is_datalink}
use Rattle.btsnoop.specs.Records.{record_size, btsnoop}
use Rattle.btsnoop.proofs.Laws.{lawful}
use Rattle.container.specs.Container.{is_whole, records_in, records, tail_offset, packets_in}
use Rattle.container.specs.Packets.{fragment, h4_packet, packets}
use Rattle.btsnoop.specs.Packets.{milliseconds, hci_packet, monitor_packet, packet_of}
use Rattle.l2cap.specs.Pdus.{joined, is_complete, still_open, pdu_of, completed, pdus}
use Rattle.channels.specs.Signals.{command_size, is_command, commands, body, signal_of, signals_in, pdu_signals, signals}
use Rattle.channels.specs.Channels.{any, names, named, asks_for, admits, admitted_after, admitted, is_tried, asks_rfcomm, asks_session}
use Rattle.channels.specs.Core.{core_signal_of, core_signals_in, pdu_core_signals, core_signals, latest, both_hold, events_of, events_after, events, holds_after, holds}
use Rattle.channels.specs.Tried.{source, core, tried_by}
use Rattle.uih.specs.Fcs.{shift_one, shifted, register, fcs_of}
use Rattle.uih.specs.Frames.{is_sabm, is_uih, short_length, info_length, info_start, credit_of, frame_of, is_right}
use Rattle.rfcomm.specs.Pieces.{uih_kind, frame_kind, unchecked, kind_by, judged_from, judged_by, counted, piece_of, brought, pieces, is_wrong, wrong_on}
use Rattle.search.specs.Seek.{seek}
use Rattle.spans.specs.Scan.{spans_n, rest_n, spans_of, rest_of, capped}
use Rattle.spans.specs.Spans.{spans, unfinished, on_dlci}
use Rattle.spans.specs.Account.{Account, dropped_n, dropped_of, cleared_of, in_spans, dropped, cleared, left}
use Rattle.outcome.specs.Import.{Found, found, missing, strict, on_channel, first, has_frame, chosen, listed, file_pieces, read, ends_well, outcome}
use Rattle.outcome.proofs.Examples.{sample, went}
use Rattle.cut.specs.Recording.{file, cut}
use Rattle.cut.specs.Left.{left_from, records_left, tail_left, sent, data_of, data_left, closed_in, of_handle, frames_left, mid_frame, ends_mid, mid_in, mid_left, past_close, past_link, past_in, past_left}
use Rattle.cut.specs.Honest.{pdus_in, marked_pdus, with_marks, judged_in, is_data_of, to_data, after_data, adds, carries_on, Honest}
use Rattle.cut.specs.Claim.{wrong_left}
use Rattle.cut.proofs.Tests.{packed_checked, every, once, open_test, ends, header_test, whole_test, small_test, dlci_test, dynamic_test, channel_test, channels_test, right_test, checks_test, information_test, sizes_test, beginnings_test, settled_in, settled_test, alone_in, alone_test, handles_test, data_test, mark_test, fragments_test, rules, passed_all, honest}
use Rattle.cut.proofs.Made.{sabm_on}
use Rattle.cut.proofs.Recordings.{unended, example}
use Rattle.cut.proofs.Computed.{checks, settled, alone, tested_by, but, found_by, left_at, DifferBy, w₀, w₁, w₂}
use Rattle.checks.proofs.Laws.{checked}
use Rattle.checks.proofs.Recordings.{right_on, faulty_on, credit_on, noisy, mixed, heard_later, held, wrong_data, right_data, wrong_sabm}

-- ---- the bytes

-- a UIH with the right FCS, with a bit of it wrong, and with a credit byte; a SABM, whose check is over three bytes, and whose FCS is wrong
pub frame_bytes :
    (right_on 18 [] ≡ 0x49 ∷ 0xEF ∷ 0x01 ∷ 0x14 ∷ []) × (faulty_on 18 [] ≡ 0x49 ∷ 0xEF ∷ 0x01 ∷ 0x15 ∷ []) × (credit_on 18 7 [] ≡ 0x49 ∷ 0xFF ∷ 0x01 ∷ 0x07 ∷ 0x08 ∷ []) ×
    (sabm_on 18 ≡ 0x49 ∷ 0x3F ∷ 0x01 ∷ 0x00 ∷ []) × (fcs_of (0x49 ∷ 0x3F ∷ 0x01 ∷ []) ≡ 0x53) × (sabm_on 20 ≡ 0x51 ∷ 0x3F ∷ 0x01 ∷ 0x00 ∷ []) × (fcs_of (0x51 ∷ 0x3F ∷ 0x01 ∷ []) ≡ 0x9C)
unfolding fcs_of register shifted shift_one
frame_bytes = (refl, refl, refl, refl, refl, refl, refl)

-- ---- honest

-- FCS checked, all rules are passed, the last by Bluetooth Core's
noisy_tested : tested_by (checked source) noisy ≡ passed_all
unfolding rules every once ends header_test whole_test small_test dlci_test dynamic_test channel_test channels_test information_test sizes_test beginnings_test settled_in settled_test alone_in alone_test handles_test data_test mark_test fragments_test left_from records_left sent data_of data_left pdus_in marked_pdus with_marks judged_in is_data_of to_data after_data adds carries_on file is_btsnoop datalink is_datalink eq_k record_size be32 be64 le16 packets_in packets packet_of milliseconds fragment h4_packet hci_packet monitor_packet pdus run after of joined is_complete still_open pdu_of completed command_size is_command commands chop chop_from body signal_of signals_in pdu_signals signals any names named asks_for admits admitted_after admitted is_tried asks_rfcomm asks_session is_sabm is_uih short_length info_length info_start credit_of is_right fcs_of register shifted shift_one frame_of uih_kind frame_kind kind_by tried_by judged_from judged_by rx_of packed body_of summed_of head_of checksum_of within right_test checks_test
noisy_tested = refl

pub honest_tested : (tested_by (checked source) mixed ≡ passed_all) × (tested_by (checked source) heard_later ≡ passed_all) × (tested_by (checked core) held ≡ passed_all)
unfolding open_test tried_by holds holds_after events events_after events_of both_hold latest core_signals pdu_core_signals core_signals_in core_signal_of rules every once ends header_test whole_test small_test dlci_test dynamic_test channel_test channels_test information_test sizes_test beginnings_test settled_in settled_test alone_in alone_test handles_test data_test mark_test fragments_test left_from records_left sent data_of data_left pdus_in marked_pdus with_marks judged_in is_data_of to_data after_data adds carries_on file is_btsnoop datalink is_datalink eq_k record_size be32 be64 le16 packets_in packets packet_of milliseconds fragment h4_packet hci_packet monitor_packet pdus run after of joined is_complete still_open pdu_of completed command_size is_command commands chop chop_from body signal_of signals_in pdu_signals signals any names named asks_for admits admitted_after admitted is_tried asks_rfcomm asks_session is_sabm is_uih short_length info_length info_start credit_of is_right fcs_of register shifted shift_one frame_of uih_kind frame_kind kind_by judged_from judged_by rx_of packed body_of summed_of head_of checksum_of within right_test checks_test
honest_tested = (refl, refl, refl)

-- unchecked, noise breaks the claim; a data PDU with a wrong FCS does not
pub unchecked_tested :
    (tested_by (unchecked source) noisy ≡ but alone) × (tested_by (unchecked source) mixed ≡ but alone) × (tested_by (unchecked source) heard_later ≡ passed_all) × (tested_by (unchecked source) wrong_data ≡ passed_all)
unfolding rules every once ends header_test whole_test small_test dlci_test dynamic_test channel_test channels_test information_test sizes_test beginnings_test settled_in settled_test alone_in alone_test handles_test data_test mark_test fragments_test left_from records_left sent data_of data_left pdus_in marked_pdus with_marks judged_in is_data_of to_data after_data adds carries_on file is_btsnoop datalink is_datalink eq_k record_size be32 be64 le16 packets_in packets packet_of milliseconds fragment h4_packet hci_packet monitor_packet pdus run after of joined is_complete still_open pdu_of completed command_size is_command commands chop chop_from body signal_of signals_in pdu_signals signals any names named asks_for admits admitted_after admitted is_tried asks_rfcomm asks_session is_sabm is_uih short_length info_length info_start credit_of is_right fcs_of register shifted shift_one frame_of uih_kind frame_kind kind_by tried_by judged_from judged_by rx_of packed body_of summed_of head_of checksum_of within right_test checks_test
unchecked_tested = (refl, refl, refl, refl)

-- FCS checked, each broken recording passes all rules but one; so does document 01's worked example, whose FCS is wrong
pub broken_tested :
    (tested_by (checked source) wrong_data ≡ but checks) × (tested_by (checked source) example ≡ but checks) × (tested_by (checked source) right_data ≡ but alone) × (tested_by (checked source) wrong_sabm ≡ but settled)
unfolding rules every once ends header_test whole_test small_test dlci_test dynamic_test channel_test channels_test information_test sizes_test beginnings_test settled_in settled_test alone_in alone_test handles_test data_test mark_test fragments_test left_from records_left sent data_of data_left pdus_in marked_pdus with_marks judged_in is_data_of to_data after_data adds carries_on file is_btsnoop datalink is_datalink eq_k record_size be32 be64 le16 packets_in packets packet_of milliseconds fragment h4_packet hci_packet monitor_packet pdus run after of joined is_complete still_open pdu_of completed command_size is_command commands chop chop_from body signal_of signals_in pdu_signals signals any names named asks_for admits admitted_after admitted is_tried asks_rfcomm asks_session is_sabm is_uih short_length info_length info_start credit_of is_right fcs_of register shifted shift_one frame_of uih_kind frame_kind kind_by tried_by judged_from judged_by rx_of packed body_of summed_of head_of checksum_of within right_test checks_test
broken_tested = (refl, refl, refl, refl)

-- so with FCS checked the claim is not empty
pub noisy_honest : Honest (checked source) noisy
noisy_honest = honest lawful (checked source) packed_checked (λ l t. unended) noisy noisy_tested

pub mixed_honest : Honest (checked source) mixed
mixed_honest = honest lawful (checked source) packed_checked (λ l t. unended) mixed honest_tested.0

pub heard_later_honest : Honest (checked source) heard_later
heard_later_honest = honest lawful (checked source) packed_checked (λ l t. unended) heard_later honest_tested.1

pub held_honest : Honest (checked core) held
held_honest = honest lawful (checked core) packed_checked (λ l t. unended) held honest_tested.2

-- and it covers what it does not cover unchecked: the first PDU is data on the other DLCI of the channel
first_of : {A : Type 0} {P : A → Type 0} {a : A} {l : List A} → All P (a ∷ l) → P a
first_of (all_cons p ps) = p

second_of_law : {A : Type 0} {P : A → Type 0} {a b : A} {l : List A} → All P (a ∷ b ∷ l) → P b
second_of_law (all_cons p (all_cons q ps)) = q

pub noisy_uncovered : {G : Type 0} → Honest (unchecked source) noisy → G
unfolding rules every once ends header_test whole_test small_test dlci_test dynamic_test channel_test channels_test information_test sizes_test beginnings_test settled_in settled_test alone_in alone_test handles_test data_test mark_test fragments_test left_from records_left sent data_of data_left pdus_in marked_pdus with_marks judged_in is_data_of to_data after_data adds carries_on file is_btsnoop datalink is_datalink eq_k record_size be32 be64 le16 packets_in packets packet_of milliseconds fragment h4_packet hci_packet monitor_packet pdus run after of joined is_complete still_open pdu_of completed command_size is_command commands chop chop_from body signal_of signals_in pdu_signals signals any names named asks_for admits admitted_after admitted is_tried asks_rfcomm asks_session is_sabm is_uih short_length info_length info_start credit_of is_right fcs_of register shifted shift_one frame_of uih_kind frame_kind kind_by tried_by judged_from judged_by rx_of packed body_of summed_of head_of checksum_of within right_test checks_test
noisy_uncovered H = no_way refl (first_of (H.alone 62) refl)

-- the broken recordings are not honest
pub wrong_data_uncovered : {G : Type 0} → Honest (checked source) wrong_data → G
unfolding rules every once ends header_test whole_test small_test dlci_test dynamic_test channel_test channels_test information_test sizes_test beginnings_test settled_in settled_test alone_in alone_test handles_test data_test mark_test fragments_test left_from records_left sent data_of data_left pdus_in marked_pdus with_marks judged_in is_data_of to_data after_data adds carries_on file is_btsnoop datalink is_datalink eq_k record_size be32 be64 le16 packets_in packets packet_of milliseconds fragment h4_packet hci_packet monitor_packet pdus run after of joined is_complete still_open pdu_of completed command_size is_command commands chop chop_from body signal_of signals_in pdu_signals signals any names named asks_for admits admitted_after admitted is_tried asks_rfcomm asks_session is_sabm is_uih short_length info_length info_start credit_of is_right fcs_of register shifted shift_one frame_of uih_kind frame_kind kind_by tried_by judged_from judged_by rx_of packed body_of summed_of head_of checksum_of within right_test checks_test
wrong_data_uncovered H = no_way (H.checks refl [] _ _ [] refl) refl

pub right_data_uncovered : {G : Type 0} → Honest (checked source) right_data → G
unfolding rules every once ends header_test whole_test small_test dlci_test dynamic_test channel_test channels_test information_test sizes_test beginnings_test settled_in settled_test alone_in alone_test handles_test data_test mark_test fragments_test left_from records_left sent data_of data_left pdus_in marked_pdus with_marks judged_in is_data_of to_data after_data adds carries_on file is_btsnoop datalink is_datalink eq_k record_size be32 be64 le16 packets_in packets packet_of milliseconds fragment h4_packet hci_packet monitor_packet pdus run after of joined is_complete still_open pdu_of completed command_size is_command commands chop chop_from body signal_of signals_in pdu_signals signals any names named asks_for admits admitted_after admitted is_tried asks_rfcomm asks_session is_sabm is_uih short_length info_length info_start credit_of is_right fcs_of register shifted shift_one frame_of uih_kind frame_kind kind_by tried_by judged_from judged_by rx_of packed body_of summed_of head_of checksum_of within right_test checks_test
right_data_uncovered H = no_way refl (second_of_law (H.alone 108) refl)

pub wrong_sabm_uncovered : {G : Type 0} → Honest (checked source) wrong_sabm → G
unfolding rules every once ends header_test whole_test small_test dlci_test dynamic_test channel_test channels_test information_test sizes_test beginnings_test settled_in settled_test alone_in alone_test handles_test data_test mark_test fragments_test left_from records_left sent data_of data_left pdus_in marked_pdus with_marks judged_in is_data_of to_data after_data adds carries_on file is_btsnoop datalink is_datalink eq_k record_size be32 be64 le16 packets_in packets packet_of milliseconds fragment h4_packet hci_packet monitor_packet pdus run after of joined is_complete still_open pdu_of completed command_size is_command commands chop chop_from body signal_of signals_in pdu_signals signals any names named asks_for admits admitted_after admitted is_tried asks_rfcomm asks_session is_sabm is_uih short_length info_length info_start credit_of is_right fcs_of register shifted shift_one frame_of uih_kind frame_kind kind_by tried_by judged_from judged_by rx_of packed body_of summed_of head_of checksum_of within right_test checks_test
wrong_sabm_uncovered H = no_way refl (first_of (H.settled 136 0x40) refl)

-- ---- cuts

-- DLCI, spans, unfinished, tail offset, frames with a wrong FCS, and where the bytes went
abbrev counts : ℕ → List Span → ℕ → ℕ → ℕ → Account → Found
counts d ss unfinished tail wrong account = found (record { dlci = d; spans = ss; unfinished = unfinished; tail = tail; wrong = wrong; account = account })

-- whole; less one byte, so without the last wrong frame; a byte short of the second frame; within a wrong frame; a byte short of the first frame; nothing but the header
abbrev cuts : List ℕ
cuts = 390 ∷ 389 ∷ 352 ∷ 200 ∷ 141 ∷ 16 ∷ []

abbrev answers : List Found
answers =
    counts 18 (span 1 3 w₀ ∷ span 1 8 w₁ ∷ []) 0 390 3 (went 21 0 0 0) ∷ counts 18 (span 1 3 w₀ ∷ span 1 8 w₁ ∷ []) 0 353 2 (went 21 0 0 0) ∷ counts 18 (span 1 3 w₀ ∷ []) 1 308 2 (went 9 0 0 5) ∷ counts 18 (span 1 3 w₀ ∷ []) 1 188 1 (went 9 0 0 5) ∷ missing 6 [] ∷ missing 6 [] ∷ []

-- import finds what is left, and counts
pub noisy_cuts : (map (found_by (checked source) noisy) cuts ≡ answers) × (map (left_at (checked source) noisy) cuts ≡ answers)
unfolding cut file tail_left of_handle closed_in frames_left mid_frame ends_mid mid_in mid_left past_close past_link past_in past_left left_from records_left sent data_of data_left outcome is_btsnoop datalink is_datalink ends_well read tail_offset records records_in chop chop_from is_whole record_size be32 be64 le16 eq_k file_pieces packets_in packets packet_of milliseconds fragment h4_packet hci_packet monitor_packet pdus run after of joined is_complete still_open pdu_of completed command_size is_command commands body signal_of signals_in pdu_signals signals any names named asks_for admits admitted_after admitted is_tried asks_rfcomm asks_session is_sabm is_uih short_length info_length info_start credit_of is_right fcs_of register shifted shift_one frame_of uih_kind frame_kind kind_by tried_by judged_from judged_by counted piece_of brought pieces seek spans_n rest_n spans_of rest_of capped spans unfinished on_dlci total dropped_n dropped_of cleared_of in_spans dropped cleared left count nub mem on_channel first has_frame chosen is_wrong wrong_on listed unpacks_of unpack_of judged_frame is_given within checksum_of packed body_of summed_of head_of rx_of wrong_left judged_in with_marks marked_pdus pdus_in
noisy_cuts = (refl, refl)

-- counted in the cut before the request that names its channel, and not in the whole file
abbrev later_cuts : List ℕ
later_cuts = 140 ∷ 139 ∷ 98 ∷ 61 ∷ 16 ∷ []

abbrev later_answers : List Found
later_answers = counts 18 (span 1 5 w₀ ∷ []) 0 140 0 (went 9 0 0 0) ∷ counts 18 (span 1 5 w₀ ∷ []) 0 99 1 (went 9 0 0 0) ∷ counts 18 (span 1 5 w₀ ∷ []) 0 62 0 (went 9 0 0 0) ∷ missing 6 [] ∷ missing 6 [] ∷ []

pub heard_later_cuts : (map (found_by (checked source) heard_later) later_cuts ≡ later_answers) × (map (left_at (checked source) heard_later) later_cuts ≡ later_answers)
unfolding cut file tail_left of_handle closed_in frames_left mid_frame ends_mid mid_in mid_left past_close past_link past_in past_left left_from records_left sent data_of data_left outcome is_btsnoop datalink is_datalink ends_well read tail_offset records records_in chop chop_from is_whole record_size be32 be64 le16 eq_k file_pieces packets_in packets packet_of milliseconds fragment h4_packet hci_packet monitor_packet pdus run after of joined is_complete still_open pdu_of completed command_size is_command commands body signal_of signals_in pdu_signals signals any names named asks_for admits admitted_after admitted is_tried asks_rfcomm asks_session is_sabm is_uih short_length info_length info_start credit_of is_right fcs_of register shifted shift_one frame_of uih_kind frame_kind kind_by tried_by judged_from judged_by counted piece_of brought pieces seek spans_n rest_n spans_of rest_of capped spans unfinished on_dlci total dropped_n dropped_of cleared_of in_spans dropped cleared left count nub mem on_channel first has_frame chosen is_wrong wrong_on listed unpacks_of unpack_of judged_frame is_given within checksum_of packed body_of summed_of head_of rx_of wrong_left judged_in with_marks marked_pdus pdus_in
heard_later_cuts = (refl, refl)

-- what comes after the end is tried, and counted, by the source's rule only
pub held_cuts :
    DifferBy (checked core) held 272 (counts 18 (span 0 3 w₀ ∷ []) 0 272 1 (went 9 0 0 0)) (counts 18 (span 0 3 w₀ ∷ []) 0 272 1 (went 9 0 0 0)) ×
    DifferBy (checked core) held 193 (counts 18 (span 0 3 w₀ ∷ []) 0 148 0 (went 9 0 0 0)) (counts 18 (span 0 3 w₀ ∷ []) 0 148 0 (went 9 0 0 0)) ×
    DifferBy (checked core) held 147 (missing 6 []) (missing 6 []) ×
    DifferBy (checked source) held 272 (counts 18 (span 0 3 w₀ ∷ []) 0 272 2 (went 9 0 0 0)) (counts 18 (span 0 3 w₀ ∷ []) 0 272 2 (went 9 0 0 0))
unfolding tried_by holds holds_after events events_after events_of both_hold latest core_signals pdu_core_signals core_signals_in core_signal_of cut file tail_left of_handle closed_in frames_left mid_frame ends_mid mid_in mid_left past_close past_link past_in past_left left_from records_left sent data_of data_left outcome is_btsnoop datalink is_datalink ends_well read tail_offset records records_in chop chop_from is_whole record_size be32 be64 le16 eq_k file_pieces packets_in packets packet_of milliseconds fragment h4_packet hci_packet monitor_packet pdus run after of joined is_complete still_open pdu_of completed command_size is_command commands body signal_of signals_in pdu_signals signals any names named asks_for admits admitted_after admitted is_tried asks_rfcomm asks_session is_sabm is_uih short_length info_length info_start credit_of is_right fcs_of register shifted shift_one frame_of uih_kind frame_kind kind_by judged_from judged_by counted piece_of brought pieces seek spans_n rest_n spans_of rest_of capped spans unfinished on_dlci total dropped_n dropped_of cleared_of in_spans dropped cleared left count nub mem on_channel first has_frame chosen is_wrong wrong_on listed unpacks_of unpack_of judged_frame is_given within checksum_of packed body_of summed_of head_of rx_of wrong_left judged_in with_marks marked_pdus pdus_in
held_cuts = ((refl, refl), (refl, refl), (refl, refl), (refl, refl))

-- unchecked, wrong frames are taken in: another DLCI is chosen, or their bytes stand within a frame that was sent, whose last 7 bytes are dropped
pub side_by_side :
    DifferBy (unchecked source) noisy 390 (counts 19 (span 1 1 w₀ ∷ []) 0 390 0 (went 9 0 0 0)) (counts 18 (span 1 3 w₀ ∷ span 1 8 w₁ ∷ []) 0 390 0 (went 21 0 0 0)) ×
    DifferBy (checked source) mixed 157 (counts 18 (span 1 5 w₀ ∷ span 1 7 w₁ ∷ []) 0 157 1 (went 21 0 0 0)) (counts 18 (span 1 5 w₀ ∷ span 1 7 w₁ ∷ []) 0 157 1 (went 21 0 0 0)) ×
    DifferBy (unchecked source) mixed 157 (counts 18 (span 1 5 w₀ ∷ span 1 6 (take 5 w₁ ++ w₂) ∷ []) 0 157 0 (went 23 7 0 0)) (counts 18 (span 1 5 w₀ ∷ span 1 7 w₁ ∷ []) 0 157 0 (went 21 0 0 0))
unfolding cut file tail_left of_handle closed_in frames_left mid_frame ends_mid mid_in mid_left past_close past_link past_in past_left left_from records_left sent data_of data_left outcome is_btsnoop datalink is_datalink ends_well read tail_offset records records_in chop chop_from is_whole record_size be32 be64 le16 eq_k file_pieces packets_in packets packet_of milliseconds fragment h4_packet hci_packet monitor_packet pdus run after of joined is_complete still_open pdu_of completed command_size is_command commands body signal_of signals_in pdu_signals signals any names named asks_for admits admitted_after admitted is_tried asks_rfcomm asks_session is_sabm is_uih short_length info_length info_start credit_of is_right fcs_of register shifted shift_one frame_of uih_kind frame_kind kind_by tried_by judged_from judged_by counted piece_of brought pieces seek spans_n rest_n spans_of rest_of capped spans unfinished on_dlci total dropped_n dropped_of cleared_of in_spans dropped cleared left count nub mem on_channel first has_frame chosen is_wrong wrong_on listed unpacks_of unpack_of judged_frame is_given within checksum_of packed body_of summed_of head_of rx_of wrong_left judged_in with_marks marked_pdus pdus_in
side_by_side = ((refl, refl), (refl, refl), (refl, refl))

-- a rule is broken: import finds something else
pub broken_cuts :
    DifferBy (checked source) wrong_data 62 (missing 6 []) (counts 18 (span 1 5 w₀ ∷ []) 0 62 1 (went 9 0 0 0)) ×
    DifferBy (unchecked source) wrong_data 62 (counts 18 (span 1 5 w₀ ∷ []) 0 62 0 (went 9 0 0 0)) (counts 18 (span 1 5 w₀ ∷ []) 0 62 0 (went 9 0 0 0)) ×
    DifferBy (checked source) right_data 108 (counts 18 (span 1 5 w₀ ∷ span 1 6 w₂ ∷ []) 0 108 0 (went 18 0 0 0)) (counts 18 (span 1 5 w₀ ∷ []) 0 108 0 (went 9 0 0 0)) ×
    DifferBy (checked source) wrong_sabm 136 (missing 6 []) (counts 18 (span 1 7 w₀ ∷ []) 0 136 0 (went 9 0 0 0))
unfolding cut file tail_left of_handle closed_in frames_left mid_frame ends_mid mid_in mid_left past_close past_link past_in past_left left_from records_left sent data_of data_left outcome is_btsnoop datalink is_datalink ends_well read tail_offset records records_in chop chop_from is_whole record_size be32 be64 le16 eq_k file_pieces packets_in packets packet_of milliseconds fragment h4_packet hci_packet monitor_packet pdus run after of joined is_complete still_open pdu_of completed command_size is_command commands body signal_of signals_in pdu_signals signals any names named asks_for admits admitted_after admitted is_tried asks_rfcomm asks_session is_sabm is_uih short_length info_length info_start credit_of is_right fcs_of register shifted shift_one frame_of uih_kind frame_kind kind_by tried_by judged_from judged_by counted piece_of brought pieces seek spans_n rest_n spans_of rest_of capped spans unfinished on_dlci total dropped_n dropped_of cleared_of in_spans dropped cleared left count nub mem on_channel first has_frame chosen is_wrong wrong_on listed unpacks_of unpack_of judged_frame is_given within checksum_of packed body_of summed_of head_of rx_of wrong_left judged_in with_marks marked_pdus pdus_in
broken_cuts = ((refl, refl), (refl, refl), (refl, refl), (refl, refl))

-- ---- document 01's worked example: its last byte is its FCS, 00; 14 is right

pub sample_checked :
    (outcome btsnoop sample (record { channel = none; tail = strict; judging = checked source }) ≡ missing 6 []) ×
    (outcome btsnoop (take 61 sample ++ (0x14 ∷ [])) (record { channel = none; tail = strict; judging = checked source }) ≡ counts 18 (span 1 0 w₀ ∷ []) 0 62 0 (went 9 0 0 0))
unfolding outcome is_btsnoop datalink is_datalink ends_well read tail_offset records records_in chop chop_from is_whole record_size be32 be64 le16 eq_k file_pieces packets_in packets packet_of milliseconds fragment h4_packet hci_packet monitor_packet pdus run after joined is_complete still_open pdu_of completed command_size is_command commands body signal_of signals_in pdu_signals signals any names named asks_for admits admitted_after admitted is_tried asks_rfcomm asks_session is_sabm is_uih short_length info_length info_start credit_of is_right fcs_of register shifted shift_one frame_of uih_kind frame_kind kind_by tried_by judged_from judged_by counted piece_of brought pieces seek spans_n rest_n spans_of rest_of capped spans unfinished on_dlci total dropped_n dropped_of cleared_of in_spans dropped cleared left count nub mem on_channel first has_frame chosen is_wrong wrong_on listed unpacks_of unpack_of judged_frame is_given checksum_of
sample_checked = (refl, refl)
