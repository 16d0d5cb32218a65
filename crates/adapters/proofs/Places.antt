-- Each place where import keys on a link: an honest recording, of whose file import by index and handle finds what is left, and import by the handle alone,
-- as document 01 has it, something else.
use Prim.Native.Nat.{ℕ, ◌/◌, ◌≤◌}
use mathlib.Core.Path.{◌≡◌, refl, sym, ap, ◌∙◌}
use mathlib.Core.List.{List, [], ◌∷◌}
use mathlib.Core.Option.{some}
use native.Mathlib.Omega.{arith}
use lib.ListN.{length}
use borrow.Author.Tests.{leb-true}
use Rattle.laws.proofs.Choice.{no_way}
use Rattle.laws.specs.Answers.{is_given}
use Rattle.laws.specs.Chop.{chop, chop_from}
use Rattle.laws.specs.Keys.{eq_k}
use Rattle.laws.specs.Keyed.{of, run, after}
use Rattle.laws.specs.Count.{count, nub, mem}
use Rattle.laws.specs.Totals.{total}
use Rattle.laws.specs.Numbers.{le16, be32, be64}
use Rattle.items.specs.Items.{span, rx_of}
use Rattle.mdr.specs.Frame.{head_of, summed_of, body_of, packed, judged as judged_frame, unpack_of, unpacks_of}
use Rattle.mdr.specs.Escape.{within}
use Rattle.mdr.specs.Sum.{checksum_of}
use Rattle.container.specs.Packets.{fragment, packets}
use Rattle.container.specs.Container.{is_whole, records_in, records, tail_offset, packets_in}
use Rattle.btsnoop.specs.Header.{is_btsnoop, datalink, is_datalink}
use Rattle.btsnoop.specs.Records.{record_size, btsnoop}
use Rattle.btsnoop.specs.Packets.{milliseconds, monitor_packet, packet_of}
use Rattle.btsnoop.proofs.Laws.{lawful}
use Rattle.l2cap.specs.Pdus.{joined, is_complete, still_open, pdu_of, completed, pdus}
use Rattle.channels.specs.Signals.{command_size, is_command, commands, body, signal_of, signals_in, pdu_signals, signals}
use Rattle.channels.specs.Channels.{any, names, named, asks_for, admits, admitted_after, admitted, is_tried, asks_rfcomm, asks_session}
use Rattle.channels.specs.Tried.{source, tried_by}
use Rattle.uih.specs.Fcs.{shift_one, shifted, register, fcs_of}
use Rattle.uih.specs.Frames.{is_sabm, is_uih, short_length, info_length, info_start, credit_of, frame_of, is_right}
use Rattle.rfcomm.specs.Pieces.{unchecked, uih_kind, frame_kind, kind_by, judged_from, judged_by, counted, piece_of, brought, pieces, is_wrong, wrong_on}
use Rattle.search.specs.Seek.{seek}
use Rattle.spans.specs.Scan.{spans_n, rest_n, spans_of, rest_of, capped}
use Rattle.spans.specs.Spans.{spans, unfinished, on_dlci}
use Rattle.spans.specs.Account.{dropped_n, dropped_of, cleared_of, in_spans, dropped, cleared, left}
use Rattle.outcome.specs.Import.{Found, missing, tolerant, on_channel, first as first_of, has_frame, chosen, listed, file_pieces, read, ends_well, outcome}
use Rattle.outcome.proofs.Examples.{went, finds}
use Rattle.cut.specs.Recording.{Recording, file, cut}
use Rattle.cut.specs.Left.{left_from, records_left, tail_left, sent, data_of, data_left, closed_in, of_handle, frames_left, mid_frame, ends_mid, mid_in, mid_left, past_close, past_link, past_in, past_left}
use Rattle.cut.specs.Honest.{pdus_in, marked_pdus, with_marks, judged_in, is_data_of, to_data, after_data, adds, carries_on, Honest}
use Rattle.cut.specs.Claim.{wrong_left}
use Rattle.cut.proofs.Tests.{packed_checked, every, once, ends, header_test, whole_test, small_test, dlci_test, dynamic_test, channel_test, channels_test, checks_test, information_test, sizes_test, beginnings_test, settled_in, settled_test, alone_in, alone_test, handles_test, data_test, mark_test, fragments_test, rules, passed_all, honest}
use Rattle.cut.proofs.Recordings.{unended}
use Rattle.cut.proofs.Computed.{tested_by, found_by, left_at, w₀, w₂}
use Rattle.adapters.specs.Links.{if_there, by_handle}
use Rattle.adapters.proofs.Recordings.{shared, two_links, upper_bits, all_bits, sessions, opened, named_elsewhere, answered, begun, stretch}
use Rattle.adapters.proofs.Torn.{options, is_missing}

-- by index and handle import finds the first, which is what is left; by the handle alone the second
abbrev Apart : Recording btsnoop → ℕ → Found → Found → Type 0
Apart R n x y = (found_by (unchecked source) R n ≡ x) × (left_at (unchecked source) R n ≡ x) × (outcome by_handle (cut R n) options ≡ y)

-- open PDUs: a start on one adapter discards the other's, and the wrong rest ends it
two_links_tested : tested_by (unchecked source) two_links ≡ passed_all
unfolding rules every once ends header_test whole_test small_test dlci_test dynamic_test channel_test channels_test checks_test information_test sizes_test beginnings_test settled_in settled_test alone_in alone_test handles_test data_test mark_test fragments_test left_from records_left sent data_of data_left pdus_in marked_pdus with_marks judged_in is_data_of to_data after_data adds carries_on file is_btsnoop datalink is_datalink eq_k record_size be32 be64 le16 packets_in packets packet_of milliseconds fragment monitor_packet pdus run after of joined is_complete still_open pdu_of completed command_size is_command commands chop chop_from body signal_of signals_in pdu_signals signals any names named asks_for admits admitted_after admitted is_tried asks_rfcomm asks_session is_sabm is_uih short_length info_length info_start credit_of is_right fcs_of register shifted shift_one frame_of uih_kind frame_kind kind_by tried_by judged_from judged_by rx_of packed body_of summed_of head_of checksum_of within
two_links_tested = refl

pub two_links_honest : Honest (unchecked source) two_links
two_links_honest = honest lawful (unchecked source) packed_checked (λ l t. unended) two_links two_links_tested

pub two_links_cut : Apart two_links 162 (finds 18 (span 1 7 w₀ ∷ span 1 8 w₂ ∷ []) 0 162 (went 18 0 0 0)) (finds 18 (span 1 7 w₀ ∷ []) 0 162 (went 9 0 0 0))
unfolding if_there cut file tail_left of_handle closed_in frames_left mid_frame ends_mid mid_in mid_left past_close past_link past_in past_left wrong_left judged_in with_marks marked_pdus pdus_in left_from records_left sent data_of data_left outcome is_btsnoop datalink is_datalink ends_well read tail_offset records records_in chop chop_from is_whole record_size be32 be64 le16 eq_k file_pieces packets_in packets packet_of milliseconds fragment monitor_packet pdus run after of joined is_complete still_open pdu_of completed command_size is_command commands body signal_of signals_in pdu_signals signals any names named asks_for admits admitted_after admitted is_tried asks_rfcomm asks_session is_sabm is_uih short_length info_length info_start credit_of is_right fcs_of register shifted shift_one frame_of uih_kind frame_kind kind_by tried_by judged_from judged_by counted piece_of brought pieces seek spans_n rest_n spans_of rest_of capped spans unfinished on_dlci total dropped_n dropped_of cleared_of in_spans dropped cleared left count nub mem on_channel first_of has_frame chosen is_wrong wrong_on listed unpacks_of unpack_of judged_frame is_given within checksum_of packed body_of summed_of head_of rx_of
two_links_cut = (refl, refl, refl)

-- the index is all 16 bits
upper_bits_tested : tested_by (unchecked source) upper_bits ≡ passed_all
unfolding rules every once ends header_test whole_test small_test dlci_test dynamic_test channel_test channels_test checks_test information_test sizes_test beginnings_test settled_in settled_test alone_in alone_test handles_test data_test mark_test fragments_test left_from records_left sent data_of data_left pdus_in marked_pdus with_marks judged_in is_data_of to_data after_data adds carries_on file is_btsnoop datalink is_datalink eq_k record_size be32 be64 le16 packets_in packets packet_of milliseconds fragment monitor_packet pdus run after of joined is_complete still_open pdu_of completed command_size is_command commands chop chop_from body signal_of signals_in pdu_signals signals any names named asks_for admits admitted_after admitted is_tried asks_rfcomm asks_session is_sabm is_uih short_length info_length info_start credit_of is_right fcs_of register shifted shift_one frame_of uih_kind frame_kind kind_by tried_by judged_from judged_by rx_of packed body_of summed_of head_of checksum_of within
upper_bits_tested = refl

pub upper_bits_honest : Honest (unchecked source) upper_bits
upper_bits_honest = honest lawful (unchecked source) packed_checked (λ l t. unended) upper_bits upper_bits_tested

pub upper_bits_cut : Apart upper_bits 162 (finds 18 (span 1 7 w₀ ∷ span 1 8 w₂ ∷ []) 0 162 (went 18 0 0 0)) (finds 18 (span 1 7 w₀ ∷ []) 0 162 (went 9 0 0 0))
unfolding if_there cut file tail_left of_handle closed_in frames_left mid_frame ends_mid mid_in mid_left past_close past_link past_in past_left wrong_left judged_in with_marks marked_pdus pdus_in left_from records_left sent data_of data_left outcome is_btsnoop datalink is_datalink ends_well read tail_offset records records_in chop chop_from is_whole record_size be32 be64 le16 eq_k file_pieces packets_in packets packet_of milliseconds fragment monitor_packet pdus run after of joined is_complete still_open pdu_of completed command_size is_command commands body signal_of signals_in pdu_signals signals any names named asks_for admits admitted_after admitted is_tried asks_rfcomm asks_session is_sabm is_uih short_length info_length info_start credit_of is_right fcs_of register shifted shift_one frame_of uih_kind frame_kind kind_by tried_by judged_from judged_by counted piece_of brought pieces seek spans_n rest_n spans_of rest_of capped spans unfinished on_dlci total dropped_n dropped_of cleared_of in_spans dropped cleared left count nub mem on_channel first_of has_frame chosen is_wrong wrong_on listed unpacks_of unpack_of judged_frame is_given within checksum_of packed body_of summed_of head_of rx_of
upper_bits_cut = (refl, refl, refl)

-- and 0xFFFF is one like any other
all_bits_tested : tested_by (unchecked source) all_bits ≡ passed_all
unfolding rules every once ends header_test whole_test small_test dlci_test dynamic_test channel_test channels_test checks_test information_test sizes_test beginnings_test settled_in settled_test alone_in alone_test handles_test data_test mark_test fragments_test left_from records_left sent data_of data_left pdus_in marked_pdus with_marks judged_in is_data_of to_data after_data adds carries_on file is_btsnoop datalink is_datalink eq_k record_size be32 be64 le16 packets_in packets packet_of milliseconds fragment monitor_packet pdus run after of joined is_complete still_open pdu_of completed command_size is_command commands chop chop_from body signal_of signals_in pdu_signals signals any names named asks_for admits admitted_after admitted is_tried asks_rfcomm asks_session is_sabm is_uih short_length info_length info_start credit_of is_right fcs_of register shifted shift_one frame_of uih_kind frame_kind kind_by tried_by judged_from judged_by rx_of packed body_of summed_of head_of checksum_of within
all_bits_tested = refl

pub all_bits_honest : Honest (unchecked source) all_bits
all_bits_honest = honest lawful (unchecked source) packed_checked (λ l t. unended) all_bits all_bits_tested

pub all_bits_cut : Apart all_bits 162 (finds 18 (span 1 7 w₀ ∷ span 1 8 w₂ ∷ []) 0 162 (went 18 0 0 0)) (finds 18 (span 1 7 w₀ ∷ []) 0 162 (went 9 0 0 0))
unfolding if_there cut file tail_left of_handle closed_in frames_left mid_frame ends_mid mid_in mid_left past_close past_link past_in past_left wrong_left judged_in with_marks marked_pdus pdus_in left_from records_left sent data_of data_left outcome is_btsnoop datalink is_datalink ends_well read tail_offset records records_in chop chop_from is_whole record_size be32 be64 le16 eq_k file_pieces packets_in packets packet_of milliseconds fragment monitor_packet pdus run after of joined is_complete still_open pdu_of completed command_size is_command commands body signal_of signals_in pdu_signals signals any names named asks_for admits admitted_after admitted is_tried asks_rfcomm asks_session is_sabm is_uih short_length info_length info_start credit_of is_right fcs_of register shifted shift_one frame_of uih_kind frame_kind kind_by tried_by judged_from judged_by counted piece_of brought pieces seek spans_n rest_n spans_of rest_of capped spans unfinished on_dlci total dropped_n dropped_of cleared_of in_spans dropped cleared left count nub mem on_channel first_of has_frame chosen is_wrong wrong_on listed unpacks_of unpack_of judged_frame is_given within checksum_of packed body_of summed_of head_of rx_of
all_bits_cut = (refl, refl, refl)

-- sessions
sessions_tested : tested_by (unchecked source) sessions ≡ passed_all
unfolding rules every once ends header_test whole_test small_test dlci_test dynamic_test channel_test channels_test checks_test information_test sizes_test beginnings_test settled_in settled_test alone_in alone_test handles_test data_test mark_test fragments_test left_from records_left sent data_of data_left pdus_in marked_pdus with_marks judged_in is_data_of to_data after_data adds carries_on file is_btsnoop datalink is_datalink eq_k record_size be32 be64 le16 packets_in packets packet_of milliseconds fragment monitor_packet pdus run after of joined is_complete still_open pdu_of completed command_size is_command commands chop chop_from body signal_of signals_in pdu_signals signals any names named asks_for admits admitted_after admitted is_tried asks_rfcomm asks_session is_sabm is_uih short_length info_length info_start credit_of is_right fcs_of register shifted shift_one frame_of uih_kind frame_kind kind_by tried_by judged_from judged_by rx_of packed body_of summed_of head_of checksum_of within
sessions_tested = refl

pub sessions_honest : Honest (unchecked source) sessions
sessions_honest = honest lawful (unchecked source) packed_checked (λ l t. unended) sessions sessions_tested

pub sessions_cut : Apart sessions 133 (finds 18 (span 1 7 w₀ ∷ []) 0 133 (went 9 0 0 0)) (missing 6 [])
unfolding if_there cut file tail_left of_handle closed_in frames_left mid_frame ends_mid mid_in mid_left past_close past_link past_in past_left wrong_left judged_in with_marks marked_pdus pdus_in left_from records_left sent data_of data_left outcome is_btsnoop datalink is_datalink ends_well read tail_offset records records_in chop chop_from is_whole record_size be32 be64 le16 eq_k file_pieces packets_in packets packet_of milliseconds fragment monitor_packet pdus run after of joined is_complete still_open pdu_of completed command_size is_command commands body signal_of signals_in pdu_signals signals any names named asks_for admits admitted_after admitted is_tried asks_rfcomm asks_session is_sabm is_uih short_length info_length info_start credit_of is_right fcs_of register shifted shift_one frame_of uih_kind frame_kind kind_by tried_by judged_from judged_by counted piece_of brought pieces seek spans_n rest_n spans_of rest_of capped spans unfinished on_dlci total dropped_n dropped_of cleared_of in_spans dropped cleared left count nub mem on_channel first_of has_frame chosen is_wrong wrong_on listed unpacks_of unpack_of judged_frame is_given within checksum_of packed body_of summed_of head_of rx_of
sessions_cut = (refl, refl, refl)

-- links
opened_tested : tested_by (unchecked source) opened ≡ passed_all
unfolding rules every once ends header_test whole_test small_test dlci_test dynamic_test channel_test channels_test checks_test information_test sizes_test beginnings_test settled_in settled_test alone_in alone_test handles_test data_test mark_test fragments_test left_from records_left sent data_of data_left pdus_in marked_pdus with_marks judged_in is_data_of to_data after_data adds carries_on file is_btsnoop datalink is_datalink eq_k record_size be32 be64 le16 packets_in packets packet_of milliseconds fragment monitor_packet pdus run after of joined is_complete still_open pdu_of completed command_size is_command commands chop chop_from body signal_of signals_in pdu_signals signals any names named asks_for admits admitted_after admitted is_tried asks_rfcomm asks_session is_sabm is_uih short_length info_length info_start credit_of is_right fcs_of register shifted shift_one frame_of uih_kind frame_kind kind_by tried_by judged_from judged_by rx_of packed body_of summed_of head_of checksum_of within
opened_tested = refl

pub opened_honest : Honest (unchecked source) opened
opened_honest = honest lawful (unchecked source) packed_checked (λ l t. unended) opened opened_tested

pub opened_cut : Apart opened 133 (finds 18 (span 1 7 w₀ ∷ []) 0 133 (went 9 0 0 0)) (missing 6 [])
unfolding if_there cut file tail_left of_handle closed_in frames_left mid_frame ends_mid mid_in mid_left past_close past_link past_in past_left wrong_left judged_in with_marks marked_pdus pdus_in left_from records_left sent data_of data_left outcome is_btsnoop datalink is_datalink ends_well read tail_offset records records_in chop chop_from is_whole record_size be32 be64 le16 eq_k file_pieces packets_in packets packet_of milliseconds fragment monitor_packet pdus run after of joined is_complete still_open pdu_of completed command_size is_command commands body signal_of signals_in pdu_signals signals any names named asks_for admits admitted_after admitted is_tried asks_rfcomm asks_session is_sabm is_uih short_length info_length info_start credit_of is_right fcs_of register shifted shift_one frame_of uih_kind frame_kind kind_by tried_by judged_from judged_by counted piece_of brought pieces seek spans_n rest_n spans_of rest_of capped spans unfinished on_dlci total dropped_n dropped_of cleared_of in_spans dropped cleared left count nub mem on_channel first_of has_frame chosen is_wrong wrong_on listed unpacks_of unpack_of judged_frame is_given within checksum_of packed body_of summed_of head_of rx_of
opened_cut = (refl, refl, refl)

-- the channel that a request names
named_elsewhere_tested : tested_by (unchecked source) named_elsewhere ≡ passed_all
unfolding rules every once ends header_test whole_test small_test dlci_test dynamic_test channel_test channels_test checks_test information_test sizes_test beginnings_test settled_in settled_test alone_in alone_test handles_test data_test mark_test fragments_test left_from records_left sent data_of data_left pdus_in marked_pdus with_marks judged_in is_data_of to_data after_data adds carries_on file is_btsnoop datalink is_datalink eq_k record_size be32 be64 le16 packets_in packets packet_of milliseconds fragment monitor_packet pdus run after of joined is_complete still_open pdu_of completed command_size is_command commands chop chop_from body signal_of signals_in pdu_signals signals any names named asks_for admits admitted_after admitted is_tried asks_rfcomm asks_session is_sabm is_uih short_length info_length info_start credit_of is_right fcs_of register shifted shift_one frame_of uih_kind frame_kind kind_by tried_by judged_from judged_by rx_of packed body_of summed_of head_of checksum_of within
named_elsewhere_tested = refl

pub named_elsewhere_honest : Honest (unchecked source) named_elsewhere
named_elsewhere_honest = honest lawful (unchecked source) packed_checked (λ l t. unended) named_elsewhere named_elsewhere_tested

pub named_elsewhere_cut : Apart named_elsewhere 101 (finds 18 (span 1 5 w₀ ∷ []) 0 101 (went 9 0 0 0)) (missing 6 [])
unfolding if_there cut file tail_left of_handle closed_in frames_left mid_frame ends_mid mid_in mid_left past_close past_link past_in past_left wrong_left judged_in with_marks marked_pdus pdus_in left_from records_left sent data_of data_left outcome is_btsnoop datalink is_datalink ends_well read tail_offset records records_in chop chop_from is_whole record_size be32 be64 le16 eq_k file_pieces packets_in packets packet_of milliseconds fragment monitor_packet pdus run after of joined is_complete still_open pdu_of completed command_size is_command commands body signal_of signals_in pdu_signals signals any names named asks_for admits admitted_after admitted is_tried asks_rfcomm asks_session is_sabm is_uih short_length info_length info_start credit_of is_right fcs_of register shifted shift_one frame_of uih_kind frame_kind kind_by tried_by judged_from judged_by counted piece_of brought pieces seek spans_n rest_n spans_of rest_of capped spans unfinished on_dlci total dropped_n dropped_of cleared_of in_spans dropped cleared left count nub mem on_channel first_of has_frame chosen is_wrong wrong_on listed unpacks_of unpack_of judged_frame is_given within checksum_of packed body_of summed_of head_of rx_of
named_elsewhere_cut = (refl, refl, refl)

-- the earlier PSM 3 request: by the handle alone the response admits the PDU's channel
answered_tested : tested_by (unchecked source) answered ≡ passed_all
unfolding rules every once ends header_test whole_test small_test dlci_test dynamic_test channel_test channels_test checks_test information_test sizes_test beginnings_test settled_in settled_test alone_in alone_test handles_test data_test mark_test fragments_test left_from records_left sent data_of data_left pdus_in marked_pdus with_marks judged_in is_data_of to_data after_data adds carries_on file is_btsnoop datalink is_datalink eq_k record_size be32 be64 le16 packets_in packets packet_of milliseconds fragment monitor_packet pdus run after of joined is_complete still_open pdu_of completed command_size is_command commands chop chop_from body signal_of signals_in pdu_signals signals any names named asks_for admits admitted_after admitted is_tried asks_rfcomm asks_session is_sabm is_uih short_length info_length info_start credit_of is_right fcs_of register shifted shift_one frame_of uih_kind frame_kind kind_by tried_by judged_from judged_by rx_of packed body_of summed_of head_of checksum_of within
answered_tested = refl

pub answered_honest : Honest (unchecked source) answered
answered_honest = honest lawful (unchecked source) packed_checked (λ l t. unended) answered answered_tested

pub answered_cut : Apart answered 145 (missing 6 []) (finds 18 (span 0 7 w₀ ∷ []) 0 145 (went 9 0 0 0))
unfolding if_there cut file tail_left of_handle closed_in frames_left mid_frame ends_mid mid_in mid_left left_from records_left sent data_of data_left outcome is_btsnoop datalink is_datalink ends_well read tail_offset records records_in chop chop_from is_whole record_size be32 be64 le16 eq_k file_pieces packets_in packets packet_of milliseconds fragment monitor_packet pdus run after of joined is_complete still_open pdu_of completed command_size is_command commands body signal_of signals_in pdu_signals signals any names named asks_for admits admitted_after admitted is_tried asks_rfcomm asks_session is_sabm is_uih short_length info_length info_start credit_of is_right fcs_of register shifted shift_one frame_of uih_kind frame_kind kind_by tried_by judged_from judged_by counted piece_of brought pieces seek spans_n rest_n spans_of rest_of capped spans unfinished on_dlci total dropped_n dropped_of cleared_of in_spans dropped cleared left count nub mem on_channel first_of has_frame chosen is_wrong wrong_on listed unpacks_of unpack_of judged_frame is_given within checksum_of packed body_of summed_of head_of rx_of
answered_cut = (refl, refl, refl)

-- the first 7 bytes of one link's frame, and the other's whole
abbrev w₄ : List ℕ
w₄ = 0x3E ∷ 0xBB ∷ 0x00 ∷ 0x00 ∷ 0x00 ∷ 0x00 ∷ 0x07 ∷ w₀

-- the stretch: by the handle alone a frame is found that nobody sent
stretch_tested : rules (unchecked source) packed_checked (λ l t. begun) stretch ≡ passed_all
unfolding rules every once ends header_test whole_test small_test dlci_test dynamic_test channel_test channels_test checks_test information_test sizes_test beginnings_test settled_in settled_test alone_in alone_test handles_test data_test mark_test fragments_test left_from records_left sent data_of data_left pdus_in marked_pdus with_marks judged_in is_data_of to_data after_data adds carries_on file is_btsnoop datalink is_datalink eq_k record_size be32 be64 le16 packets_in packets packet_of milliseconds fragment monitor_packet pdus run after of joined is_complete still_open pdu_of completed command_size is_command commands chop chop_from body signal_of signals_in pdu_signals signals any names named asks_for admits admitted_after admitted is_tried asks_rfcomm asks_session is_sabm is_uih short_length info_length info_start credit_of is_right fcs_of register shifted shift_one frame_of uih_kind frame_kind kind_by tried_by judged_from judged_by rx_of packed body_of summed_of head_of checksum_of within
stretch_tested = refl

pub stretch_honest : Honest (unchecked source) stretch
stretch_honest = honest lawful (unchecked source) packed_checked (λ l t. begun) stretch stretch_tested

pub stretch_cut : Apart stretch 104 (finds 18 (span 1 6 w₀ ∷ []) 1 104 (went 9 0 0 7)) (finds 18 (span 1 6 w₄ ∷ []) 0 104 (went 16 0 0 0))
unfolding if_there cut file tail_left of_handle closed_in frames_left mid_frame ends_mid mid_in mid_left past_close past_link past_in past_left wrong_left judged_in with_marks marked_pdus pdus_in left_from records_left sent data_of data_left outcome is_btsnoop datalink is_datalink ends_well read tail_offset records records_in chop chop_from is_whole record_size be32 be64 le16 eq_k file_pieces packets_in packets packet_of milliseconds fragment monitor_packet pdus run after of joined is_complete still_open pdu_of completed command_size is_command commands body signal_of signals_in pdu_signals signals any names named asks_for admits admitted_after admitted is_tried asks_rfcomm asks_session is_sabm is_uih short_length info_length info_start credit_of is_right fcs_of register shifted shift_one frame_of uih_kind frame_kind kind_by tried_by judged_from judged_by counted piece_of brought pieces seek spans_n rest_n spans_of rest_of capped spans unfinished on_dlci total dropped_n dropped_of cleared_of in_spans dropped cleared left count nub mem on_channel first_of has_frame chosen is_wrong wrong_on listed unpacks_of unpack_of judged_frame is_given within checksum_of packed body_of summed_of head_of rx_of
stretch_cut = (refl, refl, refl)

-- the same of the recording with three adapters: its fragments do not fit
pub shared_by_handle : outcome by_handle (cut shared 317) options ≡ missing 6 []
unfolding if_there cut file tail_left of_handle closed_in frames_left mid_frame ends_mid mid_in mid_left left_from records_left sent data_of data_left outcome is_btsnoop datalink is_datalink ends_well read tail_offset records records_in chop chop_from is_whole record_size be32 be64 le16 eq_k file_pieces packets_in packets packet_of milliseconds fragment monitor_packet pdus run after of joined is_complete still_open pdu_of completed command_size is_command commands body signal_of signals_in pdu_signals signals any names named asks_for admits admitted_after admitted is_tried asks_rfcomm asks_session is_sabm is_uih short_length info_length info_start credit_of is_right fcs_of register shifted shift_one frame_of uih_kind frame_kind kind_by tried_by judged_from judged_by counted piece_of brought pieces seek spans_n rest_n spans_of rest_of capped spans unfinished on_dlci count nub mem on_channel first_of has_frame chosen listed unpacks_of unpack_of judged_frame is_given within checksum_of packed body_of summed_of head_of rx_of
shared_by_handle = refl

-- so import by the handle alone does not keep the claim
pub by_handle_fails : {G : Type 0} → ((R : Recording btsnoop) → Honest (unchecked source) R → (n : ℕ) → 16 ≤ n → n ≤ length (file R) → outcome by_handle (cut R n) (record { channel = some (R.d / 2); tail = tolerant; judging = unchecked source }) ≡ left_at (unchecked source) R n) → G
unfolding file packed body_of summed_of head_of checksum_of within
by_handle_fails claim =
    let e : missing 6 [] ≡ finds 18 (span 1 7 w₀ ∷ []) 0 133 (went 9 0 0 0) = sym sessions_cut.2 ∙ claim sessions sessions_honest 133 (omega arith) (leb-true 133 _ refl) ∙ sessions_cut.1 in
    no_way refl (ap is_missing e)
