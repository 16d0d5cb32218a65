-- A wire that is no packed frame, with a bare 3E inside: a recording that sends it is honest of wires that are sent as they are, and is found whole.
use Prim.Native.Nat.{ℕ}
use mathlib.Core.Path.{◌≡◌, refl, sym, ◌∙◌}
use mathlib.Core.List.{List, [], ◌∷◌, ◌++◌, head-eq_of_cons-eq, tail-eq_of_cons-eq}
use mathlib.Core.Option.{some}
use Rattle.laws.specs.Answers.{is_given}
use Rattle.laws.specs.Chop.{chop, chop_from}
use Rattle.laws.specs.Keys.{eq_k}
use Rattle.laws.specs.Keyed.{of, run, after}
use Rattle.laws.specs.Count.{count, nub, mem}
use Rattle.laws.specs.Totals.{total}
use Rattle.laws.specs.Numbers.{le16, be32, be64}
use Rattle.items.specs.Items.{span, rx_of}
use Rattle.mdr.specs.Frame.{head_of, summed_of, body_of, packed, judged as judged_frame, unpack_of, unpacks_of}
use Rattle.mdr.specs.Escape.{within}
use Rattle.mdr.specs.Sum.{checksum_of}
use Rattle.btsnoop.specs.Header.{is_btsnoop, datalink, is_datalink}
use Rattle.btsnoop.specs.Records.{record_size, btsnoop}
use Rattle.btsnoop.proofs.Laws.{lawful}
use Rattle.container.specs.Container.{is_whole, records_in, records, tail_offset, packets_in}
use Rattle.container.specs.Packets.{fragment, h4_packet, packets}
use Rattle.btsnoop.specs.Packets.{milliseconds, hci_packet, monitor_packet, packet_of}
use Rattle.l2cap.specs.Pdus.{joined, is_complete, still_open, pdu_of, completed, pdus}
use Rattle.channels.specs.Signals.{command_size, is_command, commands, body, signal_of, signals_in, pdu_signals, signals}
use Rattle.channels.specs.Channels.{any, names, named, asks_for, admits, admitted_after, admitted, is_tried, asks_rfcomm, asks_session}
use Rattle.channels.specs.Tried.{source, tried_by}
use Rattle.uih.specs.Fcs.{shift_one, shifted, register, fcs_of}
use Rattle.uih.specs.Frames.{is_sabm, is_uih, short_length, info_length, info_start, credit_of, frame_of, is_right}
use Rattle.rfcomm.specs.Pieces.{unchecked, uih_kind, frame_kind, kind_by, judged_from, judged_by, counted, piece_of, brought, pieces, is_wrong, wrong_on}
use Rattle.search.specs.Seek.{seek}
use Rattle.spans.specs.Scan.{spans_n, rest_n, spans_of, rest_of, capped}
use Rattle.spans.specs.Spans.{spans, unfinished, on_dlci}
use Rattle.spans.specs.Account.{dropped_n, dropped_of, cleared_of, in_spans, dropped, cleared, left}
use Rattle.outcome.specs.Import.{on_channel, first, has_frame, chosen, listed, file_pieces, read, ends_well, outcome, strict, by_source}
use Rattle.outcome.proofs.Examples.{finds, went}
use Rattle.cut.specs.Left.{left_from, records_left, tail_left, sent, data_of, data_left, closed_in, of_handle, frames_left, mid_frame, ends_mid, mid_in, mid_left, past_close, past_link, past_in, past_left}
use Rattle.cut.specs.Honest.{pdus_in, marked_pdus, with_marks, judged_in, is_data_of, to_data, after_data, adds, carries_on, Honest}
use Rattle.cut.specs.Claim.{wrong_left}
use mathlib.Core.Logic.{◌≢◌}
use native.Mathlib.Omega.{arith}
use lib.ListN.{take, drop}
use Rattle.laws.specs.Lists.{All, all_nil, all_cons}
use Rattle.items.specs.declared.Direction.TheVariants.{Rx}
use Rattle.mdr.specs.Escaping.{Quiet}
use Rattle.mdr.proofs.Wire.{packed_framed}
use Rattle.cut.specs.Recording.{Frame, wire, RecordingOf, file, cut}
use Rattle.cut.proofs.PlainWires.{plain_wires}
use Rattle.cut.proofs.Tests.{plain_checked, is_plain, every, once, ends, header_test, whole_test, small_test, dlci_test, dynamic_test, channel_test, channels_test, right_test, checks_test, information_test, sizes_test, beginnings_test, settled_in, settled_test, alone_in, alone_test, handles_test, data_test, mark_test, fragments_test, rules, passed_all, honest}
use Rattle.cut.proofs.Made.{header_of, sends, starts, ends_with, each}

-- type 3E, sequence number 0, no payload, sum 3E
abbrev bare : List ℕ
bare = 0x3E ∷ 0x3E ∷ 0x00 ∷ 0x00 ∷ 0x00 ∷ 0x00 ∷ 0x00 ∷ 0x3E ∷ 0x3C ∷ []

-- no frame is packed so
not_begun : {inner x : List ℕ} → All Quiet inner → inner ++ (0x3C ∷ []) ≢ 0x3E ∷ x
not_begun all_nil e = let z : ◌≡◌ {A = ℕ} 0x3C 0x3E = head-eq_of_cons-eq e in omega arith
not_begun (all_cons q qs) e = q.1 (head-eq_of_cons-eq e)

pub not_packed : (f : Frame) → wire f ≢ bare
not_packed f e =
    let p = packed_framed f.type f.seq f.payload in
    not_begun p.quiet (tail-eq_of_cons-eq (sym p.is ∙ e))

abbrev pub sent_bare : RecordingOf btsnoop plain_wires
sent_bare = record {
  d = 18;
  header = header_of 1002;
  records = starts 0x40 Rx 5 0x41 18 (take 4 bare) 3 ∷ ends_with 0x40 Rx 5 0x41 18 (take 4 bare) 3 ∷ sends 0x40 Rx 5 0x41 18 (drop 4 bare) ∷ sends 0x40 Rx 6 0x41 18 bare ∷ [];
  links = record { handle = 0x40; cid = each 0x41 0x52; frames = each (bare ∷ bare ∷ []) []; partial = each [] [] } ∷ [];
}

bare_tested : rules (unchecked source) plain_checked (λ l t. bare) sent_bare ≡ passed_all
unfolding rules every once ends header_test whole_test small_test dlci_test dynamic_test channel_test channels_test information_test sizes_test beginnings_test settled_in settled_test alone_in alone_test handles_test data_test mark_test fragments_test left_from records_left sent data_of data_left pdus_in marked_pdus with_marks judged_in is_data_of to_data after_data adds carries_on file is_btsnoop datalink is_datalink eq_k record_size be32 be64 le16 packets_in packets packet_of milliseconds fragment h4_packet hci_packet monitor_packet pdus run after of joined is_complete still_open pdu_of completed command_size is_command commands chop chop_from body signal_of signals_in pdu_signals signals any names named asks_for admits admitted_after admitted is_tried asks_rfcomm asks_session is_sabm is_uih short_length info_length info_start credit_of is_right fcs_of register shifted shift_one frame_of uih_kind frame_kind kind_by tried_by judged_from judged_by rx_of packed body_of summed_of head_of checksum_of within is_plain unpacks_of unpack_of judged_frame is_given right_test checks_test
bare_tested = refl

pub bare_honest : Honest (unchecked source) sent_bare
bare_honest = honest lawful (unchecked source) plain_checked (λ l t. bare) sent_bare bare_tested

pub bare_found : outcome btsnoop (file sent_bare) (by_source (some 9) strict) ≡ finds 18 (span 1 5 bare ∷ span 1 6 bare ∷ []) 0 174 (went 18 0 0 0)
unfolding cut file tail_left of_handle closed_in frames_left mid_frame ends_mid mid_in mid_left past_close past_link past_in past_left left_from records_left sent data_of data_left outcome is_btsnoop datalink is_datalink ends_well read tail_offset records records_in chop chop_from is_whole record_size be32 be64 le16 eq_k file_pieces packets_in packets packet_of milliseconds fragment h4_packet hci_packet monitor_packet pdus run after of joined is_complete still_open pdu_of completed command_size is_command commands body signal_of signals_in pdu_signals signals any names named asks_for admits admitted_after admitted is_tried asks_rfcomm asks_session is_sabm is_uih short_length info_length info_start credit_of is_right fcs_of register shifted shift_one frame_of uih_kind frame_kind kind_by tried_by judged_from judged_by counted piece_of brought pieces seek spans_n rest_n spans_of rest_of capped spans unfinished on_dlci total dropped_n dropped_of cleared_of in_spans dropped cleared left count nub mem on_channel first has_frame chosen is_wrong wrong_on listed unpacks_of unpack_of judged_frame is_given within checksum_of packed body_of summed_of head_of rx_of wrong_left judged_in with_marks marked_pdus pdus_in
bare_found = refl
