-- Honest recordings on datalinks 1001 and 2001, and import of their cuts computed: both directions, a time before 1970, a time to be rounded down,
-- a frame that is not ended, a record to be skipped.
use Prim.Native.Nat.{ℕ, ◌+◌}
use mathlib.Core.Path.{◌≡◌, refl}
use mathlib.Core.List.{List, [], ◌∷◌, ◌++◌, map}
use lib.ListN.{take, drop}
use Rattle.laws.specs.Answers.{is_given}
use Rattle.laws.specs.Chop.{chop, chop_from}
use Rattle.laws.specs.Keys.{eq_k}
use Rattle.laws.specs.Keyed.{of, run, after}
use Rattle.laws.specs.Count.{count, nub, mem}
use Rattle.laws.specs.Totals.{total}
use Rattle.laws.specs.Numbers.{le16, be32, be64}
use Rattle.items.specs.Items.{Span, span, rx_of}
use Rattle.mdr.specs.Frame.{head_of, summed_of, body_of, packed, judged as judged_frame, unpack_of, unpacks_of}
use Rattle.mdr.specs.Escape.{within}
use Rattle.mdr.specs.Sum.{checksum_of}
use Rattle.btsnoop.specs.Header.{is_btsnoop, datalink, is_datalink}
use Rattle.btsnoop.specs.Records.{record_size, btsnoop}
use Rattle.btsnoop.proofs.Laws.{lawful}
use Rattle.container.specs.Container.{is_whole, records_in, records, tail_offset, packets_in}
use Rattle.container.specs.Packets.{fragment, h4_packet, packets}
use Rattle.btsnoop.specs.Packets.{milliseconds, hci_packet, monitor_packet, packet_of}
use Rattle.l2cap.specs.Pdus.{joined, is_complete, still_open, pdu_of, completed, pdus}
use Rattle.channels.specs.Signals.{command_size, is_command, commands, body, signal_of, signals_in, pdu_signals, signals}
use Rattle.channels.specs.Channels.{any, names, named, asks_for, admits, admitted_after, admitted, is_tried, asks_rfcomm, asks_session}
use Rattle.channels.specs.Tried.{source, tried_by}
use Rattle.uih.specs.Fcs.{shift_one, shifted, register, fcs_of}
use Rattle.uih.specs.Frames.{is_sabm, is_uih, short_length, info_length, info_start, credit_of, frame_of, is_right}
use Rattle.rfcomm.specs.Pieces.{unchecked, uih_kind, frame_kind, kind_by, judged_from, judged_by, counted, piece_of, brought, pieces, is_wrong, wrong_on}
use Rattle.search.specs.Seek.{seek}
use Rattle.spans.specs.Scan.{spans_n, rest_n, spans_of, rest_of, capped}
use Rattle.spans.specs.Spans.{spans, unfinished, on_dlci}
use Rattle.spans.specs.Account.{dropped_n, dropped_of, cleared_of, in_spans, dropped, cleared, left}
use Rattle.outcome.specs.Import.{Found, missing, on_channel, first, has_frame, chosen, listed, file_pieces, read, ends_well, outcome}
use Rattle.outcome.proofs.Examples.{finds, went}
use Rattle.cut.specs.Recording.{wire, free, last, Recording, file, cut}
use Rattle.cut.specs.Left.{left_from, records_left, tail_left, sent, data_of, data_left, closed_in, of_handle, frames_left, mid_frame, ends_mid, mid_in, mid_left, past_close, past_link, past_in, past_left}
use Rattle.cut.specs.Honest.{pdus_in, marked_pdus, with_marks, judged_in, is_data_of, to_data, after_data, adds, carries_on, Honest}
use Rattle.cut.specs.Claim.{wrong_left}
use Rattle.cut.proofs.Tests.{packed_checked, every, once, ends, header_test, whole_test, small_test, dlci_test, dynamic_test, channel_test, channels_test, right_test, checks_test, information_test, sizes_test, beginnings_test, settled_in, settled_test, alone_in, alone_test, handles_test, data_test, mark_test, fragments_test, rules, passed_all, honest}
use Rattle.cut.proofs.Recordings.{ack, unended}
use Rattle.cut.proofs.Made.{header_of, stamped, acl, pdu, uih_on, each}
use Rattle.cut.proofs.Computed.{tested_by, found_by, left_at, w₀}

-- a data PDU in one packet, without the H4 type
abbrev bare : ℕ → List ℕ → List ℕ
bare cid i = drop 1 (acl 0x40 2 (pdu cid (uih_on 18 i)))

abbrev ack_and_more : List ℕ
ack_and_more = wire ack ++ take 4 (wire unended)

-- by the datalink, and the flags of a packet received, of one sent, and of one to be skipped. The first comes one microsecond before 1970, the second
-- 5,999 microseconds into it
abbrev on_datalink : ℕ → ℕ → ℕ → ℕ → Recording btsnoop
on_datalink link rx tx skip = record {
  d = 18;
  header = header_of link;
  records =
      record { bytes = stamped rx 0x00dcddb30f2f7fff (bare 0x41 (wire ack)); mark = last (wire ack) } ∷
      record { bytes = stamped tx (0x00dcddb30f2f8000 + 5999) (bare 0x52 ack_and_more); mark = last ack_and_more } ∷
      record { bytes = stamped skip 0x00dcddb30f2f8000 (bare 0x41 (wire ack)); mark = free } ∷ [];
  links = record { handle = 0x40; cid = each 0x41 0x52; frames = each (ack ∷ []) (ack ∷ []); partial = each [] (take 4 (wire unended)) } ∷ [];
}

-- HCI without H4
abbrev pub hci : Recording btsnoop
hci = on_datalink 1001 1 0 3

-- a monitor trace
abbrev pub monitor : Recording btsnoop
monitor = on_datalink 2001 5 4 6

datalinks_tested : (tested_by (unchecked source) hci ≡ passed_all) × (tested_by (unchecked source) monitor ≡ passed_all)
unfolding rules every once ends header_test whole_test small_test dlci_test dynamic_test channel_test channels_test information_test sizes_test beginnings_test settled_in settled_test alone_in alone_test handles_test data_test mark_test fragments_test left_from records_left sent data_of data_left pdus_in marked_pdus with_marks judged_in is_data_of to_data after_data adds carries_on file is_btsnoop datalink is_datalink eq_k record_size be32 be64 le16 packets_in packets packet_of milliseconds fragment h4_packet hci_packet monitor_packet pdus run after of joined is_complete still_open pdu_of completed command_size is_command commands chop chop_from body signal_of signals_in pdu_signals signals any names named asks_for admits admitted_after admitted is_tried asks_rfcomm asks_session is_sabm is_uih short_length info_length info_start credit_of is_right fcs_of register shifted shift_one frame_of uih_kind frame_kind kind_by tried_by judged_from judged_by rx_of packed body_of summed_of head_of checksum_of within right_test checks_test
datalinks_tested = (refl, refl)

pub hci_honest : Honest (unchecked source) hci
hci_honest = honest lawful (unchecked source) packed_checked (λ l t. unended) hci datalinks_tested.0

pub monitor_honest : Honest (unchecked source) monitor
monitor_honest = honest lawful (unchecked source) packed_checked (λ l t. unended) monitor datalinks_tested.1

-- whole; less one byte; within the second record; before the first frame is closed; nothing but the header
abbrev cuts : List ℕ
cuts = 155 ∷ 154 ∷ 109 ∷ 60 ∷ 16 ∷ []

abbrev both : List Span
both = span 1 0 w₀ ∷ span 0 5 w₀ ∷ []

abbrev answers : List Found
answers = finds 18 both 1 155 (went 18 0 0 4) ∷ finds 18 both 1 110 (went 18 0 0 4) ∷ finds 18 (span 1 0 w₀ ∷ []) 0 61 (went 9 0 0 0) ∷ missing 6 [] ∷ missing 6 [] ∷ []

-- import finds what is left
pub datalinks_cut :
    (map (found_by (unchecked source) hci) cuts ≡ answers) × (map (left_at (unchecked source) hci) cuts ≡ answers) ×
    (map (found_by (unchecked source) monitor) cuts ≡ answers) × (map (left_at (unchecked source) monitor) cuts ≡ answers)
unfolding cut file tail_left of_handle closed_in frames_left mid_frame ends_mid mid_in mid_left past_close past_link past_in past_left left_from records_left sent data_of data_left outcome is_btsnoop datalink is_datalink ends_well read tail_offset records records_in chop chop_from is_whole record_size be32 be64 le16 eq_k file_pieces packets_in packets packet_of milliseconds fragment h4_packet hci_packet monitor_packet pdus run after of joined is_complete still_open pdu_of completed command_size is_command commands body signal_of signals_in pdu_signals signals any names named asks_for admits admitted_after admitted is_tried asks_rfcomm asks_session is_sabm is_uih short_length info_length info_start credit_of is_right fcs_of register shifted shift_one frame_of uih_kind frame_kind kind_by tried_by judged_from judged_by counted piece_of brought pieces seek spans_n rest_n spans_of rest_of capped spans unfinished on_dlci total dropped_n dropped_of cleared_of in_spans dropped cleared left count nub mem on_channel first has_frame chosen is_wrong wrong_on listed unpacks_of unpack_of judged_frame is_given within checksum_of packed body_of summed_of head_of rx_of wrong_left judged_in with_marks marked_pdus pdus_in
datalinks_cut = (refl, refl, refl, refl)
