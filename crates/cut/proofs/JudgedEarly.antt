-- Judging channels before the end of the file is wrong: on two recordings that rule finds something else than import does, by computation.
use Prim.Native.Nat.{◌/◌}
use mathlib.Core.Path.{◌≡◌, refl}
use mathlib.Core.List.{List, [], ◌∷◌, ◌++◌}
use mathlib.Core.Option.{some}
use Rattle.laws.specs.Answers.{is_given}
use Rattle.laws.specs.Chop.{chop, chop_from}
use Rattle.laws.specs.Keys.{eq_k}
use Rattle.laws.specs.Keyed.{of, run, after}
use Rattle.laws.specs.Count.{count, nub, mem}
use Rattle.laws.specs.Totals.{total}
use Rattle.laws.specs.Numbers.{le16, be32, be64}
use Rattle.items.specs.Items.{span, rx_of}
use Rattle.mdr.specs.Frame.{head_of, summed_of, body_of, packed, judged as judged_frame, unpack_of, unpacks_of}
use Rattle.mdr.specs.Escape.{within}
use Rattle.mdr.specs.Sum.{checksum_of}
use Rattle.btsnoop.specs.Header.{is_btsnoop, datalink, is_datalink}
use Rattle.btsnoop.specs.Records.{record_size, btsnoop}
use Rattle.container.specs.Container.{is_whole, records_in, records, tail_offset, packets_in}
use Rattle.container.specs.Packets.{fragment, h4_packet, packets}
use Rattle.btsnoop.specs.Packets.{milliseconds, hci_packet, monitor_packet, packet_of}
use Rattle.l2cap.specs.Pdus.{Pdu, joined, is_complete, still_open, pdu_of, completed, pdus}
use Rattle.channels.specs.Signals.{command_size, is_command, commands, body, signal_of, signals_in, pdu_signals, signals}
use Rattle.channels.specs.Channels.{any, names, named, asks_for, admits, admitted_after, admitted, is_tried, asks_rfcomm, asks_session}
use Rattle.channels.specs.Tried.{source, tried_by}
use Rattle.uih.specs.Fcs.{shift_one, shifted, register, fcs_of}
use Rattle.uih.specs.Frames.{is_sabm, is_uih, short_length, info_length, info_start, credit_of, frame_of, is_right}
use Rattle.rfcomm.specs.Pieces.{unchecked, kinds, Judged, Piece, uih_kind, frame_kind, kind_by, judged_from, judged_by, counted, piece_of, brought, pieces, is_wrong, wrong_on}
use Rattle.search.specs.Seek.{seek}
use Rattle.spans.specs.Scan.{spans_n, rest_n, spans_of, rest_of, capped}
use Rattle.spans.specs.Spans.{spans, unfinished, on_dlci}
use Rattle.spans.specs.Account.{dropped_n, dropped_of, cleared_of, in_spans, dropped, cleared, left}
use Rattle.outcome.specs.Import.{Found, missing, on_channel, first, has_frame, chosen, listed, file_pieces, read, ends_well, outcome}
use Rattle.outcome.proofs.Examples.{finds, went}
use Rattle.cut.specs.Recording.{Recording, file, cut}
use Rattle.cut.proofs.Recordings.{admitted_late, only_cut}
use Rattle.cut.proofs.Computed.{found_by, w₀, w₂}

-- the wrong rule: each PDU by the commands up to it, as if the file ended there
abbrev early_from : List Pdu → List Pdu → List Judged
early_from before [] = []
early_from before (p ∷ ps) = (let up_to : List Pdu = before ++ (p ∷ []) in record { pdu = p; kind = kind_by (unchecked source) up_to up_to p } ∷ early_from up_to ps)

abbrev early_judged : Recording btsnoop → List Judged
early_judged R = early_from [] (pdus (packets_in btsnoop (file R)))

abbrev early_pieces : Recording btsnoop → List Piece
early_pieces R = pieces (early_judged R)

-- what import would find in the whole file by that rule
abbrev found_early : Recording btsnoop → Found
found_early R = listed (early_pieces R) (λ d. wrong_on d (kinds (early_judged R))) (tail_offset btsnoop (file R)) (chosen (some (R.d / 2)) (early_pieces R))

-- a channel named before its data and admitted after it: by the wrong rule its frame is lost. A channel named after its data, for another
-- service: by the wrong rule a frame of that service is listed
pub judged_early :
    (found_by (unchecked source) admitted_late 189 ≡ finds 18 (span 1 5 w₀ ∷ []) 0 189 (went 9 0 0 0)) × (found_early admitted_late ≡ missing 6 []) ×
    (found_by (unchecked source) only_cut 149 ≡ finds 18 (span 1 5 w₀ ∷ []) 0 149 (went 9 0 0 0)) × (found_early only_cut ≡ finds 18 (span 1 5 w₀ ∷ span 1 6 w₂ ∷ []) 0 149 (went 18 0 0 0))
unfolding cut file outcome is_btsnoop datalink is_datalink ends_well read tail_offset records records_in chop chop_from is_whole record_size be32 be64 le16 eq_k file_pieces packets_in packets packet_of milliseconds fragment h4_packet hci_packet monitor_packet pdus run after of joined is_complete still_open pdu_of completed command_size is_command commands body signal_of signals_in pdu_signals signals any names named asks_for admits admitted_after admitted is_tried asks_rfcomm asks_session is_sabm is_uih short_length info_length info_start credit_of is_right fcs_of register shifted shift_one frame_of uih_kind frame_kind kind_by tried_by judged_from judged_by counted piece_of brought pieces seek spans_n rest_n spans_of rest_of capped spans unfinished on_dlci total dropped_n dropped_of cleared_of in_spans dropped cleared left count nub mem on_channel first has_frame chosen is_wrong wrong_on listed unpacks_of unpack_of judged_frame is_given within checksum_of packed body_of summed_of head_of rx_of
judged_early = (refl, refl, refl, refl)
