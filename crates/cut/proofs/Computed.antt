-- The worked example and the recording with everything are honest, and import of their cuts and the sizes of these are computed. Each rule that is broken alone breaks the claim.
use Prim.Native.Nat.{ℕ, zero, suc, ◌*◌, ◌/◌}
use mathlib.Core.Path.{◌≡◌, refl}
use mathlib.Core.Bool.{Bool, true, false}
use mathlib.Core.List.{List, [], ◌∷◌, ◌++◌, map}
use mathlib.Core.Option.{some}
use Rattle.laws.specs.Answers.{Answer, accepted, refused, is_given}
use Rattle.laws.specs.Chop.{chop, chop_from}
use Rattle.laws.specs.Keys.{eq_k}
use Rattle.laws.specs.Keyed.{of, run, after}
use Rattle.laws.specs.Count.{count, nub, mem}
use Rattle.laws.specs.Totals.{total}
use Rattle.laws.specs.Numbers.{le16, le32, le64, be32, be64}
use Rattle.items.specs.Items.{Span, span, rx_of, item, span_item, span_list}
use Rattle.mdr.specs.Frame.{head_of, summed_of, body_of, packed, judged as judged_frame, unpack_of, unpacks_of}
use Rattle.mdr.specs.Escape.{within}
use Rattle.mdr.specs.Sum.{checksum_of}
use Rattle.btsnoop.specs.Header.{is_btsnoop, datalink, is_datalink}
use Rattle.btsnoop.specs.Records.{record_size}
use Rattle.btsnoop.proofs.Laws.{lawful}
use Rattle.container.specs.Container.{Container, is_whole, records_in, records, tail_offset, packets_in}
use Rattle.container.specs.Packets.{fragment, h4_packet, packets}
use Rattle.btsnoop.specs.Packets.{milliseconds, hci_packet, monitor_packet, packet_of}
use Rattle.l2cap.specs.Pdus.{joined, is_complete, still_open, pdu_of, completed, pdus}
use Rattle.channels.specs.Signals.{command_size, is_command, commands, body, signal_of, signals_in, pdu_signals, signals}
use Rattle.channels.specs.Channels.{any, names, named, asks_for, admits, admitted_after, admitted, is_tried, asks_rfcomm, asks_session}
use Rattle.channels.specs.Tried.{source, tried_by}
use Rattle.uih.specs.Fcs.{shift_one, shifted, register, fcs_of}
use Rattle.uih.specs.Frames.{is_sabm, is_uih, short_length, info_length, info_start, credit_of, frame_of, is_right}
use Rattle.rfcomm.specs.Pieces.{uih_kind, frame_kind, Judging, unchecked, kind_by, judged_from, judged_by, counted, piece_of, brought, pieces, is_wrong, wrong_on}
use Rattle.search.specs.Seek.{seek}
use Rattle.spans.specs.Scan.{spans_n, rest_n, spans_of, rest_of, capped}
use Rattle.spans.specs.Spans.{spans, unfinished, on_dlci}
use Rattle.spans.specs.Account.{dropped_n, dropped_of, cleared_of, in_spans, dropped, cleared, left}
use Rattle.outcome.specs.Import.{Found, found, missing, tolerant, on_channel, first, has_frame, chosen, listed, file_pieces, read, ends_well, outcome, given, fits, work_suffices, imported}
use Rattle.outcome.specs.Sizes.{sizes as sizes_of, counts, sized}
use Rattle.outcome.proofs.Examples.{sample, finds, went}
use Rattle.cut.specs.Recording.{Recording, file, cut}
use Rattle.cut.specs.Left.{left_from, records_left, tail_left, sent, data_of, data_left, closed_in, of_handle, frames_left, mid_frame, ends_mid, mid_in, mid_left, past_close, past_link, past_in, past_left}
use Rattle.cut.specs.Honest.{pdus_in, marked_pdus, with_marks, judged_in, is_data_of, to_data, after_data, adds, carries_on, Honest}
use Rattle.cut.specs.Claim.{wrong_left, account_left, list_left}
use Rattle.cut.specs.Sizes.{sizes_left}
use Rattle.cut.proofs.Tests.{packed_checked, every, once, ends, header_test, whole_test, small_test, dlci_test, dynamic_test, channel_test, channels_test, right_test, checks_test, information_test, sizes_test, beginnings_test, settled_in, settled_test, alone_in, alone_test, handles_test, data_test, mark_test, fragments_test, rules, passed_all, honest}
use Rattle.cut.proofs.Recordings.{unended, example, busy, bad_header, not_whole, same_handles, low_cid, named_channel, admitted_late, false_mark, no_start, between, early, other_frames, no_beginning, new_link, new_session, other_data, other_dlci, only_cut}

-- ---- honest

pub example_file : file example ≡ sample
unfolding file
example_file = refl

-- the rules of honesty, tested
abbrev pub tested_by : {C : Container} → Judging → Recording C → List Bool
tested_by by R = rules by packed_checked (λ l t. unended) R

abbrev tested : {C : Container} → Recording C → List Bool
tested R = tested_by (unchecked source) R

pub data Rule : Type 0 where
  header whole small handles dlci dynamic channels fragments checks information sizes beginnings settled alone : Rule

-- its place among the tests
abbrev pub place : Rule → ℕ
place header = 0
place whole = 1
place small = 2
place handles = 3
place dlci = 4
place dynamic = 5
place channels = 6
place fragments = 7
place checks = 8
place information = 9
place sizes = 10
place beginnings = 11
place settled = 12
place alone = 13

-- all are passed but one
abbrev pub but : Rule → List Bool
but r = failed passed_all (place r) where
  failed : List Bool → ℕ → List Bool
  failed [] i = []
  failed (b ∷ bs) zero = false ∷ bs
  failed (b ∷ bs) (suc i) = b ∷ failed bs i

-- each broken recording passes all rules but one
pub all_tested :
    (tested example ≡ passed_all) × (tested busy ≡ passed_all) × (tested bad_header ≡ but header) × (tested not_whole ≡ but whole) × (tested same_handles ≡ but handles) × (tested low_cid ≡ but dynamic) ×
    (tested named_channel ≡ but channels) × (tested admitted_late ≡ but channels) × (tested false_mark ≡ but fragments) × (tested no_start ≡ but fragments) × (tested between ≡ but fragments) × (tested early ≡ but fragments) × (tested other_frames ≡ but information) × (tested no_beginning ≡ but beginnings) ×
    (tested new_link ≡ but settled) × (tested new_session ≡ but settled) × (tested other_data ≡ but alone) × (tested other_dlci ≡ but alone) × (tested only_cut ≡ but alone)
unfolding rules every once ends header_test whole_test small_test dlci_test dynamic_test channel_test channels_test information_test sizes_test beginnings_test settled_in settled_test alone_in alone_test handles_test data_test mark_test fragments_test left_from records_left sent data_of data_left pdus_in marked_pdus with_marks judged_in is_data_of to_data after_data adds carries_on file is_btsnoop datalink is_datalink eq_k record_size be32 be64 le16 packets_in packets packet_of milliseconds fragment h4_packet hci_packet monitor_packet pdus run after of joined is_complete still_open pdu_of completed command_size is_command commands chop chop_from body signal_of signals_in pdu_signals signals any names named asks_for admits admitted_after admitted is_tried asks_rfcomm asks_session is_sabm is_uih short_length info_length info_start credit_of is_right fcs_of register shifted shift_one frame_of uih_kind frame_kind kind_by tried_by judged_from judged_by rx_of packed body_of summed_of head_of checksum_of within right_test checks_test
all_tested = (refl, refl, refl, refl, refl, refl, refl, refl, refl, refl, refl, refl, refl, refl, refl, refl, refl, refl, refl)

-- two of them break their rule in a cut only: by the whole file they pass
pub broken_in_a_cut : (settled_in new_session (unchecked source) new_session.records 0x40 ≡ true) × (alone_in only_cut (unchecked source) only_cut.records ≡ true)
unfolding rules every once ends header_test whole_test small_test dlci_test dynamic_test channel_test channels_test information_test sizes_test beginnings_test settled_in settled_test alone_in alone_test handles_test data_test mark_test fragments_test left_from records_left sent data_of data_left pdus_in marked_pdus with_marks judged_in is_data_of to_data after_data adds carries_on file is_btsnoop datalink is_datalink eq_k record_size be32 be64 le16 packets_in packets packet_of milliseconds fragment h4_packet hci_packet monitor_packet pdus run after of joined is_complete still_open pdu_of completed command_size is_command commands chop chop_from body signal_of signals_in pdu_signals signals any names named asks_for admits admitted_after admitted is_tried asks_rfcomm asks_session is_sabm is_uih short_length info_length info_start credit_of is_right fcs_of register shifted shift_one frame_of uih_kind frame_kind kind_by tried_by judged_from judged_by rx_of packed body_of summed_of head_of checksum_of within right_test checks_test
broken_in_a_cut = (refl, refl)

-- so the claim is not empty
pub example_honest : Honest (unchecked source) example
example_honest = honest lawful (unchecked source) packed_checked (λ l t. unended) example all_tested.0

pub busy_honest : Honest (unchecked source) busy
busy_honest = honest lawful (unchecked source) packed_checked (λ l t. unended) busy all_tested.1

-- ---- cuts

-- what tolerant import of a cut finds
abbrev pub found_by : {C : Container} → Judging → Recording C → ℕ → Found
found_by {C} by R n = outcome C (cut R n) (record { channel = some (R.d / 2); tail = tolerant; judging = by })

-- what is left at n, in the form of what import finds
abbrev pub left_at : {C : Container} → Judging → Recording C → ℕ → Found
left_at by R n = of_frames (frames_left R n) where
  of_frames : List Span → Found
  of_frames [] = missing 6 []
  of_frames (s ∷ ss) = found (record { dlci = R.d; spans = s ∷ ss; unfinished = mid_left R n; tail = tail_left R n; wrong = wrong_left by R n; account = account_left R n (s ∷ ss) })

abbrev pub w₀ : List ℕ
w₀ = 0x3E ∷ 0x01 ∷ 0x00 ∷ 0x00 ∷ 0x00 ∷ 0x00 ∷ 0x00 ∷ 0x01 ∷ 0x3C ∷ []

abbrev pub w₁ : List ℕ
w₁ = 0x3E ∷ 0x0C ∷ 0x00 ∷ 0x00 ∷ 0x00 ∷ 0x00 ∷ 0x02 ∷ 0x3D ∷ 0x2C ∷ 0x10 ∷ 0x5A ∷ 0x3C ∷ []

abbrev pub w₂ : List ℕ
w₂ = 0x3E ∷ 0x01 ∷ 0x01 ∷ 0x00 ∷ 0x00 ∷ 0x00 ∷ 0x00 ∷ 0x02 ∷ 0x3C ∷ []

abbrev pub w₃ : List ℕ
w₃ = 0x3E ∷ 0x0E ∷ 0x00 ∷ 0x00 ∷ 0x00 ∷ 0x00 ∷ 0x02 ∷ 0x02 ∷ 0x3D ∷ 0x2E ∷ 0x50 ∷ 0x3C ∷ []

-- whole; less one byte; within a free record; a fragment short of two frames; before the first frame is closed; nothing but the header
abbrev cuts : List ℕ
cuts = 628 ∷ 627 ∷ 400 ∷ 385 ∷ 336 ∷ 16 ∷ []

abbrev pub four : List Span
four = span 1 7 w₃ ∷ span 1 7 w₂ ∷ span 1 8 w₁ ∷ span 1 8 w₂ ∷ []

abbrev answers : List Found
answers =
    finds 18 (four ++ (span 0 10 w₀ ∷ [])) 2 628 (went 51 0 0 11) ∷ finds 18 (four ++ (span 0 10 w₀ ∷ [])) 1 587 (went 51 0 0 7) ∷ finds 18 four 0 386 (went 42 0 0 0) ∷ finds 18 (span 1 7 w₃ ∷ span 1 7 w₂ ∷ []) 0 337 (went 21 0 0 0) ∷ missing 6 [] ∷ missing 6 [] ∷ []

-- import finds the first, the second is left
abbrev pub DifferBy : {C : Container} → Judging → Recording C → ℕ → Found → Found → Type 0
DifferBy by R n x y = (found_by by R n ≡ x) × (left_at by R n ≡ y)

abbrev Differ : {C : Container} → Recording C → ℕ → Found → Found → Type 0
Differ R n x y = DifferBy (unchecked source) R n x y

pub all_cuts :
    -- honest: import finds what is left
    Differ example 62 (finds 18 (span 1 0 w₀ ∷ []) 0 62 (went 9 0 0 0)) (finds 18 (span 1 0 w₀ ∷ []) 0 62 (went 9 0 0 0)) × Differ example 61 (missing 6 []) (missing 6 []) ×
    (map (found_by (unchecked source) busy) cuts ≡ answers) × (map (left_at (unchecked source) busy) cuts ≡ answers) ×
    -- a rule is broken: it does not
    Differ bad_header 62 (missing 3 []) (finds 18 (span 1 5 w₀ ∷ []) 0 62 (went 9 0 0 0)) ×
    Differ not_whole 88 (missing 6 []) (finds 18 (span 1 5 w₀ ∷ []) 0 88 (went 9 0 0 0)) ×
    Differ same_handles 66 (finds 18 (span 1 5 w₀ ∷ []) 1 66 (went 9 0 0 4)) (finds 18 (span 1 5 w₀ ∷ []) 2 66 (went 9 0 0 8)) ×
    Differ low_cid 62 (missing 6 []) (finds 18 (span 1 5 w₀ ∷ []) 0 62 (went 9 0 0 0)) ×
    Differ named_channel 103 (missing 6 []) (finds 18 (span 1 5 w₀ ∷ []) 0 103 (went 9 0 0 0)) ×
    Differ admitted_late 144 (missing 6 []) (finds 18 (span 1 5 w₀ ∷ []) 0 144 (went 9 0 0 0)) ×
    Differ false_mark 62 (finds 18 (span 1 5 w₀ ∷ []) 0 62 (went 9 0 0 0)) (finds 18 (span 1 5 w₂ ∷ []) 0 62 (went 9 0 0 0)) ×
    Differ no_start 62 (missing 6 []) (finds 18 (span 1 5 w₀ ∷ []) 0 62 (went 9 0 0 0)) ×
    Differ between 124 (missing 6 []) (finds 18 (span 1 7 w₀ ∷ []) 0 124 (went 9 0 0 0)) ×
    Differ early 92 (finds 18 (span 1 5 w₀ ∷ []) 0 92 (went 9 0 0 0)) (finds 18 (span 1 6 w₀ ∷ []) 0 92 (went 9 0 0 0)) ×
    Differ other_frames 62 (finds 18 (span 1 5 w₀ ∷ []) 0 62 (went 9 0 0 0)) (finds 18 (span 1 5 w₂ ∷ []) 0 62 (went 9 0 0 0)) ×
    Differ no_beginning 65 (finds 18 (span 1 5 w₀ ∷ span 1 5 (0x3E ∷ 0x00 ∷ 0x3C ∷ []) ∷ []) 0 65 (went 12 0 0 0)) (finds 18 (span 1 5 w₀ ∷ []) 1 65 (went 9 0 0 3)) ×
    Differ new_link 136 (missing 6 []) (finds 18 (span 1 7 w₀ ∷ []) 0 136 (went 9 0 0 0)) ×
    Differ new_session 136 (missing 6 []) (finds 18 (span 1 7 w₀ ∷ []) 0 136 (went 9 0 0 0)) ×
    Differ other_data 108 (finds 18 (span 1 5 w₀ ∷ span 1 6 w₂ ∷ []) 0 108 (went 18 0 0 0)) (finds 18 (span 1 5 w₀ ∷ []) 0 108 (went 9 0 0 0)) ×
    Differ other_dlci 108 (finds 19 (span 1 4 w₂ ∷ []) 0 108 (went 9 0 0 0)) (finds 18 (span 1 5 w₀ ∷ []) 0 108 (went 9 0 0 0)) ×
    Differ only_cut 108 (finds 18 (span 1 5 w₀ ∷ span 1 6 w₂ ∷ []) 0 108 (went 18 0 0 0)) (finds 18 (span 1 5 w₀ ∷ []) 0 108 (went 9 0 0 0))
unfolding cut file tail_left of_handle closed_in frames_left mid_frame ends_mid mid_in mid_left past_close past_link past_in past_left left_from records_left sent data_of data_left outcome is_btsnoop datalink is_datalink ends_well read tail_offset records records_in chop chop_from is_whole record_size be32 be64 le16 eq_k file_pieces packets_in packets packet_of milliseconds fragment h4_packet hci_packet monitor_packet pdus run after of joined is_complete still_open pdu_of completed command_size is_command commands body signal_of signals_in pdu_signals signals any names named asks_for admits admitted_after admitted is_tried asks_rfcomm asks_session is_sabm is_uih short_length info_length info_start credit_of is_right fcs_of register shifted shift_one frame_of uih_kind frame_kind kind_by tried_by judged_from judged_by counted piece_of brought pieces seek spans_n rest_n spans_of rest_of capped spans unfinished on_dlci total dropped_n dropped_of cleared_of in_spans dropped cleared left count nub mem on_channel first has_frame chosen is_wrong wrong_on listed unpacks_of unpack_of judged_frame is_given within checksum_of packed body_of summed_of head_of rx_of wrong_left judged_in with_marks marked_pdus pdus_in
all_cuts = ((refl, refl), (refl, refl), refl, refl, (refl, refl), (refl, refl), (refl, refl), (refl, refl), (refl, refl), (refl, refl), (refl, refl), (refl, refl), (refl, refl), (refl, refl), (refl, refl), (refl, refl), (refl, refl), (refl, refl), (refl, refl), (refl, refl), (refl, refl))

-- ---- sizes of cuts

-- the sizes of a cut, for tolerant import
abbrev sized_at : {C : Container} → Recording C → ℕ → Answer
sized_at {C} R n = sized C (cut R n) (8 * n) (record { channel = some (R.d / 2); tail = tolerant; judging = unchecked source })

-- what is left at n, in that form
abbrev sizes_at : {C : Container} → Recording C → ℕ → Answer
sizes_at R n = sizes_left (unchecked source) R n (frames_left R n)

-- at the same cuts
abbrev sizes_due : List Answer
sizes_due = accepted (121 ∷ 15 ∷ 12 ∷ 6 ∷ []) ∷ accepted (121 ∷ 14 ∷ 11 ∷ 5 ∷ []) ∷ accepted (98 ∷ 9 ∷ 7 ∷ 3 ∷ []) ∷ accepted (49 ∷ 8 ∷ 6 ∷ 2 ∷ []) ∷ refused 6 [] ∷ refused 6 [] ∷ []

pub sizes_of_cuts :
    (sized_at example 62 ≡ accepted (23 ∷ 1 ∷ 1 ∷ 1 ∷ [])) × (sizes_at example 62 ≡ accepted (23 ∷ 1 ∷ 1 ∷ 1 ∷ [])) × (sized_at example 61 ≡ refused 6 []) × (sizes_at example 61 ≡ refused 6 []) ×
    (map (sized_at busy) cuts ≡ sizes_due) × (map (sizes_at busy) cuts ≡ sizes_due)
unfolding cut file of_handle closed_in frames_left left_from records_left sent data_of data_left outcome is_btsnoop datalink is_datalink ends_well read tail_offset records records_in chop chop_from is_whole record_size be32 be64 le16 eq_k file_pieces packets_in packets packet_of milliseconds fragment h4_packet hci_packet monitor_packet pdus run after of joined is_complete still_open pdu_of completed command_size is_command commands body signal_of signals_in pdu_signals signals any names named asks_for admits admitted_after admitted is_tried asks_rfcomm asks_session is_sabm is_uih short_length info_length info_start credit_of is_right fcs_of register shifted shift_one frame_of uih_kind frame_kind kind_by tried_by judged_from judged_by counted piece_of brought pieces seek spans_n rest_n spans_of rest_of capped spans unfinished on_dlci total dropped_n dropped_of cleared_of in_spans dropped cleared left count nub mem on_channel first has_frame chosen is_wrong wrong_on listed unpacks_of unpack_of judged_frame is_given within checksum_of packed body_of summed_of head_of rx_of pdus_in sizes_of counts sized sizes_left list_left imported fits work_suffices given item span_item span_list le32 le64
sizes_of_cuts = (refl, refl, refl, refl, refl, refl)
