-- The rules of an honest recording with the handle alone for a link would not do: recordings that keep them, one handle's fragments or data PDUs under two indexes,
-- have a frame left that import does not find.
use Prim.Native.Nat.{ℕ, ◌+◌, ◌/◌, ◌≤◌}
use mathlib.Core.Path.{◌≡◌, refl, sym, ap, ◌∙◌}
use mathlib.Core.Bool.{Bool, true, false}
use mathlib.Core.List.{List, [], ◌∷◌}
use mathlib.Core.Option.{Option, none, some}
use native.Mathlib.Omega.{arith}
use lib.ListN.{length}
use borrow.Author.Tests.{leb-true}
use Rattle.laws.proofs.Choice.{no_way}
use Rattle.laws.specs.Answers.{is_given}
use Rattle.laws.specs.Chop.{chop, chop_from}
use Rattle.laws.specs.Keys.{Key, eq_k}
use Rattle.laws.specs.Keyed.{put, of, run, after}
use Rattle.laws.specs.Count.{count, nub, mem}
use Rattle.laws.specs.Totals.{total}
use Rattle.laws.specs.Numbers.{le16, be32, be64}
use Rattle.items.specs.Items.{span, rx_of}
use Rattle.mdr.specs.Frame.{head_of, summed_of, body_of, packed, judged as judged_frame, unpack_of, unpacks_of}
use Rattle.mdr.specs.Escape.{within}
use Rattle.mdr.specs.Sum.{checksum_of}
use Rattle.container.specs.Packets.{Packet, fragment, packets}
use Rattle.container.specs.Container.{Container, Lawful, is_whole, records_in, records, tail_offset, packets_in}
use Rattle.container.proofs.Packets.{not_some}
use Rattle.btsnoop.specs.Header.{is_btsnoop, datalink, is_datalink}
use Rattle.btsnoop.specs.Records.{record_size, btsnoop}
use Rattle.btsnoop.specs.Packets.{milliseconds, monitor_packet, packet_of}
use Rattle.btsnoop.proofs.Laws.{lawful}
use Rattle.l2cap.specs.Pdus.{joined, is_complete, still_open, pdu_of, completed, packet_key, pdus}
use Rattle.channels.specs.Signals.{command_size, is_command, commands, body, signal_of, signals_in, pdu_signals, signals}
use Rattle.channels.specs.Channels.{any, names, named, asks_for, admits, admitted_after, admitted, is_tried, asks_rfcomm, asks_session}
use Rattle.channels.specs.Tried.{source, tried_by}
use Rattle.uih.specs.Fcs.{shift_one, shifted, register, fcs_of}
use Rattle.uih.specs.Frames.{is_sabm, is_uih, short_length, info_length, info_start, credit_of, frame_of, is_right}
use Rattle.rfcomm.specs.Pieces.{uih_kind, frame_kind, Judging, unchecked, kind_by, judged_from, judged_by, counted, piece_of, brought, pieces, is_wrong, wrong_on}
use Rattle.search.specs.Seek.{seek}
use Rattle.spans.specs.Scan.{spans_n, rest_n, spans_of, rest_of, capped}
use Rattle.spans.specs.Spans.{spans, unfinished, on_dlci}
use Rattle.spans.specs.Account.{dropped_n, dropped_of, cleared_of, in_spans, dropped, cleared, left}
use Rattle.outcome.specs.Import.{Found, found, missing, tolerant, Options, on_channel, first as first_of, has_frame, chosen, listed, file_pieces, read, ends_well, outcome}
use Rattle.outcome.proofs.Examples.{went, finds}
use Rattle.cut.specs.Recording.{Link, part, last, Recording, file, cut}
use Rattle.cut.specs.Left.{left_from, records_left, tail_left, Sent, sent, data_of, data_left, closed_in, of_handle, frames_left, mid_frame, ends_mid, mid_in, mid_left, past_close, past_link, past_in, past_left}
use Rattle.cut.specs.Honest.{pdus_in, marked_pdus, with_marks, judged_in, is_data_of, to_data, after_data, adds, carries_on, Joins, first, further, Fragments, more, end, Honest}
use Rattle.cut.specs.Claim.{wrong_left}
use Rattle.cut.proofs.Tests.{packed_checked, every, once, ends, header_test, whole_test, small_test, dlci_test, dynamic_test, channel_test, channels_test, checks_test, information_test, sizes_test, beginnings_test, settled_in, settled_test, alone_in, alone_test, handles_test, data_test, mark_test, fragments_test, is_none, rules, passed_all, honest}
use Rattle.cut.proofs.Recordings.{unended}
use Rattle.cut.proofs.Computed.{fragments, beginnings, but, tested_by, found_by, left_at, w₀, w₂}
use Rattle.adapters.specs.Links.{if_there, relinking, by_handle}
use Rattle.adapters.proofs.Recordings.{torn_by_handle, torn_with, torn, torn_frame_by_handle, torn_frame}

-- ---- a container with other numbers for its links is one

module _ (ρ : ℕ → ℕ) (C : Container) (L : Lawful C) where
  abbrev bytes_in : Option Packet → List ℕ
  bytes_in none = []
  bytes_in (some p) = p.bytes

  roomy : (f r : List ℕ) (p : Packet) (o : Option Packet) → C.packet f r ≡ o → if_there ρ o ≡ some p → 25 + length p.bytes ≤ length r
  unfolding if_there
  roomy f r p none e q = not_some q
  roomy f r p (some x) e q = let same : x.bytes ≡ p.bytes = ap bytes_in q in omega (arith, L.room f r x e, ap length same)

  relinking_lawful : Lawful (relinking ρ C)
  relinking_lawful = record {
    least = L.least;
    size_front = L.size_front;
    long = L.long;
    file_front = L.file_front;
    link_front = L.link_front;
    sizes_front = L.sizes_front;
    packets_front = λ h x e. ap (λ (g : List ℕ → Option Packet). λ (r : List ℕ). if_there ρ (g r)) (L.packets_front h x e);
    room = λ f r p e. roomy f r p (C.packet f r) refl e;
  }

-- ---- honest by the handle alone

torn_tested : tested_by (unchecked source) torn_by_handle ≡ passed_all
unfolding if_there rules every once ends header_test whole_test small_test dlci_test dynamic_test channel_test channels_test checks_test information_test sizes_test beginnings_test settled_in settled_test alone_in alone_test handles_test data_test mark_test fragments_test left_from records_left sent data_of data_left pdus_in marked_pdus with_marks judged_in is_data_of to_data after_data adds carries_on file is_btsnoop datalink is_datalink eq_k record_size be32 be64 le16 packets_in packets packet_of milliseconds fragment monitor_packet pdus run after of joined is_complete still_open pdu_of completed command_size is_command commands chop chop_from body signal_of signals_in pdu_signals signals any names named asks_for admits admitted_after admitted is_tried asks_rfcomm asks_session is_sabm is_uih short_length info_length info_start credit_of is_right fcs_of register shifted shift_one frame_of uih_kind frame_kind kind_by tried_by judged_from judged_by rx_of packed body_of summed_of head_of checksum_of within
torn_tested = refl

pub torn_honest : Honest (unchecked source) torn_by_handle
torn_honest = honest (relinking_lawful _ btsnoop lawful) (unchecked source) packed_checked (λ l t. unended) torn_by_handle torn_tested

torn_frame_tested : tested_by (unchecked source) torn_frame_by_handle ≡ passed_all
unfolding if_there rules every once ends header_test whole_test small_test dlci_test dynamic_test channel_test channels_test checks_test information_test sizes_test beginnings_test settled_in settled_test alone_in alone_test handles_test data_test mark_test fragments_test left_from records_left sent data_of data_left pdus_in marked_pdus with_marks judged_in is_data_of to_data after_data adds carries_on file is_btsnoop datalink is_datalink eq_k record_size be32 be64 le16 packets_in packets packet_of milliseconds fragment monitor_packet pdus run after of joined is_complete still_open pdu_of completed command_size is_command commands chop chop_from body signal_of signals_in pdu_signals signals any names named asks_for admits admitted_after admitted is_tried asks_rfcomm asks_session is_sabm is_uih short_length info_length info_start credit_of is_right fcs_of register shifted shift_one frame_of uih_kind frame_kind kind_by tried_by judged_from judged_by rx_of packed body_of summed_of head_of checksum_of within
torn_frame_tested = refl

pub torn_frame_honest : Honest (unchecked source) torn_frame_by_handle
torn_frame_honest = honest (relinking_lawful _ btsnoop lawful) (unchecked source) packed_checked (λ l t. unended) torn_frame_by_handle torn_frame_tested

-- ---- a frame is left, which import by the handle alone finds, and import by index and handle does not

-- as the claim has them
abbrev pub options : Options
options = record { channel = some 9; tail = tolerant; judging = unchecked source }

abbrev LeftOut : Recording by_handle → ℕ → Found → Type 0
LeftOut R n x = (left_at (unchecked source) R n ≡ x) × (found_by (unchecked source) R n ≡ x) × (outcome btsnoop (cut R n) options ≡ missing 6 [])

pub torn_cut : LeftOut torn_by_handle 89 (finds 18 (span 1 6 w₂ ∷ []) 0 89 (went 9 0 0 0))
unfolding if_there cut file tail_left of_handle closed_in frames_left mid_frame ends_mid mid_in mid_left past_close past_link past_in past_left wrong_left judged_in with_marks marked_pdus pdus_in left_from records_left sent data_of data_left outcome is_btsnoop datalink is_datalink ends_well read tail_offset records records_in chop chop_from is_whole record_size be32 be64 le16 eq_k file_pieces packets_in packets packet_of milliseconds fragment monitor_packet pdus run after of joined is_complete still_open pdu_of completed command_size is_command commands body signal_of signals_in pdu_signals signals any names named asks_for admits admitted_after admitted is_tried asks_rfcomm asks_session is_sabm is_uih short_length info_length info_start credit_of is_right fcs_of register shifted shift_one frame_of uih_kind frame_kind kind_by tried_by judged_from judged_by counted piece_of brought pieces seek spans_n rest_n spans_of rest_of capped spans unfinished on_dlci total dropped_n dropped_of cleared_of in_spans dropped cleared left count nub mem on_channel first_of has_frame chosen is_wrong wrong_on listed unpacks_of unpack_of judged_frame is_given within checksum_of packed body_of summed_of head_of rx_of
torn_cut = (refl, refl, refl)

pub torn_frame_cut : LeftOut torn_frame_by_handle 97 (finds 18 (span 1 6 w₀ ∷ []) 0 97 (went 9 0 0 0))
unfolding if_there cut file tail_left of_handle closed_in frames_left mid_frame ends_mid mid_in mid_left past_close past_link past_in past_left wrong_left judged_in with_marks marked_pdus pdus_in left_from records_left sent data_of data_left outcome is_btsnoop datalink is_datalink ends_well read tail_offset records records_in chop chop_from is_whole record_size be32 be64 le16 eq_k file_pieces packets_in packets packet_of milliseconds fragment monitor_packet pdus run after of joined is_complete still_open pdu_of completed command_size is_command commands body signal_of signals_in pdu_signals signals any names named asks_for admits admitted_after admitted is_tried asks_rfcomm asks_session is_sabm is_uih short_length info_length info_start credit_of is_right fcs_of register shifted shift_one frame_of uih_kind frame_kind kind_by tried_by judged_from judged_by counted piece_of brought pieces seek spans_n rest_n spans_of rest_of capped spans unfinished on_dlci total dropped_n dropped_of cleared_of in_spans dropped cleared left count nub mem on_channel first_of has_frame chosen is_wrong wrong_on listed unpacks_of unpack_of judged_frame is_given within checksum_of packed body_of summed_of head_of rx_of
torn_frame_cut = (refl, refl, refl)

abbrev pub is_missing : Found → Bool
is_missing (found x) = false
is_missing (missing n vs) = true

-- so the claim with the handle alone is false
pub claim_by_handle_false : {G : Type 0} → ((R : Recording by_handle) → Honest (unchecked source) R → (n : ℕ) → 16 ≤ n → n ≤ length (file R) → outcome btsnoop (cut R n) (record { channel = some (R.d / 2); tail = tolerant; judging = unchecked source }) ≡ left_at (unchecked source) R n) → G
unfolding file packed body_of summed_of head_of checksum_of within
claim_by_handle_false claim =
    let e : missing 6 [] ≡ finds 18 (span 1 6 w₂ ∷ []) 0 89 (went 9 0 0 0) = sym torn_cut.2 ∙ claim torn_by_handle torn_honest 89 (omega arith) (leb-true 89 _ refl) ∙ torn_cut.0 in
    no_way refl (ap is_missing e)

-- ---- by index and handle they are not honest

-- a further fragment where no data PDU is under way
not_joined : {G : Type 0} {p : Packet} {s : Option (List ℕ)} {b : List ℕ} → Joins p s b → is_none s ≡ true → p.start ≡ false → G
not_joined (first e w) o q = no_way e q
not_joined (further e w) o q = no_way o refl

not_ended :
    {G : Type 0} {R : Recording btsnoop} {σ : Key → Option (List ℕ)} {p q : Packet} {i : List ℕ} {xs : List Sent} →
    Fragments R σ (record { packet = p; mark = part } ∷ record { packet = q; mark = last i } ∷ xs) →
    ((b : List ℕ) → is_none (put σ (packet_key p) (some b) (packet_key q)) ≡ true) → q.start ≡ false → G
not_ended (more {b = b} j c (end k e d w)) o q = not_joined k (o b) q

-- with whatever links, by either channel rule, FCS checked or not
pub torn_uncovered : {G : Type 0} {by : Judging} (ls : List Link) → Honest by (torn_with ls) → G
unfolding sent datalink be32 be64 le16 packet_of milliseconds fragment monitor_packet eq_k packed body_of summed_of head_of checksum_of within
torn_uncovered ls H = not_ended H.fragments (λ b. refl) refl

-- With the second index's link, the fragments alone do not fit; the first index's did not receive the frame either.
pub torn_broken : (tested_by (unchecked source) (torn 1) ≡ but fragments) × (tested_by (unchecked source) (torn 0) ≡ true ∷ true ∷ true ∷ true ∷ true ∷ true ∷ true ∷ false ∷ true ∷ false ∷ true ∷ true ∷ true ∷ true ∷ [])
unfolding rules every once ends header_test whole_test small_test dlci_test dynamic_test channel_test channels_test checks_test information_test sizes_test beginnings_test settled_in settled_test alone_in alone_test handles_test data_test mark_test fragments_test left_from records_left sent data_of data_left pdus_in marked_pdus with_marks judged_in is_data_of to_data after_data adds carries_on file is_btsnoop datalink is_datalink eq_k record_size be32 be64 le16 packets_in packets packet_of milliseconds fragment monitor_packet pdus run after of joined is_complete still_open pdu_of completed command_size is_command commands chop chop_from body signal_of signals_in pdu_signals signals any names named asks_for admits admitted_after admitted is_tried asks_rfcomm asks_session is_sabm is_uih short_length info_length info_start credit_of is_right fcs_of register shifted shift_one frame_of uih_kind frame_kind kind_by tried_by judged_from judged_by rx_of packed body_of summed_of head_of checksum_of within
torn_broken = (refl, refl)

-- the second half begins no frame
pub torn_frame_broken : tested_by (unchecked source) torn_frame ≡ but beginnings
unfolding rules every once ends header_test whole_test small_test dlci_test dynamic_test channel_test channels_test checks_test information_test sizes_test beginnings_test settled_in settled_test alone_in alone_test handles_test data_test mark_test fragments_test left_from records_left sent data_of data_left pdus_in marked_pdus with_marks judged_in is_data_of to_data after_data adds carries_on file is_btsnoop datalink is_datalink eq_k record_size be32 be64 le16 packets_in packets packet_of milliseconds fragment monitor_packet pdus run after of joined is_complete still_open pdu_of completed command_size is_command commands chop chop_from body signal_of signals_in pdu_signals signals any names named asks_for admits admitted_after admitted is_tried asks_rfcomm asks_session is_sabm is_uih short_length info_length info_start credit_of is_right fcs_of register shifted shift_one frame_of uih_kind frame_kind kind_by tried_by judged_from judged_by rx_of packed body_of summed_of head_of checksum_of within
torn_frame_broken = refl
