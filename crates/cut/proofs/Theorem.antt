-- The theorem: tolerant import of a cut of an honest recording finds exactly what is left of it.
use Prim.Native.Nat.{ℕ, ◌+◌, ◌-◌, ◌*◌, ◌/◌, ◌≤◌, ◌<◌}
use mathlib.Core.Path.{◌≡◌, refl, sym, ap, ◌∙◌, fun_ext}
use mathlib.Core.Logic.{◌≢◌}
use mathlib.Core.Bool.{true, false, ◌&&◌}
use mathlib.Core.List.{List, [], ◌∷◌, ◌++◌, map, nil≢cons}
use mathlib.Core.Option.{some}
use native.Mathlib.Omega.{arith}
use native.Mathlib.Nat.{zero-add}
use lib.ListN.{length, get_or, take, drop, length-append, length-take}
use lib.Dec.{leb, ltb}
use borrow.Author.Tests.{le-leb}
use Rattle.laws.proofs.Choice.{split_b, no_way, split≤}
use Rattle.laws.specs.Lists.{flat, All, all_nil, all_cons}
use Rattle.laws.specs.Stores.{filled}
use Rattle.laws.specs.Answers.{Answer, Outcome, gives, refuses, answer, output, Meets}
use Rattle.laws.specs.Keys.{Key}
use Rattle.laws.specs.Keyed.{step, run, after}
use Rattle.laws.specs.Count.{mem, nub}
use Rattle.laws.proofs.Totals.{total_map, total_same}
use Rattle.items.specs.Items.{Span, span, rx_of, span_list}
use Rattle.mdr.proofs.Escaping.{all_append}
use Rattle.mdr.specs.Frame.{unpacks_of}
use Rattle.container.specs.Container.{Container, records_in, records, tail_offset, packets_in, Lawful}
use Rattle.channels.specs.Channels.{any}
use Rattle.rfcomm.specs.Pieces.{Judging, Judged, kinds, Piece, judged_by, counting, no_counts, pieces, wrong_on}
use Rattle.spans.specs.Bytewise.{held}
use Rattle.spans.specs.Spans.{scanner, emptied, spans, unfinished, on_dlci}
use Rattle.spans.specs.Account.{in_spans, dropped, cleared, left, account_of, account_values}
use Rattle.spans.proofs.Account.{left_over}
use Rattle.outcome.specs.Import.{Options, has_frame, chosen, listed, file_pieces, file_wrong, read, ends_well, outcome, given, fits, work_suffices, imported}
use Rattle.cut.specs.Recording.{Record, RecordingOf, rows, file, cut, Framing}
use Rattle.cut.specs.Left.{records_left, tail_left, sent_in, Data, data_key, link_key, information_of, data_of, data_left, closed_in, wires, wires_of, closing, frames_left, mid_left, past_left}
use Rattle.cut.specs.Honest.{pdus_in, JudgedPdu, judged_in, Honest}
use Rattle.cut.specs.Claim.{account_left, answer_left, list_left, CutClaimOf, CutClaim, wrong_left}
use Rattle.cut.proofs.TwoParts.{map_map, take_past, all_at}
use Rattle.cut.proofs.CutRecords.{records_front, cut_records}
use Rattle.cut.proofs.CutWires.{Spanning, stream, held_past, mid_none, past_mid}
use Rattle.cut.proofs.Interleaving.{information_append, plain, Framed, as_piece, Apart, came_after, Fed, fed_run, fed_after, fed_none}
use Rattle.cut.proofs.Counts.{mem_nub, once_nub, count_same, count_respell}
use Rattle.cut.proofs.LinkWires.{partial_of, packed_spans, wires_all, links_framed, found, directions, directions_once, mid_at, mid_counted, past_at, past_added}
use Rattle.cut.proofs.DataPdus.{data_in, sent_append, data_append, cut_trace, cut_data, OnLink, trace_links}
use Rattle.cut.proofs.DataKeys.{Where, nowhere, at_link, where_is_law, occurs, within, stretch_at, among_directions}
use Rattle.cut.proofs.JudgedLists.{judged_of, marked_of, in_judged, in_marked}
use Rattle.cut.proofs.CutPieces.{stretch, stretch_apart, calm_pieces, Near, calm_near, chosen_yes, chosen_no}
use Rattle.cut.proofs.CutRules.{cid_of, cut_calm}

-- ---- the frames closed unpack

abbrev Unpacks : Span → Type 0
Unpacks s = unpacks_of s.wire ≡ true

all_closed : (T : List ℕ → Type 0) (at a b : ℕ) {ws : List (List ℕ)} → All T ws → All T (closed_in at a b ws)
unfolding closed_in
all_closed T at a b all_nil = all_nil
all_closed T at a b (all_cons {x = w} {xs = ws} p ps) =
    split_b (ltb a (at + length w) && leb (at + length w) b)
    (λ e. rw e (all_cons p (all_closed T (at + length w) a b ps)))
    (λ e. rw e (all_closed T (at + length w) a b ps))

all_spans : (r t : ℕ) {ws : List (List ℕ)} → All (λ (w : List ℕ). unpacks_of w ≡ true) ws → All Unpacks (map (λ w. span r t w) ws)
all_spans r t all_nil = all_nil
all_spans r t (all_cons p ps) = all_cons p (all_spans r t ps)

closing_unpacks : (W : ℕ → ℕ → List (List ℕ)) → ((h r : ℕ) → All (λ (w : List ℕ). unpacks_of w ≡ true) (W h r)) → (came : Key → ℕ) (xs : List Data) → All Unpacks (run (closing W) came xs)
unfolding run
closing_unpacks W u came [] = all_nil
closing_unpacks W u came (x ∷ xs) =
    all_append
    (all_spans x.rx x.time (all_closed (λ (w : List ℕ). unpacks_of w ≡ true) 0 (came (data_key x)) (came (data_key x) + length x.information) (u x.link x.rx)))
    (closing_unpacks W u (step (closing W) came x) xs)

-- ---- one cut

module _ {by : Judging} {C : Container} {S : Framing} (R : RecordingOf C S) (G : Spanning S) (H : Honest by R) (n : ℕ) where
  abbrev rs : List Record
  rs = records_left R n

  abbrev back : List Record
  back = (records_front R n).back

  abbrev D : List Data
  D = data_left R n

  abbrev J : List JudgedPdu
  J = judged_in by R rs

  abbrev ps : List Piece
  ps = run counting no_counts (judged_of J)

  -- frames with a wrong FCS on each DLCI
  abbrev wrongs : ℕ → ℕ
  wrongs d = wrong_on d (map (λ q. q.kind) J)

  abbrev F : ℕ → ℕ → Key
  F = stretch (cid_of R.links) R.d (after counting no_counts (judged_of J))

  apart : Apart F
  apart = stretch_apart (cid_of R.links) R.d (after counting no_counts (judged_of J))

  -- all packets, and all data PDUs, are those of the cut and more
  sent_whole : sent_in R R.records ≡ sent_in R rs ++ sent_in R back
  sent_whole = ap (sent_in R) (records_front R n).whole ∙ sent_append (C.packet R.header) rs back

  data_whole : data_of (sent_in R R.records) ≡ D ++ data_of (sent_in R back)
  unfolding data_left
  data_whole = rw sent_whole (data_append (sent_in R rs) (sent_in R back))

  data_is : data_in (marked_of J) ≡ D
  data_is = rw (in_marked by R rs) (cut_data R n H.fragments)

  on_links : All (OnLink R.links) D
  unfolding data_left
  on_links = trace_links (cut_trace R n H.fragments)

  -- the pieces on d
  abbrev scanned : List Piece
  scanned = map (as_piece R.d F) D

  pieces_on : on_dlci R.d ps ≡ scanned
  pieces_on = calm_pieces R.d (cid_of R.links) no_counts (cut_calm R H n) ∙ ap (map (as_piece R.d F)) data_is

  framed : Framed (wires_of R.links) (partial_of R.links)
  framed = links_framed G H.sizes H.beginnings

  -- the information left is a front of what the link direction sends
  record Comes (h r : ℕ) : Type 0 where
    rest : List ℕ
    is : stream (wires_of R.links h r) (partial_of R.links h r) ≡ information_of (plain h r) D ++ rest

  comes : (h r : ℕ) → Comes h r
  comes h r = go (where_is_law R.links (plain h r) on_links)
    where
      go : Where R.links (plain h r) D → Comes h r
      go (nowhere e) = record { rest = stream (wires_of R.links h r) (partial_of R.links h r); is = rw e }
      go (at_link l t m e) =
          let eh : h ≡ l.handle = cc in
          let er : r ≡ rx_of t = cc in
          let s : stream (wires_of R.links l.handle (rx_of t)) (partial_of R.links l.handle (rx_of t)) ≡ flat (wires l t) ++ l.partial t = rw (found [] wires l t m H.handles, found [] (λ l t. l.partial t) l t m H.handles) in
          let i : information_of (link_key l t) D ++ information_of (link_key l t) (data_of (sent_in R back)) ≡ flat (wires l t) ++ l.partial t =
          sym (information_append (link_key l t) D (data_of (sent_in R back))) ∙ ap (information_of (link_key l t)) (sym data_whole) ∙ all_at m H.information t in
          record { rest = information_of (link_key l t) (data_of (sent_in R back)); is = rw (eh, er) (s ∙ sym i) }

  fed : Fed (wires_of R.links) (partial_of R.links) framed R.d F apart emptied (λ k. 0) D
  unfolding held
  fed = record { holds = λ h r. refl; rest = λ h r. (comes h r).rest; comes = λ h r. (comes h r).is }

  -- the spans are the frames left
  spans_left : spans (on_dlci R.d ps) ≡ frames_left R n
  unfolding spans frames_left
  spans_left = rw pieces_on (fed_run (wires_of R.links) (partial_of R.links) framed R.d F apart emptied (λ k. 0) D fed)

  -- a buffer holds what came of its link direction after the last closing 3C
  buffers : (h r : ℕ) → length (after scanner emptied scanned (F h r)) ≡ past_at R n h r
  buffers h r =
      let c : after (closing (wires_of R.links)) (λ k. 0) D (plain h r) ≡ length (information_of (plain h r) D) = came_after (wires_of R.links) (λ k. 0) D (plain h r) ∙ zero-add (length (information_of (plain h r) D)) in
      let g : length (information_of (plain h r) D) ≤ length (stream (wires_of R.links h r) (partial_of R.links h r)) = omega (arith, ap length (comes h r).is, length-append (information_of (plain h r) D) (comes h r).rest) in
      rw (fed_after (wires_of R.links) (partial_of R.links) framed R.d F apart emptied (λ k. 0) D fed h r, c)
      (held_past (wires_of R.links h r) (partial_of R.links h r) (framed.whole h r) (framed.begun h r) (length (information_of (plain h r) D)) g)

  -- it is not empty if its link direction ends mid-frame
  buffers_mid : (h r : ℕ) → ltb 0 (length (after scanner emptied scanned (F h r))) ≡ mid_at R n (plain h r)
  buffers_mid h r = rw (buffers h r) (past_mid 0 (length (information_of (plain h r) D)) (wires_of R.links h r))

  same_keys : (k : Key) → mid_at R n k ≡ true → mem k (nub (map data_key D)) ≡ mem k (directions R.links)
  same_keys k q =
      let lt : 0 < length (information_of k D) = split≤ (length (information_of k D)) 0 (λ z. no_way q (mid_none 0 (length (information_of k D)) (wires_of R.links (get_or k 0 0) (get_or k 1 0)) z)) (λ z. z) in
      let o : mem k (map data_key D) ≡ true = occurs k D lt in
      mem_nub k (map data_key D) ∙ o ∙ sym (within k R.links on_links o)

  unfinished_left : unfinished (on_dlci R.d ps) ≡ mid_left R n
  unfolding unfinished mid_left
  unfinished_left =
      rw (pieces_on, map_map (λ (p : Piece). p.key) (as_piece R.d F) D)
      (count_respell (λ (x : Data). F x.link x.rx) data_key (λ x y. apart x.link x.rx y.link y.rx) (λ k. ltb 0 (length (after scanner emptied scanned k))) (mid_at R n) (λ x. buffers_mid x.link x.rx) D
      ∙ count_same (mid_at R n) (once_nub (map data_key D)) (directions_once R.links H.handles) same_keys
      ∙ sym (mid_counted R n H.handles))

  -- the bytes left in buffers, added up over the link directions
  left_past : left (on_dlci R.d ps) ≡ past_left R n
  unfolding past_left
  left_past =
      rw pieces_on
      (left_over (map (stretch_at F) (directions R.links)) scanned (among_directions R.d F apart H.handles on_links)
      ∙ total_map (λ k. length (after scanner emptied scanned k)) (stretch_at F) (directions R.links)
      ∙ total_same (λ k. length (after scanner emptied scanned (stretch_at F k))) (λ k. past_at R n (get_or k 0 0) (get_or k 1 0)) (λ k. buffers (get_or k 0 0) (get_or k 1 0)) (directions R.links)
      ∙ sym (past_added R n H.handles))

  -- nothing is dropped, nothing cleared
  none_lost : dropped (on_dlci R.d ps) + cleared (on_dlci R.d ps) ≡ 0
  unfolding dropped cleared
  none_lost = rw pieces_on (fed_none (wires_of R.links) (partial_of R.links) framed R.d F apart emptied (λ k. 0) D fed)

  -- where the bytes on d went
  account_left_law : account_of (on_dlci R.d ps) ≡ account_left R n (frames_left R n)
  unfolding in_spans
  account_left_law =
      let x : dropped (on_dlci R.d ps) ≡ 0 = omega (arith, none_lost) in
      let y : cleared (on_dlci R.d ps) ≡ 0 = omega (arith, none_lost) in
      rw (x, y, left_past, spans_left)

  left_unpack : All Unpacks (frames_left R n)
  unfolding frames_left
  left_unpack = closing_unpacks (wires_of R.links) (wires_all G (λ (w : List ℕ). unpacks_of w ≡ true) G.unpacks H.sizes) (λ k. 0) D

  near : All (Near R.d) ps
  near = calm_near R.d (cid_of R.links) no_counts (cut_calm R H n)

  -- ---- the DLCI chosen, and what is listed

  good_yes : (s : Span) (ss : List Span) → frames_left R n ≡ s ∷ ss → Unpacks s → has_frame ps R.d ≡ true
  unfolding has_frame any
  good_yes s ss e u = rw (spans_left, e, u)

  good_no : frames_left R n ≡ [] → has_frame ps R.d ≡ false
  unfolding has_frame any
  good_no e = rw (spans_left, e)

  some_piece : (s : Span) (ss : List Span) → frames_left R n ≡ s ∷ ss → on_dlci R.d ps ≢ []
  unfolding spans run
  some_piece s ss e z = let q : spans (on_dlci R.d ps) ≡ s ∷ ss = spans_left ∙ e in nil≢cons (rw z at q)

-- what import gives, as it is left
unfoldable pub outcome_left : {C : Container} {S : Framing} → Judging → RecordingOf C S → ℕ → List Span → Outcome
outcome_left by R n [] = refuses 6 []
outcome_left by R n (s ∷ ss) = gives (R.d ∷ length (s ∷ ss) ∷ mid_left R n ∷ tail_left R n ∷ length (span_list (s ∷ ss)) ∷ wrong_left by R n ∷ account_values (account_left R n (s ∷ ss))) (span_list (s ∷ ss))

module _ {by : Judging} {C : Container} {S : Framing} (R : RecordingOf C S) (G : Spanning S) (H : Honest by R) (n : ℕ) where
  none_left : frames_left R n ≡ [] → given (listed (ps R G H n) (wrongs R G H n) (tail_left R n) (chosen (some (R.d / 2)) (ps R G H n))) ≡ outcome_left by R n []
  unfolding chosen given listed outcome_left
  none_left e = rw (chosen_no R.d (has_frame (ps R G H n)) (near R G H n) (good_no R G H n e))

  some_left : (s : Span) (ss : List Span) → frames_left R n ≡ s ∷ ss → Unpacks s → given (listed (ps R G H n) (wrongs R G H n) (tail_left R n) (chosen (some (R.d / 2)) (ps R G H n))) ≡ outcome_left by R n (s ∷ ss)
  unfolding chosen given listed outcome_left wrong_left
  some_left s ss e u = rw (chosen_yes R.d (has_frame (ps R G H n)) (near R G H n) (good_yes R G H n s ss e u) (some_piece R G H n s ss e), ap account_values (account_left_law R G H n), spans_left R G H n, e, unfinished_left R G H n)

  listed_left : given (listed (ps R G H n) (wrongs R G H n) (tail_left R n) (chosen (some (R.d / 2)) (ps R G H n))) ≡ outcome_left by R n (frames_left R n)
  listed_left = go (frames_left R n) refl (left_unpack R G H n)
    where
      go : (ss : List Span) → frames_left R n ≡ ss → All Unpacks ss → given (listed (ps R G H n) (wrongs R G H n) (tail_left R n) (chosen (some (R.d / 2)) (ps R G H n))) ≡ outcome_left by R n ss
      go [] e a = none_left e
      go (s ∷ ss) e (all_cons u a) = some_left s ss e u

  -- ---- the file

  pieces_of : pieces (judged_by by (pdus_in R (records_left R n))) ≡ ps R G H n
  unfolding pieces
  pieces_of = rw (in_judged by R (records_left R n))

  wrongs_of : (d : ℕ) → wrong_on d (kinds (judged_by by (pdus_in R (records_left R n)))) ≡ wrongs R G H n d
  wrongs_of d = rw (← in_judged by R (records_left R n), map_map (λ (j : Judged). j.kind) (λ (q : JudgedPdu). record { pdu = q.pdu; kind = q.kind }) (judged_in by R (records_left R n)))

  module _ (L : Lawful C) (lo : C.head ≤ n) where
    rest : List ℕ
    rest = take (n - C.head) (flat (rows R.records))

    cut_header : cut R n ≡ R.header ++ rest
    unfolding cut file rest
    cut_header = take_past n R.header (flat (rows R.records)) (omega (arith, H.header.0)) ∙ rw H.header.0

    cut_file : C.is_file (cut R n) ≡ true
    cut_file = rw cut_header (L.file_front R.header rest H.header.0 ∙ H.header.1)

    cut_link : C.link_type (cut R n) ≡ C.link_type R.header
    cut_link = rw cut_header (L.link_front R.header rest H.header.0)

    cut_size : C.size (cut R n) ≡ C.size R.header
    cut_size = rw cut_header (L.sizes_front R.header rest H.header.0)

    pub cut_packet : C.packet (cut R n) ≡ C.packet R.header
    cut_packet = rw cut_header (L.packets_front R.header rest H.header.0)

    pub cut_rows : records C (cut R n) ≡ rows (records_left R n)
    unfolding records
    cut_rows = ap (λ (s : List ℕ → ℕ). records_in s (drop C.head (cut R n))) cut_size ∙ cut_records R L n H.header.0 lo H.whole

    cut_pieces : file_pieces C by (cut R n) ≡ ps R G H n
    unfolding file_pieces packets_in pdus_in
    cut_pieces = rw (cut_packet, cut_rows) pieces_of

    cut_wrongs : (d : ℕ) → file_wrong C by (cut R n) d ≡ wrongs R G H n d
    unfolding packets_in pdus_in
    cut_wrongs d = rw (cut_packet, cut_rows) (wrongs_of d)

    pub cut_tail : tail_offset C (cut R n) ≡ tail_left R n
    unfolding tail_offset tail_left
    cut_tail = rw cut_rows

    cut_read : (o : Options) → o.judging ≡ by → o.channel ≡ some (R.d / 2) → ends_well C o.tail (cut R n) ≡ true → outcome C (cut R n) o ≡ listed (ps R G H n) (wrongs R G H n) (tail_left R n) (chosen (some (R.d / 2)) (ps R G H n))
    unfolding outcome read
    cut_read o er ec e = rw (cut_file, cut_link, H.header.2, e, er, ec, cut_pieces, cut_tail, fun_ext cut_wrongs)

    cut_length : length (cut R n) ≤ n
    unfolding cut
    cut_length = rw (length-take n (file R)) (omega arith)

    cut_small : length (cut R n) ≤ 1048576
    unfolding cut
    cut_small = rw (length-take n (file R)) (omega (arith, H.small))

    -- import of the cut gives what is left, where its tail rule lets it end
    pub cut_imported : (o : Options) → o.judging ≡ by → o.channel ≡ some (R.d / 2) → ends_well C o.tail (cut R n) ≡ true → (work : ℕ) → 8 * n ≤ work → imported C (cut R n) work o ≡ outcome_left by R n (frames_left R n)
    unfolding imported fits work_suffices
    cut_imported o er ec e work w = rw (le-leb (length (cut R n)) 1048576 cut_small, le-leb (8 * length (cut R n)) work (omega (arith, cut_length)), cut_read o er ec e) listed_left

-- ---- the claim

left_met : {C : Container} {S : Framing} (by : Judging) (R : RecordingOf C S) (n : ℕ) (ss : List Span) (out : List ℕ) → length (span_list ss) ≤ length out →
    (answer (outcome_left by R n ss) (length out) ≡ answer_left by R n ss) × (output (outcome_left by R n ss) out ≡ span_list ss ++ drop (length (span_list ss)) out)
unfolding outcome_left answer output answer_left filled span_list
left_met by R n [] out h = (refl, refl)
left_met by R n (s ∷ ss) out h = (rw le-leb, rw le-leb)

-- whatever meets import's definition meets the claim: for every container that keeps the laws, every framing of such wires, both channel rules, FCS checked or not
pub cut_claim_of : {C : Container} {S : Framing} → Lawful C → Spanning S → (lent : List ℕ) (work : ℕ) (o : Options) (out : List ℕ) (a : Answer) (out' : List ℕ) → Meets (imported C lent work o) out a out' → CutClaimOf C S lent work o out a out'
unfolding list_left ends_well
cut_claim_of {C} L G lent work o out a out' m R H n lo hi el ec et w room =
    let i : imported C lent work o ≡ outcome_left o.judging R n (frames_left R n) = rw el (cut_imported R G H n L lo o refl ec (rw et) work w) in
    let k = left_met o.judging R n (frames_left R n) out room in
    record { answers = m.answers ∙ rw i k.0; writes = m.writes ∙ rw i k.1 }

-- of packed frames
pub cut_claim : {C : Container} → Lawful C → (lent : List ℕ) (work : ℕ) (o : Options) (out : List ℕ) (a : Answer) (out' : List ℕ) → Meets (imported C lent work o) out a out' → CutClaim C lent work o out a out'
cut_claim L = cut_claim_of L packed_spans
