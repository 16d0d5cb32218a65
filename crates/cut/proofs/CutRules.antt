-- The rules of an honest recording give those at the judged PDUs of each cut, whatever it is judged by.
use Prim.Native.Nat.{ℕ, ◌+◌, ◌≤◌}
use mathlib.Core.Path.{◌≡◌, refl, sym, ap, ◌∙◌}
use mathlib.Core.Bool.{Bool, true, false}
use mathlib.Core.List.{List, [], ◌∷◌, ◌++◌, map, append_assoc, append-nil}
use mathlib.Core.Option.{Option, none, some}
use native.Mathlib.Omega.{arith}
use lib.ListN.{length}
use lib.Dec.{ltb}
use borrow.Author.Tests.{eq-eqb}
use Rattle.laws.proofs.Choice.{split_b}
use Rattle.laws.specs.Lists.{All, all_cons}
use Rattle.laws.specs.Keys.{Key}
use Rattle.laws.specs.Keyed.{put, step, run, after}
use Rattle.laws.proofs.Keyed.{after_append}
use Rattle.container.specs.Container.{Container}
use Rattle.container.specs.Packets.{Packet}
use Rattle.l2cap.specs.Pdus.{Pdu, joined, still_open, pdu_of, completed, packet_key}
use Rattle.uih.specs.Frames.{is_sabm, is_uih, info_length, info_start, control, is_right, frame_of}
use Rattle.rfcomm.specs.Pieces.{carries, frame_kind, Judging, kind_by, judged_from}
use Rattle.cut.specs.Recording.{LinkOf, free, part, last, RecordingOf, Framing}
use Rattle.cut.specs.Left.{records_left, Sent, sent_in, of_handle}
use Rattle.cut.specs.Honest.{pdus_in, MarkedPdu, pdus_of, marking, nothing_open, marked_pdus, JudgedPdu, with_marks, judged_in, is_data_of, adds, carries_on, DataPdu, Fragments, stop, other, more, end, Honest}
use Rattle.cut.proofs.TwoParts.{Front, all_at, all_rest}
use Rattle.cut.proofs.CutRecords.{records_front}
use Rattle.cut.proofs.LinkWires.{found}
use Rattle.cut.proofs.DataPdus.{marked_front, marked_append, pdus_more, cut_trace, Under, under_none, under_put, under_free, joins_open, whole_complete}
use Rattle.cut.proofs.JudgedLists.{judged_at, in_at, later}
use Rattle.cut.proofs.CutPieces.{Calm, calm, calm_data, calm_other}
use Rattle.cut.proofs.Verdicts.{asks_not, honest_tries}

abbrev pub cid_of : {S : Framing} → List (LinkOf S) → ℕ → ℕ → ℕ
cid_of ls h r = of_handle 0 (λ l t. l.cid t) ls h r

cid_at : {S : Framing} (ls : List (LinkOf S)) {h r h' r' : ℕ} → h ≡ h' → r ≡ r' → cid_of ls h r ≡ cid_of ls h' r'
cid_at ls p q = rw (p, q)

is_data : (p : Packet) (i : List ℕ) → is_data_of p.link p (last i) ≡ true
unfolding is_data_of
is_data p i = eq-eqb p.link p.link refl

-- a frame with a right FCS is the same, checked or not
pub checked_right : (fcs : Bool) (b : List ℕ) → (fcs ≡ true → is_right b ≡ true) → frame_kind fcs (frame_of b) ≡ frame_kind false (frame_of b)
unfolding frame_of frame_kind
checked_right false b r = refl
checked_right true b r =
    rw (r refl)
    (split_b (ltb 1 (length b)) (λ e. rw e (split_b (is_sabm (control b)) (λ e. rw e) (λ e. rw e (split_b (is_uih (control b)) (λ e. rw e (split_b (ltb (info_start b + info_length b) (length b)) (λ e. rw e) (λ e. rw e))) (λ e. rw e))))) (λ e. rw e))

module _ {by : Judging} {C : Container} {S : Framing} (R : RecordingOf C S) (H : Honest by R) (n : ℕ) where
  abbrev all : List Pdu
  all = pdus_in R (records_left R n)

  abbrev xs : List Sent
  xs = sent_in R (records_left R n)

  abbrev J : List Pdu → List MarkedPdu → List JudgedPdu
  J before qs = judged_at by all before qs

  abbrev Quiet : List JudgedPdu → Type 0
  Quiet js = Calm R.d (cid_of R.links) js

  data_kind : (a : List MarkedPdu) (p : Pdu) (i : List ℕ) (b : List MarkedPdu) → marked_pdus xs ≡ a ++ record { pdu = p; mark = last i } ∷ b → DataPdu R p i → kind_by by (pdus_of a ++ (p ∷ [])) all p ≡ carries R.d i
  unfolding kind_by
  data_kind a p i b e o =
      let c : 0x40 ≤ p.cid = rw o.channel (all_at o.listed H.dynamic o.direction) in
      let f : Front (marked_pdus xs) (marked_pdus (sent_in R R.records)) = marked_front R (records_front R n) in
      let r : by.fcs ≡ true → is_right p.payload ≡ true = λ y. H.checks y a p i (b ++ f.back) (f.whole ∙ rw e (append_assoc a (record { pdu = p; mark = last i } ∷ b) f.back)) in
      rw (asks_not p (λ (q : p.cid ≡ 1). omega arith), honest_tries by R H n a p i b e o, checked_right by.fcs p.payload r, o.uih)

  data_cid : (p : Pdu) (i : List ℕ) (o : DataPdu R p i) → p.cid ≡ cid_of R.links p.link p.rx
  data_cid p i o = o.channel ∙ sym (found 0 (λ l t. l.cid t) o.link o.direction o.listed H.handles) ∙ cid_at R.links (sym o.handle) (sym o.way)

  -- ---- along the trace of a cut

  abbrev Alone : JudgedPdu → Type 0
  Alone q = q.mark ≡ free → carries_on R.d q.kind ≡ false

  frees : (before ps : List Pdu) (qs : List MarkedPdu) → All Alone (J before (map (λ p. record { pdu = p; mark = free }) ps ++ qs)) → (All Alone (J (before ++ ps) qs) → Quiet (J (before ++ ps) qs)) → Quiet (J before (map (λ p. record { pdu = p; mark = free }) ps ++ qs))
  unfolding with_marks judged_from
  frees before [] qs a f = (rw (append-nil before) at f) a
  frees before (p ∷ ps) qs (all_cons o a) f = calm_other (o refl) (frees (before ++ (p ∷ [])) ps qs a (rw (← append_assoc before (p ∷ []) ps) at f))

  after_one : (a : List Sent) (m : Key → Option (List ℕ)) (x : Sent) → after marking nothing_open a ≡ m → after marking nothing_open (a ++ (x ∷ [])) ≡ step marking m x
  unfolding after
  after_one a m x e = rw (after_append marking nothing_open a (x ∷ []), e)

  more_pdus : (a : List Sent) (m : Key → Option (List ℕ)) (x : Sent) (before : List Pdu) → after marking nothing_open a ≡ m → pdus_of (marked_pdus a) ≡ before →
      pdus_of (marked_pdus (a ++ (x ∷ []))) ≡ before ++ completed (joined (m (packet_key x.packet)) x.packet) x.packet
  more_pdus a m x before e z = pdus_more a x ∙ rw (e, z)

  along :
      (a : List Sent) (m : Key → Option (List ℕ)) (before : List Pdu) → after marking nothing_open a ≡ m → pdus_of (marked_pdus a) ≡ before →
      {σ : Key → Option (List ℕ)} {b : List Sent} → xs ≡ a ++ b → ((k : Key) → Under (m k) (σ k)) → Fragments R σ b →
      All Alone (J before (run marking m b)) → Quiet (J before (run marking m b))
  unfolding run completed still_open pdu_of with_marks judged_from
  along a m before me be q u stop fr = calm
  along a m before me be {σ} q u (other {p = p} {xs = b} e t) fr =
      let x : Sent = record { packet = p; mark = free } in
      let ps : List Pdu = completed (joined (m (packet_key p)) p) p in
      frees before ps (run marking (step marking m x) b) fr
      (λ fr'. along (a ++ (x ∷ [])) (step marking m x) (before ++ ps) (after_one a m x me) (more_pdus a m x before me be) (rw append_assoc q) (under_free m σ (packet_key p) (still_open (joined (m (packet_key p)) p)) u e) t fr')
  along a m before me be {σ} q u (more {p = p} {xs = b} {b = c} g i t) fr =
      let x : Sent = record { packet = p; mark = part } in
      let j : joined (m (packet_key p)) p ≡ some c = joins_open (m (packet_key p)) (σ (packet_key p)) (u (packet_key p)) g in
      let be' : pdus_of (marked_pdus (a ++ (x ∷ []))) ≡ before = more_pdus a m x before me be ∙ rw (j, i) (append-nil before) in
      rw (j, i) (along (a ++ (x ∷ [])) (put m (packet_key p) (some c)) before (after_one a m x me ∙ rw (j, i)) be' (rw append_assoc q) (under_put m σ (packet_key p) (some c) u) t (rw (j, i) at fr))
  along a m before me be {σ} q u (end {p = p} {xs = b} {b = c} {i = i} g w o t) fr =
      let x : Sent = record { packet = p; mark = last i } in
      let j : joined (m (packet_key p)) p ≡ some c = joins_open (m (packet_key p)) (σ (packet_key p)) (u (packet_key p)) g in
      let wc = whole_complete c w in
      let m' : Key → Option (List ℕ) = put m (packet_key p) none in
      let me' : after marking nothing_open (a ++ (x ∷ [])) ≡ m' = after_one a m x me ∙ rw (j, wc) in
      let be' : pdus_of (marked_pdus (a ++ (x ∷ []))) ≡ before ++ (pdu_of c p ∷ []) = more_pdus a m x before me be ∙ rw (j, wc) in
      let s : All (λ (r : JudgedPdu). r.pdu.link ≡ p.link → adds R.d r.kind ≡ false) (J (before ++ (pdu_of c p ∷ [])) (run marking m' b)) =
      rw (me', be') at (later by R (records_left R n) p.link a x b q (is_data p i) (H.settled n p.link)) in
      let here : marked_pdus xs ≡ marked_pdus a ++ record { pdu = pdu_of c p; mark = last i } ∷ run marking m' b = ap marked_pdus q ∙ marked_append a (x ∷ b) ∙ rw (me, j, wc) in
      let k : kind_by by (before ++ (pdu_of c p ∷ [])) all (pdu_of c p) ≡ carries R.d i = rw be at (data_kind (marked_pdus a) (pdu_of c p) i (run marking m' b) here o) in
      rw (j, wc) (calm_data {p = pdu_of c p} {i = i} {js = J (before ++ (pdu_of c p ∷ [])) (run marking m' b)} k (data_cid (pdu_of c p) i o) s
      (along (a ++ (x ∷ [])) m' (before ++ (pdu_of c p ∷ [])) me' be' (rw append_assoc q) (under_put m σ (packet_key p) none u) t (all_rest (rw (j, wc) at fr))))

  pub cut_calm : Calm R.d (cid_of R.links) (judged_in by R (records_left R n))
  unfolding marked_pdus after run
  cut_calm = rw (in_at by R (records_left R n)) (along [] nothing_open [] refl refl refl under_none (cut_trace R n H.fragments) (rw (in_at by R (records_left R n)) at (H.alone n)))
