-- By Bluetooth Core's rule no cut need be looked at: the rules on tried PDUs hold at every cut if they hold of each PDU judged when it is complete.
use Prim.Native.Nat.{ℕ}
use mathlib.Core.Path.{◌≡◌, refl, sym, ap, ◌∙◌}
use mathlib.Core.Bool.{Bool, true, false, not, ◌&&◌}
use mathlib.Core.List.{List, [], ◌∷◌, ◌++◌, append_assoc, append-nil}
use lib.ListN.{length, drop}
use lib.Dec.{leb}
use Rattle.laws.proofs.Choice.{split_b, no_way}
use Rattle.laws.specs.Lists.{All, all_nil, all_cons}
use Rattle.laws.specs.Keyed.{run, after}
use Rattle.container.specs.Container.{Container}
use Rattle.l2cap.specs.Pdus.{Pdu}
use Rattle.channels.specs.Signals.{signals}
use Rattle.channels.specs.Channels.{any, named, channel_of, asks_session}
use Rattle.channels.specs.Core.{holds}
use Rattle.channels.specs.Tried.{core, tried_by}
use Rattle.rfcomm.specs.Pieces.{Kind, passed, Judging, kind_by, judged_from}
use Rattle.cut.specs.Recording.{Framing, Mark, free, RecordingOf}
use Rattle.cut.specs.Left.{records_left, Sent, sent_in}
use Rattle.cut.specs.Honest.{pdus_in, MarkedPdu, pdus_of, marking, nothing_open, marked_pdus, JudgedPdu, with_marks, judged_in, is_data_of, to_data, after_data, adds, carries_on}
use Rattle.cut.proofs.TwoParts.{Front, map_append}
use Rattle.cut.proofs.CutRecords.{records_front}
use Rattle.cut.proofs.DataPdus.{sent_append, pdus_in_law, marked_append}
use Rattle.cut.proofs.JudgedLists.{judged_at, at_drop, in_at}
use Rattle.cut.proofs.Verdicts.{named_front}

-- by Bluetooth Core's rule, with FCS checked or not
abbrev by_core : Bool → Judging
by_core fcs = record { rule = core; fcs = fcs }

-- each PDU judged when it is complete, after those before
unfoldable pub now_from : Bool → List Pdu → List MarkedPdu → List JudgedPdu
now_from fcs ps [] = []
now_from fcs ps (q ∷ qs) = record { pdu = q.pdu; kind = kind_by (by_core fcs) (ps ++ (q.pdu ∷ [])) (ps ++ (q.pdu ∷ [])) q.pdu; mark = q.mark } ∷ now_from fcs (ps ++ (q.pdu ∷ [])) qs

-- all PDUs of the file
unfoldable pub judged_now : Bool → {C : Container} {S : Framing} → RecordingOf C S → List JudgedPdu
judged_now fcs R = now_from fcs [] (marked_pdus (sent_in R R.records))

-- ---- what is tried in a cut is tried when it is complete

tried_now : (up_to rest : List Pdu) (p : Pdu) → tried_by core up_to (up_to ++ rest) p ≡ true → tried_by core up_to up_to p ≡ true
unfolding tried_by
tried_now up_to rest p t =
    split_b (holds up_to (channel_of p))
    (λ e. rw e)
    (λ e.
    let h : leb 0x40 p.cid && not (named (signals (up_to ++ rest)) (channel_of p)) ≡ true = rw e at t in
    let f : Front up_to (up_to ++ rest) = record { back = rest; whole = refl } in
    split_b (leb 0x40 p.cid)
    (λ c. split_b (named (signals (up_to ++ rest)) (channel_of p)) (λ d. no_way (rw (c, d) at h) refl) (λ d. rw (e, c, named_front (channel_of p) f d)))
    (λ c. no_way (rw c at h) refl))

module _ (fcs : Bool) (f : Kind → Bool) (fp : f passed ≡ false) where
  kind_now : (up_to rest : List Pdu) (p : Pdu) → f (kind_by (by_core fcs) up_to up_to p) ≡ false → f (kind_by (by_core fcs) up_to (up_to ++ rest) p) ≡ false
  unfolding kind_by
  kind_now up_to rest p h =
      split_b (asks_session p)
      (λ a. rw a (rw a at h))
      (λ a. split_b (tried_by core up_to (up_to ++ rest) p)
      (λ t. rw (a, t) (rw (a, tried_now up_to rest p t) at h))
      (λ t. rw (a, t) fp))

  module _ (C : Pdu → Mark → Type 0) where
    abbrev Rule : JudgedPdu → Type 0
    Rule q = C q.pdu q.mark → f q.kind ≡ false

    all_now : (all ps : List Pdu) (qs : List MarkedPdu) → all ≡ ps ++ pdus_of qs → All Rule (now_from fcs ps qs) → All Rule (judged_at (by_core fcs) all ps qs)
    unfolding now_from with_marks judged_from
    all_now all ps [] e w = all_nil
    all_now all ps (q ∷ qs) e (all_cons h w) =
        let e' : all ≡ (ps ++ (q.pdu ∷ [])) ++ pdus_of qs = e ∙ sym (append_assoc ps (q.pdu ∷ []) (pdus_of qs)) in
        let k : C q.pdu q.mark → f (kind_by (by_core fcs) (ps ++ (q.pdu ∷ [])) all q.pdu) ≡ false = λ c. rw e' (kind_now (ps ++ (q.pdu ∷ [])) (pdus_of qs) q.pdu (h c)) in
        all_cons k (all_now all (ps ++ (q.pdu ∷ [])) qs e' w)

-- ---- lists in two parts

now_drop : (fcs : Bool) (ps : List Pdu) (xs ys : List MarkedPdu) → drop (length xs) (now_from fcs ps (xs ++ ys)) ≡ now_from fcs (ps ++ pdus_of xs) ys
unfolding now_from
now_drop fcs ps [] ys = rw (append-nil ps)
now_drop fcs ps (q ∷ xs) ys = now_drop fcs (ps ++ (q.pdu ∷ [])) xs ys ∙ rw (append_assoc ps (q.pdu ∷ []) (pdus_of xs))

now_front : {P : JudgedPdu → Type 0} (fcs : Bool) (ps : List Pdu) (xs ys : List MarkedPdu) → All P (now_from fcs ps (xs ++ ys)) → All P (now_from fcs ps xs)
unfolding now_from
now_front fcs ps [] ys w = all_nil
now_front fcs ps (q ∷ xs) ys (all_cons h w) = all_cons h (now_front fcs (ps ++ (q.pdu ∷ [])) xs ys w)

to_part : (h : ℕ) (xs : List Sent) → Front (to_data h xs) xs
unfolding to_data
to_part h [] = record { back = []; whole = refl }
to_part h (x ∷ xs) =
    split_b (is_data_of h x.packet x.mark)
    (λ e. rw e (record { back = xs; whole = refl }))
    (λ e. let f : Front (to_data h xs) xs = to_part h xs in rw e (record { back = f.back; whole = ap (λ (l : List Sent). x ∷ l) f.whole }))

abbrev has_data : ℕ → List Sent → Bool
has_data h xs = any (λ x. is_data_of h x.packet x.mark) xs

to_yes : (h : ℕ) (xs ys : List Sent) → has_data h xs ≡ true → to_data h (xs ++ ys) ≡ to_data h xs
unfolding to_data any
to_yes h [] ys e = no_way e refl
to_yes h (x ∷ xs) ys e = split_b (is_data_of h x.packet x.mark) (λ d. rw d) (λ d. rw (d, to_yes h xs ys (rw d at e)))

to_no : (h : ℕ) (xs : List Sent) → has_data h xs ≡ false → to_data h xs ≡ xs
unfolding to_data any
to_no h [] e = refl
to_no h (x ∷ xs) e = split_b (is_data_of h x.packet x.mark) (λ d. no_way refl (rw d at e)) (λ d. rw (d, to_no h xs (rw d at e)))

-- ---- the rules

adds_passed : (d : ℕ) → adds d passed ≡ false
unfolding adds
adds_passed d = refl

carries_passed : (d : ℕ) → carries_on d passed ≡ false
unfolding carries_on
carries_passed d = refl

module _ (fcs : Bool) {C : Container} {S : Framing} (R : RecordingOf C S) (n : ℕ) where
  abbrev A : List Sent
  A = sent_in R (records_left R n)

  abbrev B : List Sent
  B = sent_in R (records_front R n).back

  sent_whole : sent_in R R.records ≡ A ++ B
  sent_whole = ap (sent_in R) (records_front R n).whole ∙ sent_append (C.packet R.header) (records_left R n) (records_front R n).back

  marked_whole : marked_pdus (sent_in R R.records) ≡ marked_pdus A ++ run marking (after marking nothing_open A) B
  marked_whole = ap marked_pdus sent_whole ∙ marked_append A B

  pub alone_closed : All (λ (q : JudgedPdu). q.mark ≡ free → carries_on R.d q.kind ≡ false) (judged_now fcs R) → All (λ (q : JudgedPdu). q.mark ≡ free → carries_on R.d q.kind ≡ false) (judged_in (by_core fcs) R (records_left R n))
  unfolding judged_now
  alone_closed w =
      rw (in_at (by_core fcs) R (records_left R n))
      (all_now fcs (carries_on R.d) (carries_passed R.d) (λ p m. m ≡ free) (pdus_in R (records_left R n)) [] (marked_pdus A) (pdus_in_law R (records_left R n))
      (now_front fcs [] (marked_pdus A) (run marking (after marking nothing_open A) B) (rw marked_whole at w)))

  abbrev Settled : ℕ → JudgedPdu → Type 0
  Settled h q = q.pdu.link ≡ h → adds R.d q.kind ≡ false

  -- before the handle's first data fragment nothing comes after it
  settled_none : (h : ℕ) → has_data h A ≡ false → All (Settled h) (after_data (by_core fcs) R (records_left R n) h)
  unfolding after_data with_marks judged_from
  settled_none h y =
      let Q : List MarkedPdu = marked_pdus A in
      let z : drop (length Q) (judged_in (by_core fcs) R (records_left R n)) ≡ [] =
      ap (drop (length Q)) (in_at (by_core fcs) R (records_left R n) ∙ ap (judged_at (by_core fcs) (pdus_in R (records_left R n)) []) (sym (append-nil Q))) ∙ at_drop (by_core fcs) (pdus_in R (records_left R n)) [] Q [] in
      rw (to_no h A y, z) all_nil

  settled_some : (h : ℕ) → has_data h A ≡ true → All (Settled h) (drop (length (marked_pdus (to_data h (sent_in R R.records)))) (judged_now fcs R)) → All (Settled h) (after_data (by_core fcs) R (records_left R n) h)
  unfolding judged_now after_data
  settled_some h y w =
      let f : Front (to_data h A) A = to_part h A in
      let U : List MarkedPdu = marked_pdus (to_data h A) in
      let X : List MarkedPdu = run marking (after marking nothing_open (to_data h A)) f.back in
      let W : List MarkedPdu = run marking (after marking nothing_open A) B in
      let s : marked_pdus A ≡ U ++ X = ap marked_pdus f.whole ∙ marked_append (to_data h A) f.back in
      let g : drop (length U) (judged_in (by_core fcs) R (records_left R n)) ≡ judged_at (by_core fcs) (pdus_in R (records_left R n)) (pdus_of U) X =
      ap (drop (length U)) (in_at (by_core fcs) R (records_left R n) ∙ ap (judged_at (by_core fcs) (pdus_in R (records_left R n)) []) s) ∙ at_drop (by_core fcs) (pdus_in R (records_left R n)) [] U X in
      let a : pdus_in R (records_left R n) ≡ pdus_of U ++ pdus_of X = pdus_in_law R (records_left R n) ∙ ap pdus_of s ∙ map_append (λ q. q.pdu) U X in
      let k : length (marked_pdus (to_data h (sent_in R R.records))) ≡ length U = ap (λ (l : List Sent). length (marked_pdus l)) (ap (to_data h) sent_whole ∙ to_yes h A B y) in
      let t : marked_pdus (sent_in R R.records) ≡ U ++ (X ++ W) = marked_whole ∙ ap (λ (l : List MarkedPdu). l ++ W) s ∙ append_assoc U X W in
      let e : drop (length (marked_pdus (to_data h (sent_in R R.records)))) (now_from fcs [] (marked_pdus (sent_in R R.records))) ≡ now_from fcs (pdus_of U) (X ++ W) =
      ap (λ (m : ℕ). drop m (now_from fcs [] (marked_pdus (sent_in R R.records)))) k ∙ ap (λ (l : List MarkedPdu). drop (length U) (now_from fcs [] l)) t ∙ now_drop fcs [] U (X ++ W) in
      let z : All (Settled h) (now_from fcs (pdus_of U) (X ++ W)) = rw e at w in
      rw g (all_now fcs (adds R.d) (adds_passed R.d) (λ p m. p.link ≡ h) (pdus_in R (records_left R n)) (pdus_of U) X a (now_front fcs (pdus_of U) X W z))

  pub settled_closed : (h : ℕ) → All (Settled h) (drop (length (marked_pdus (to_data h (sent_in R R.records)))) (judged_now fcs R)) → All (Settled h) (after_data (by_core fcs) R (records_left R n) h)
  settled_closed h w = split_b (has_data h A) (λ y. settled_some h y w) (λ y. settled_none h y)
