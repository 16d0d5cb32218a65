-- Judged lists with marks: in two parts, and without the marks or the verdicts. Nothing here knows what is judged by.
use Prim.Native.Nat.{ℕ, zero, suc, ◌≤◌}
use mathlib.Core.Path.{◌≡◌, refl, sym, ap, ◌∙◌}
use mathlib.Core.Bool.{true}
use mathlib.Core.List.{List, [], ◌∷◌, ◌++◌, map, append_assoc, append-nil}
use native.Mathlib.Omega.{arith}
use lib.ListN.{length, drop, length-append}
use Rattle.laws.proofs.Choice.{split_b}
use Rattle.laws.specs.Lists.{All, all_nil}
use Rattle.laws.specs.Keyed.{run, after}
use Rattle.container.specs.Container.{Container}
use Rattle.l2cap.specs.Pdus.{Pdu}
use Rattle.rfcomm.specs.Pieces.{Judging, Judged, judged_from, judged_by}
use Rattle.cut.specs.Recording.{Record, RecordingOf, Framing}
use Rattle.cut.specs.Left.{Sent, sent_in}
use Rattle.cut.specs.Honest.{pdus_in, MarkedPdu, pdus_of, marking, nothing_open, marked_pdus, JudgedPdu, with_marks, judged_in, is_data_of, to_data, after_data}
use Rattle.cut.proofs.TwoParts.{Front, all_drop}
use Rattle.cut.proofs.DataPdus.{pdus_in_law, marked_append}

-- without the marks, and without the verdicts
abbrev pub judged_of : List JudgedPdu → List Judged
judged_of js = map (λ j. record { pdu = j.pdu; kind = j.kind }) js

abbrev pub marked_of : List JudgedPdu → List MarkedPdu
marked_of js = map (λ j. record { pdu = j.pdu; mark = j.mark }) js

module _ (by : Judging) (all : List Pdu) where
  -- PDUs with their marks, judged after those before
  abbrev pub judged_at : List Pdu → List MarkedPdu → List JudgedPdu
  judged_at before qs = with_marks (judged_from by all before (pdus_of qs)) qs

  pub at_judged : (before : List Pdu) (qs : List MarkedPdu) → judged_of (judged_at before qs) ≡ judged_from by all before (pdus_of qs)
  unfolding with_marks judged_from
  at_judged before [] = refl
  at_judged before (q ∷ qs) = rw (at_judged (before ++ (q.pdu ∷ [])) qs)

  pub at_marked : (before : List Pdu) (qs : List MarkedPdu) → marked_of (judged_at before qs) ≡ qs
  unfolding with_marks judged_from
  at_marked before [] = refl
  at_marked before (q ∷ qs) = rw (at_marked (before ++ (q.pdu ∷ [])) qs)

  -- after some of them come those after them
  pub at_drop : (before : List Pdu) (xs ys : List MarkedPdu) → drop (length xs) (judged_at before (xs ++ ys)) ≡ judged_at (before ++ pdus_of xs) ys
  unfolding with_marks judged_from
  at_drop before [] ys = rw (append-nil before)
  at_drop before (q ∷ xs) ys = at_drop (before ++ (q.pdu ∷ [])) xs ys ∙ rw (append_assoc before (q.pdu ∷ []) (pdus_of xs))

module _ (by : Judging) {C : Container} {S : Framing} (R : RecordingOf C S) (rs : List Record) where
  pub in_at : judged_in by R rs ≡ judged_at by (pdus_in R rs) [] (marked_pdus (sent_in R rs))
  unfolding judged_in judged_by
  in_at = ap (λ (l : List Pdu). with_marks (judged_from by (pdus_in R rs) [] l) (marked_pdus (sent_in R rs))) (pdus_in_law R rs)

  pub in_judged : judged_of (judged_in by R rs) ≡ judged_by by (pdus_in R rs)
  unfolding judged_by
  in_judged = rw in_at (at_judged by (pdus_in R rs) [] (marked_pdus (sent_in R rs))) ∙ ap (λ (l : List Pdu). judged_from by (pdus_in R rs) [] l) (sym (pdus_in_law R rs))

  pub in_marked : marked_of (judged_in by R rs) ≡ marked_pdus (sent_in R rs)
  in_marked = rw in_at (at_marked by (pdus_in R rs) [] (marked_pdus (sent_in R rs)))

-- ---- after a handle's first data fragment

drop_more : {A : Type 0} {P : A → Type 0} (k m : ℕ) (l : List A) → k ≤ m → All P (drop k l) → All P (drop m l)
drop_more zero m l h w = all_drop m w
drop_more (suc k) zero l h w = absurd (omega arith)
drop_more (suc k) (suc m) [] h w = all_nil
drop_more (suc k) (suc m) (x ∷ l) h w = drop_more k m l (omega arith) w

-- any data fragment of the handle comes with the first or later
to_front : (h : ℕ) (a : List Sent) (x : Sent) (b : List Sent) → is_data_of h x.packet x.mark ≡ true → Front (to_data h (a ++ x ∷ b)) (a ++ (x ∷ []))
unfolding to_data
to_front h [] x b d = rw d (record { back = []; whole = refl })
to_front h (y ∷ a) x b d =
    split_b (is_data_of h y.packet y.mark)
    (λ e. rw e (record { back = a ++ (x ∷ []); whole = refl }))
    (λ e. let f : Front (to_data h (a ++ x ∷ b)) (a ++ (x ∷ [])) = to_front h a x b d in rw e (record { back = f.back; whole = ap (λ (l : List Sent). y ∷ l) f.whole }))

-- what holds of the PDUs after a handle's first data fragment holds of those after any
pub later : {P : JudgedPdu → Type 0} (by : Judging) {C : Container} {S : Framing} (R : RecordingOf C S) (rs : List Record) (h : ℕ) (a : List Sent) (x : Sent) (b : List Sent) →
    sent_in R rs ≡ a ++ x ∷ b → is_data_of h x.packet x.mark ≡ true → All P (after_data by R rs h) →
    All P (judged_at by (pdus_in R rs) (pdus_of (marked_pdus (a ++ (x ∷ [])))) (run marking (after marking nothing_open (a ++ (x ∷ []))) b))
unfolding after_data
later {P} by R rs h a x b e d w =
    let u : List Sent = to_data h (sent_in R rs) in
    let v : List Sent = a ++ (x ∷ []) in
    let f : Front u v = rw e (to_front h a x b d) in
    let le : length (marked_pdus u) ≤ length (marked_pdus v) =
    omega (arith, ap (λ (l : List Sent). length (marked_pdus l)) f.whole, ap length (marked_append u f.back), length-append (marked_pdus u) (run marking (after marking nothing_open u) f.back)) in
    let s : marked_pdus (sent_in R rs) ≡ marked_pdus v ++ run marking (after marking nothing_open v) b = ap marked_pdus (e ∙ sym (append_assoc a (x ∷ []) b)) ∙ marked_append v b in
    let z : drop (length (marked_pdus v)) (judged_in by R rs) ≡ judged_at by (pdus_in R rs) (pdus_of (marked_pdus v)) (run marking (after marking nothing_open v) b) =
    ap (drop (length (marked_pdus v))) (in_at by R rs ∙ ap (judged_at by (pdus_in R rs) []) s) ∙ at_drop by (pdus_in R rs) [] (marked_pdus v) (run marking (after marking nothing_open v) b) in
    rw z at (drop_more (length (marked_pdus u)) (length (marked_pdus v)) (judged_in by R rs) le w)
