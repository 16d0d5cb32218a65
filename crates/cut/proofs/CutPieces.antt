-- Under the rules at the PDUs of one cut, the pieces on d are the data PDUs' information, one stretch for each link direction; and d is the DLCI chosen.
use Prim.Native.Nat.{ℕ, zero, suc, ◌/◌}
use mathlib.Core.Path.{◌≡◌, refl, sym, ap, ◌∙◌}
use mathlib.Core.Logic.{◌≢◌}
use mathlib.Core.Bool.{Bool, true, false, ◌&&◌, ◌||◌}
use mathlib.Core.List.{List, [], ◌∷◌, ◌++◌, map}
use mathlib.Core.Option.{none, some}
use lib.Dec.{eqb}
use borrow.Author.Tests.{eq-eqb, ne_eqb, eqb-false}
use Rattle.laws.proofs.Choice.{split_b, no_way, split≡}
use Rattle.laws.specs.Lists.{All, all_nil, all_cons}
use Rattle.laws.specs.Keys.{Key}
use Rattle.laws.proofs.Keys.{split_k, eq_eq_k, ne_eq_k}
use Rattle.laws.specs.Keyed.{step, run, after}
use Rattle.mdr.proofs.Escaping.{all_append}
use Rattle.l2cap.specs.Pdus.{Pdu}
use Rattle.rfcomm.specs.Pieces.{Kind, asks, opens, carries, wrong, passed, Judged, Counts, counted, Piece, piece_of, brought, counting}
use Rattle.spans.specs.Spans.{on_dlci}
use Rattle.outcome.specs.Import.{on_channel, first}
use Rattle.cut.specs.Recording.{free, last}
use Rattle.cut.specs.Honest.{JudgedPdu, adds, carries_on}
use Rattle.cut.proofs.Interleaving.{plain, as_piece, Apart}
use Rattle.cut.proofs.DataPdus.{data_in}
use Rattle.cut.proofs.JudgedLists.{judged_of, marked_of}

-- the rules at the judged PDUs of one cut
pub data Calm (d : ℕ) (cid : ℕ → ℕ → ℕ) : List JudgedPdu → Type 0 where
  calm : Calm d cid []
  -- a data PDU, after which nothing adds to the sessions of its handle or the links on d
  calm_data :
      {p : Pdu} {k : Kind} {i : List ℕ} {js : List JudgedPdu} → k ≡ carries d i → p.cid ≡ cid p.link p.rx →
      All (λ (j : JudgedPdu). j.pdu.link ≡ p.link → adds d j.kind ≡ false) js → Calm d cid js → Calm d cid (record { pdu = p; kind = k; mark = last i } ∷ js)
  calm_other : {p : Pdu} {k : Kind} {js : List JudgedPdu} → carries_on d k ≡ false → Calm d cid js → Calm d cid (record { pdu = p; kind = k; mark = free } ∷ js)

-- ---- counts that stay

record Same (d : ℕ) (c c' : Counts) : Type 0 where
  session : c.sessions ≡ c'.sessions
  link : c.links d ≡ c'.links d

same : {d : ℕ} {c : Counts} → Same d c c
same = record { session = refl; link = refl }

then : {d : ℕ} {a b c : Counts} → Same d a b → Same d b c → Same d a c
then p q = record { session = p.session ∙ q.session; link = p.link ∙ q.link }

or_false : (a b : Bool) → a || b ≡ false → b ≡ false
or_false true b e = no_way refl e
or_false false b e = e

stays : (d : ℕ) (c : Counts) (k : Kind) → adds d k ≡ false → Same d (counted c k) c
unfolding counted adds
stays d c asks h = no_way refl h
stays d c (opens zero) h = no_way refl h
stays d c (opens (suc e)) h =
    let n : suc e ≢ d = eqb-false (suc e) d (or_false (eqb (suc e) 0) (eqb (suc e) d) h) in
    record { session = refl; link = rw (ne_eqb d (suc e) (λ q. n (sym q))) }
stays d c (carries e i) h = same
stays d c (wrong e) h = same
stays d c passed h = same

carries_none : (d e : ℕ) (i : List ℕ) → adds d (carries e i) ≡ false
unfolding adds
carries_none d e i = refl

-- ---- the pieces of DLCI d

dlci_append : (d : ℕ) (xs ys : List Piece) → on_dlci d (xs ++ ys) ≡ on_dlci d xs ++ on_dlci d ys
unfolding on_dlci
dlci_append d [] ys = refl
dlci_append d (p ∷ xs) ys = split_b (eqb p.dlci d) (λ e. rw (e, dlci_append d xs ys)) (λ e. rw (e, dlci_append d xs ys))

other_piece : (d : ℕ) (c : Counts) (p : Pdu) (k : Kind) → carries_on d k ≡ false → on_dlci d (brought c p k) ≡ []
unfolding on_dlci brought carries_on piece_of
other_piece d c p asks h = refl
other_piece d c p (opens e) h = refl
other_piece d c p (carries e i) h = rw (ne_eqb e d (λ q. eqb-false (e / 2) (d / 2) h (ap (λ (n : ℕ). n / 2) q)))
other_piece d c p (wrong e) h = refl
other_piece d c p passed h = refl

-- the stretch of a link direction, by the counts of its handle
abbrev pub stretch : (ℕ → ℕ → ℕ) → ℕ → (Key → Counts) → ℕ → ℕ → Key
stretch cid d c h r = h ∷ cid h r ∷ (c (h ∷ [])).sessions ∷ (c (h ∷ [])).links d ∷ r ∷ []

pub stretch_apart : (cid : ℕ → ℕ → ℕ) (d : ℕ) (c : Key → Counts) → Apart (stretch cid d c)
stretch_apart cid d c h r h' r' =
    split_k (plain h r) (plain h' r')
    (λ e. let eh : h ≡ h' = cc in let er : r ≡ r' = cc in rw (eh, er, eq_eq_k (stretch cid d c h' r') (stretch cid d c h' r') refl, eq_eq_k (plain h' r') (plain h' r') refl))
    (λ n. rw (ne_eq_k (plain h r) (plain h' r') n) (ne_eq_k (stretch cid d c h r) (stretch cid d c h' r') (λ e. n (let eh : h ≡ h' = cc in let er : r ≡ r' = cc in rw (eh, er)))))

module _ (d : ℕ) where
  step_stays : (m : Key → Counts) (h : ℕ) (p : Pdu) (k : Kind) → (p.link ≡ h → adds d k ≡ false) → Same d (step counting m (record { pdu = p; kind = k }) (h ∷ [])) (m (h ∷ []))
  step_stays m h p k s =
      split_k (h ∷ []) (p.link ∷ [])
      (λ e. let z : p.link ≡ h = cc in rw (eq_eq_k (h ∷ []) (p.link ∷ []) e, e) (stays d (m (p.link ∷ [])) k (s z)))
      (λ e. rw (ne_eq_k (h ∷ []) (p.link ∷ []) e) same)

  -- the counts of a handle at the end are those of now, if nothing adds to them
  steady : (h : ℕ) (m : Key → Counts) {js : List JudgedPdu} → All (λ (j : JudgedPdu). j.pdu.link ≡ h → adds d j.kind ≡ false) js → Same d (after counting m (judged_of js) (h ∷ [])) (m (h ∷ []))
  unfolding after
  steady h m all_nil = same
  steady h m (all_cons {x = j} s ss) = then (steady h (step counting m (record { pdu = j.pdu; kind = j.kind })) ss) (step_stays m h j.pdu j.kind s)

  pub calm_pieces :
      (cid : ℕ → ℕ → ℕ) (m : Key → Counts) {js : List JudgedPdu} → Calm d cid js →
      on_dlci d (run counting m (judged_of js)) ≡ map (as_piece d (stretch cid d (after counting m (judged_of js)))) (data_in (marked_of js))
  unfolding run after data_in on_dlci brought piece_of
  calm_pieces cid m calm = refl
  calm_pieces cid m (calm_data {p = p} {k = k} {i = i} {js = js} e c a t) =
      let j : Judged = record { pdu = p; kind = k } in
      let fin : Key → Counts = after counting (step counting m j) (judged_of js) in
      let sm : Same d (fin (p.link ∷ [])) (m (p.link ∷ [])) = then (steady p.link (step counting m j) a) (step_stays m p.link p k (λ z. rw e (carries_none d d i))) in
      let hd : on_dlci d (brought (m (p.link ∷ [])) p k) ≡ as_piece d (stretch cid d fin) (record { link = p.link; rx = p.rx; time = p.time; information = i }) ∷ [] =
      rw (sm.session, sm.link, ← c, e, eq-eqb d d refl) in
      dlci_append d (brought (m (p.link ∷ [])) p k) (run counting (step counting m j) (judged_of js)) ∙ rw (calm_pieces cid (step counting m j) t, hd)
  calm_pieces cid m (calm_other {p = p} {k = k} {js = js} o t) =
      let j : Judged = record { pdu = p; kind = k } in
      dlci_append d (brought (m (p.link ∷ [])) p k) (run counting (step counting m j) (judged_of js)) ∙ rw (other_piece d (m (p.link ∷ [])) p k o) (calm_pieces cid (step counting m j) t)

-- ---- the DLCI chosen

-- of the DLCIs on the channel of d, only d has pieces
abbrev pub Near : ℕ → Piece → Type 0
Near d p = p.dlci / 2 ≡ d / 2 → p.dlci ≡ d

other_near : (d : ℕ) (c : Counts) (p : Pdu) (k : Kind) → carries_on d k ≡ false → All (Near d) (brought c p k)
unfolding brought carries_on piece_of
other_near d c p asks h = all_nil
other_near d c p (opens e) h = all_nil
other_near d c p (carries e i) h = all_cons (λ q. absurd (eqb-false (e / 2) (d / 2) h q)) all_nil
other_near d c p (wrong e) h = all_nil
other_near d c p passed h = all_nil

data_near : (d : ℕ) (c : Counts) (p : Pdu) (k : Kind) (i : List ℕ) → k ≡ carries d i → All (Near d) (brought c p k)
unfolding brought piece_of
data_near d c p k i e = rw e (all_cons (λ q. refl) all_nil)

pub calm_near : (d : ℕ) (cid : ℕ → ℕ → ℕ) (m : Key → Counts) {js : List JudgedPdu} → Calm d cid js → All (Near d) (run counting m (judged_of js))
unfolding run
calm_near d cid m calm = all_nil
calm_near d cid m (calm_data {p = p} {k = k} {i = i} e c a t) = all_append (data_near d (m (p.link ∷ [])) p k i e) (calm_near d cid (step counting m (record { pdu = p; kind = k })) t)
calm_near d cid m (calm_other {p = p} {k = k} o t) = all_append (other_near d (m (p.link ∷ [])) p k o) (calm_near d cid (step counting m (record { pdu = p; kind = k })) t)

module _ (d : ℕ) (g : ℕ → Bool) where
  abbrev pub wanted : ℕ → Bool
  wanted e = on_channel (some (d / 2)) e && g e

  -- if d is good and has a piece, it is the first that is wanted
  pub chosen_yes : {ps : List Piece} → All (Near d) ps → g d ≡ true → on_dlci d ps ≢ [] → first wanted (map (λ p. p.dlci) ps) ≡ some d
  unfolding first on_dlci on_channel
  chosen_yes all_nil y n = absurd (n refl)
  chosen_yes (all_cons {x = p} {xs = ps} h hs) y n =
      split≡ (p.dlci / 2) (d / 2)
      (λ e. rw (h e, eq-eqb (d / 2) (d / 2) refl, y))
      (λ q. rw (ne_eqb (p.dlci / 2) (d / 2) q) (chosen_yes hs y (rw (ne_eqb p.dlci d (λ z. q (ap (λ (k : ℕ). k / 2) z))) at n)))

  -- if d is not good, none is
  pub chosen_no : {ps : List Piece} → All (Near d) ps → g d ≡ false → first wanted (map (λ p. p.dlci) ps) ≡ none
  unfolding first on_channel
  chosen_no all_nil y = refl
  chosen_no (all_cons {x = p} {xs = ps} h hs) y =
      split≡ (p.dlci / 2) (d / 2)
      (λ e. rw (h e, eq-eqb (d / 2) (d / 2) refl, y) (chosen_no hs y))
      (λ q. rw (ne_eqb (p.dlci / 2) (d / 2) q) (chosen_no hs y))
