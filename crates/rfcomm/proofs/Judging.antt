-- Laws of specs/Judging.
use Prim.Native.Nat.{ℕ, zero, suc, ◌+◌, ◌-◌, ◌*◌, ◌<◌}
use mathlib.Core.Path.{◌≡◌, refl, sym, ap, ◌∙◌}
use mathlib.Core.Bool.{Bool, true, false, cond, ◌&&◌}
use mathlib.Core.List.{List}
use native.Mathlib.Omega.{arith}
use lib.ListN.{length, take, drop, length-drop}
use lib.Seq.{length-take-le}
use lib.Dec.{eqb, ltb}
use borrow.Author.Tests.{eq-eqb, ne_eqb, lt-ltb, le-ltb}
use Rattle.laws.proofs.Choice.{split≡}
use Rattle.words.specs.Words.{word}
use Rattle.acl.proofs.Parts.{part_part}
use Rattle.l2cap.specs.PduTable.{pdu_at}
use Rattle.l2cap.specs.PduFrames.{Lent}
use Rattle.l2cap.specs.Reading.{PduIs}
use Rattle.l2cap.specs.declared.Pdu.{Pdu}
use Rattle.l2cap.proofs.PduFrames.{payload_length, link_at, rx_at, cid_at}
use Rattle.channels.specs.Signals.{Signal, commands}
use Rattle.channels.specs.Channels.{any, is_tried, asks_rfcomm, asks_session}
use Rattle.channels.specs.ChannelTable.{Tells}
use Rattle.channels.specs.Passing.{Judged}
use Rattle.channels.proofs.Walk.{asks_is}
use Rattle.uih.specs.Frames.{Frame as FrameRead, sabm, uih, wrong_fcs, other, frame_of}
use Rattle.rfcomm.specs.Pieces.{carries, passed, uih_kind, frame_kind, kind_of}
use Rattle.uih.specs.Reading.{uih_at, frame_shown, seen, UihLies, FrameIs}
use Rattle.uih.specs.declared.Uih.{Uih}
use Rattle.uih.specs.declared.Frame.{Frame}
use Rattle.uih.specs.declared.Frame.TheVariants.{Uih as Found}
use Rattle.rfcomm.specs.declared.Info.{Info}
use Rattle.rfcomm.specs.declared.Verdict.{Verdict}
use Rattle.rfcomm.specs.declared.Verdict.TheVariants.{Asks, Opens, Carries, Wrong, Passed}
use Rattle.rfcomm.specs.Judging.{kind_shown, Carried, Borne, placed_uih, kind_in, CarriedIn, BorneIn, FrameVerdict, JudgePre, VerdictIs}

-- a UIH frame in a payload, that is judged by what it carries
module _ (fcs : Bool) (p : Pdu) (u : Uih) (lies : UihLies p.payload.now u) (shown : frame_kind fcs (frame_of p.payload.now) ≡ uih_kind (uih_at p.payload.now u)) where
  info_length_law : length (take u.len (drop u.start p.payload.now)) ≡ u.len
  info_length_law = length-take-le u.len (drop u.start p.payload.now) (simp length-drop (omega (arith, lies.inside)))

  kind_is : frame_kind fcs (frame_of p.payload.now) ≡ cond (ltb 0 u.dlci && ltb 0 u.len) (carries u.dlci (take u.len (drop u.start p.payload.now))) passed
  unfolding uih_kind uih_at
  kind_is = rw (shown, info_length_law)

  verdict_placed : (r : Verdict) → r ≡ placed_uih p u → FrameVerdict fcs p r
  unfolding placed_uih kind_in
  verdict_placed r q =
      split≡ u.dlci 0
      (λ z. let v : r ≡ Passed = q ∙ rw (eq-eqb u.dlci 0 z) in rw v (record { shows = kind_is ∙ rw (le-ltb 0 u.dlci (omega arith)); borne = tt }))
      (λ z. split≡ u.len 0
      (λ y. let v : r ≡ Passed = q ∙ rw (ne_eqb u.dlci 0 z, eq-eqb u.len 0 y) in rw v (record { shows = kind_is ∙ rw (lt-ltb 0 u.dlci (pos u.dlci z), le-ltb 0 u.len (omega arith)); borne = tt }))
      (λ y.
      let v : r ≡ Carries (record { dlci = u.dlci; start = p.start + u.start; len = u.len; joined = p.joined }) = q ∙ rw (ne_eqb u.dlci 0 z, ne_eqb u.len 0 y) in
      let x : p.start + u.start - p.start ≡ u.start = omega arith in
      rw v (record {
        shows = kind_is ∙ rw (lt-ltb 0 u.dlci (pos u.dlci z), lt-ltb 0 u.len (pos u.len y), x);
        borne = record { least = pos u.dlci z; most = lies.dlci; few = lies.few; from = omega arith; inside = omega (arith, lies.inside); less = omega (arith, lies.first, lies.inside); joined = refl };
      }))) where
        pos : (n : ℕ) → (n ≡ 0 → ⊥) → 0 < n
        pos zero h = absurd (h refl)
        pos (suc n) h = omega arith

-- a frame as it is read is of the same kind
kind_seen : (fcs : Bool) (x : FrameRead) → frame_kind fcs x ≡ frame_kind fcs (seen fcs x)
unfolding frame_kind seen
kind_seen fcs (sabm d) = refl
kind_seen fcs (uih u) = refl
kind_seen true (wrong_fcs u) = refl
kind_seen false (wrong_fcs u) = refl
kind_seen fcs other = refl

pub verdict_uih : (fcs : Bool) (p : Pdu) (x : Frame) → FrameIs fcs p.payload.now x → (u : Uih) → x ≡ Found u → (r : Verdict) → r ≡ placed_uih p u → FrameVerdict fcs p r
unfolding frame_shown frame_kind
verdict_uih fcs p x is u e =
    let y : FrameIs fcs p.payload.now (Found u) = rw e at is in
    verdict_placed fcs p u y.lies (kind_seen fcs (frame_of p.payload.now) ∙ ap (frame_kind fcs) y.shows)

-- ---- the PDU of a row

-- what a verdict says by the payload it says by the file and work
module _ (f w : List ℕ) (row : ℕ) (l : Lent f w row) (p : Pdu) (is : PduIs f w row p) where
  pdu_length : length p.payload.now ≡ word w (row + 4)
  pdu_length = ap length is.payload ∙ payload_length f w row l

  info_is : (i : Info) → CarriedIn p i → take i.len (drop (i.start - p.start) p.payload.now) ≡ take i.len (drop i.start (cond i.joined w f))
  unfolding pdu_at
  info_is i b =
      let z : word w (row + 3) + (i.start - p.start) ≡ i.start = omega (arith, b.from, is.start) in
      rw (is.payload, b.joined, is.joined)
      (part_part (cond (eqb (word w (row + 2)) 1) w f) (word w (row + 3)) (word w (row + 4)) (i.start - p.start) i.len (omega (arith, b.from, b.inside, pdu_length))
      ∙ ap (λ (n : ℕ). take i.len (drop n (cond (eqb (word w (row + 2)) 1) w f))) z)

  kind_same : (r : Verdict) → BorneIn p r → kind_in p r ≡ kind_shown f w r
  unfolding kind_in kind_shown
  kind_same Asks b = refl
  kind_same (Opens d) b = refl
  kind_same (Carries i) b = ap (carries i.dlci) (info_is i b)
  kind_same (Wrong d) b = refl
  kind_same Passed b = refl

  borne_same : (r : Verdict) → BorneIn p r → Borne w row r
  borne_same Asks b = tt
  borne_same (Opens d) b = b
  borne_same (Carries i) b = record {
    least = b.least;
    most = b.most;
    few = b.few;
    inside = omega (arith, b.inside, is.start, pdu_length);
    less = omega (arith, b.less, pdu_length);
    joined = b.joined ∙ is.joined;
  }
  borne_same (Wrong d) b = tt
  borne_same Passed b = tt

module _
    (fcs : Bool) (f w : List ℕ) (row q n : ℕ) (pre : JudgePre f w row q n) (p : Pdu) (is : PduIs f w row p)
    (t : Bool) (e : t ≡ (eqb p.cid 1 && any asks_rfcomm (commands p.payload.now))) where
  asked : asks_session (pdu_at f w row) ≡ t
  asked = sym (asks_is f w row p is t e)

  pub judged_asks : t ≡ true → VerdictIs fcs f w row (3 * q) n Asks
  unfolding kind_of kind_shown
  judged_asks z = record { shows = λ ss x. rw (asked, z); borne = tt }

  module _ (z₀ : t ≡ false) (s : Bool) (j : Judged w (3 * q) n p.side p.cid s) where
    tried : (ss : List Signal) → Tells ss w (3 * q) n → s ≡ is_tried ss (pdu_at f w row)
    tried ss x = j.right ss (pdu_at f w row) x (link_at f w row ∙ rw is.side) (rx_at f w row ∙ rw is.side) (cid_at f w row ∙ rw is.cid) (rw is.cid pre.lent.inside.cid)

    pub judged_passed : s ≡ false → VerdictIs fcs f w row (3 * q) n Passed
    unfolding kind_of kind_shown
    judged_passed z = record { shows = λ ss x. rw (asked, z₀, sym (tried ss x) ∙ z); borne = tt }

    pub judged_frame_law : s ≡ true → (r : Verdict) → FrameVerdict fcs p r → VerdictIs fcs f w row (3 * q) n r
    unfolding kind_of
    judged_frame_law z r v = record {
      shows = λ ss x. rw (asked, z₀, sym (tried ss x) ∙ z) (ap (λ (b : List ℕ). frame_kind fcs (frame_of b)) (sym is.payload) ∙ v.shows ∙ kind_same f w row pre.lent p is r v.borne);
      borne = borne_same f w row pre.lent p is r v.borne;
    }

-- what a verdict says of its numbers
pub carries_held : (fcs : Bool) (f w : List ℕ) (row b n : ℕ) (v : Verdict) → VerdictIs fcs f w row b n v → (i : Info) → v ≡ Carries i → Carried w row i
carries_held fcs f w row b n v is i e = rw e at is.borne
