-- The switch for every file, container, recording and channel rule: unchecked, no frame is counted; where no frame has a wrong FCS, checked and unchecked agree.
use Prim.Native.Nat.{ℕ, ◌+◌}
use mathlib.Core.Path.{◌≡◌, refl, ap}
use mathlib.Core.Bool.{true, false, cond, ◌&&◌}
use mathlib.Core.List.{List, [], ◌∷◌, ◌++◌}
use mathlib.Core.Option.{Option}
use native.Mathlib.Omega.{arith}
use lib.ListN.{length}
use lib.Dec.{ltb}
use borrow.Author.Tests.{eq-eqb}
use Rattle.laws.proofs.Choice.{split_b, no_way}
use Rattle.laws.specs.Lists.{All, all_nil, all_cons}
use Rattle.container.specs.Container.{Container, tail_offset, packets_in}
use Rattle.l2cap.specs.Pdus.{Pdu, pdus}
use Rattle.channels.specs.Channels.{asks_session}
use Rattle.channels.specs.Tried.{ChannelRule, tried_by}
use Rattle.uih.specs.Frames.{Uih, Frame, sabm, uih, wrong_fcs, other, control, is_sabm, is_uih, is_right, frame_of}
use Rattle.rfcomm.specs.Pieces.{Kind, uih_kind, frame_kind, Judging, unchecked, kind_by, Judged, judged_from, judged_by, kinds, is_wrong, wrong_on, pieces}
use Rattle.outcome.specs.Import.{Tail, Found, missing, chosen, listed, file_judged, file_pieces, file_wrong, read, ends_well, outcome}
use Rattle.cut.specs.Recording.{Framing, RecordingOf}
use Rattle.cut.specs.Left.{records_left}
use Rattle.cut.specs.Honest.{pdus_in, JudgedPdu, judged_in}
use Rattle.cut.specs.Claim.{wrong_left}
use Rattle.cut.proofs.TwoParts.{map_map}
use Rattle.cut.proofs.JudgedLists.{in_judged}
use Rattle.cut.proofs.CutRules.{checked_right}

-- by a channel rule, FCS checked
abbrev pub checked : ChannelRule → Judging
checked rule = record { rule = rule; fcs = true }

-- ---- unchecked, no frame is counted

module _ (rule : ChannelRule) (d : ℕ) where
  uih_not : (u : Uih) → is_wrong d (uih_kind u) ≡ false
  unfolding uih_kind is_wrong
  uih_not u = split_b (ltb 0 u.dlci && ltb 0 (length u.information)) (λ e. rw e) (λ e. rw e)

  frame_not : (f : Frame) → is_wrong d (frame_kind false f) ≡ false
  unfolding frame_kind is_wrong
  frame_not (sabm e) = refl
  frame_not (uih u) = uih_not u
  frame_not (wrong_fcs u) = uih_not u
  frame_not other = refl

  kind_not : (up_to all : List Pdu) (p : Pdu) → is_wrong d (kind_by (unchecked rule) up_to all p) ≡ false
  unfolding kind_by is_wrong
  kind_not up_to all p =
      split_b (asks_session p)
      (λ e. rw e)
      (λ e. split_b (tried_by rule up_to all p) (λ t. rw (e, t) (frame_not (frame_of p.payload))) (λ t. rw (e, t)))

  none_from : (all before ps : List Pdu) → wrong_on d (kinds (judged_from (unchecked rule) all before ps)) ≡ 0
  unfolding judged_from wrong_on
  none_from all before [] = refl
  none_from all before (p ∷ ps) = rw (kind_not (before ++ (p ∷ [])) all p, none_from all (before ++ (p ∷ [])) ps)

  pub wrong_off : (ps : List Pdu) → wrong_on d (kinds (judged_by (unchecked rule) ps)) ≡ 0
  unfolding judged_by
  wrong_off ps = none_from ps [] ps

  -- of a file
  pub file_off : (C : Container) (f : List ℕ) → file_wrong C (unchecked rule) f d ≡ 0
  file_off C f = wrong_off (pdus (packets_in C f))

-- of what a cut leaves of a recording
pub left_off : (rule : ChannelRule) {C : Container} {S : Framing} (R : RecordingOf C S) (n : ℕ) → wrong_left (unchecked rule) R n ≡ 0
unfolding wrong_left
left_off rule R n =
    rw (← map_map (λ (j : Judged). j.kind) (λ (q : JudgedPdu). record { pdu = q.pdu; kind = q.kind }) (judged_in (unchecked rule) R (records_left R n)), in_judged (unchecked rule) R (records_left R n))
    (wrong_off rule R.d (pdus_in R (records_left R n)))

-- ---- where every UIH has a right FCS, checked and unchecked agree

-- its FCS is right, if it has the control of a UIH
abbrev pub RightUih : Pdu → Type 0
RightUih p = is_uih (control p.payload) ≡ true → is_right p.payload ≡ true

right_frame : (b : List ℕ) → (is_uih (control b) ≡ true → is_right b ≡ true) → frame_kind true (frame_of b) ≡ frame_kind false (frame_of b)
unfolding frame_of frame_kind
right_frame b r =
    split_b (is_uih (control b))
    (λ e. checked_right true b (λ t. r e))
    (λ e. rw e (split_b (ltb 1 (length b)) (λ e. rw e (split_b (is_sabm (control b)) (λ e. rw e) (λ e. rw e))) (λ e. rw e)))

module _ (rule : ChannelRule) where
  right_from : (all before : List Pdu) {ps : List Pdu} → All RightUih ps → judged_from (checked rule) all before ps ≡ judged_from (unchecked rule) all before ps
  unfolding judged_from kind_by
  right_from all before all_nil = refl
  right_from all before (all_cons {x = p} {xs = ps} r rs) = rw (right_frame p.payload r, right_from all (before ++ (p ∷ [])) rs)

  pub all_right : {ps : List Pdu} → All RightUih ps → judged_by (checked rule) ps ≡ judged_by (unchecked rule) ps
  unfolding judged_by
  all_right {ps} rs = right_from ps [] rs

  -- the same wherever none is counted on any DLCI: of the tried PDUs no UIH has a wrong FCS
  same_frame : (f : Frame) → ((d : ℕ) → is_wrong d (frame_kind true f) ≡ false) → frame_kind true f ≡ frame_kind false f
  unfolding frame_kind is_wrong
  same_frame (sabm e) h = refl
  same_frame (uih u) h = refl
  same_frame (wrong_fcs u) h = no_way (eq-eqb u.dlci u.dlci refl) (h u.dlci)
  same_frame other h = refl

  same_kind : (up_to all : List Pdu) (p : Pdu) → ((d : ℕ) → is_wrong d (kind_by (checked rule) up_to all p) ≡ false) → kind_by (checked rule) up_to all p ≡ kind_by (unchecked rule) up_to all p
  unfolding kind_by
  same_kind up_to all p h =
      split_b (asks_session p)
      (λ e. rw e)
      (λ e. split_b (tried_by rule up_to all p) (λ t. rw (e, t) (same_frame (frame_of p.payload) (λ d. rw (e, t) at (h d)))) (λ t. rw (e, t)))

  -- a sum of none
  first_none : (d : ℕ) (k : Kind) (n : ℕ) → cond (is_wrong d k) 1 0 + n ≡ 0 → is_wrong d k ≡ false
  first_none d k n h = split_b (is_wrong d k) (λ e. let z : 1 + n ≡ 0 = rw e at h in absurd (omega (arith, z))) (λ e. e)

  rest_none : (d : ℕ) (k : Kind) (n : ℕ) → cond (is_wrong d k) 1 0 + n ≡ 0 → n ≡ 0
  rest_none d k n h = omega (arith, rw (first_none d k n h) at h)

  none_wrong_from : (all before ps : List Pdu) → ((d : ℕ) → wrong_on d (kinds (judged_from (checked rule) all before ps)) ≡ 0) → judged_from (checked rule) all before ps ≡ judged_from (unchecked rule) all before ps
  unfolding judged_from wrong_on
  none_wrong_from all before [] h = refl
  none_wrong_from all before (p ∷ ps) h =
      rw (same_kind (before ++ (p ∷ [])) all p (λ d. first_none d _ _ (h d)), none_wrong_from all (before ++ (p ∷ [])) ps (λ d. rest_none d (kind_by (checked rule) (before ++ (p ∷ [])) all p) _ (h d)))

  pub none_wrong : (ps : List Pdu) → ((d : ℕ) → wrong_on d (kinds (judged_by (checked rule) ps)) ≡ 0) → judged_by (checked rule) ps ≡ judged_by (unchecked rule) ps
  unfolding judged_by
  none_wrong ps h = none_wrong_from ps [] ps h

  -- ---- import of a file

  module _ (C : Container) (f : List ℕ) (channel : Option ℕ) (tail : Tail) where
    -- import answers the same, checked or not
    abbrev pub Same : Type 0
    Same = outcome C f (record { channel = channel; tail = tail; judging = checked rule }) ≡ outcome C f (record { channel = channel; tail = tail; judging = unchecked rule })

    abbrev of : List Judged → Found
    of js =
        cond (C.is_file f)
        (cond (C.is_taken (C.link_type f))
        (cond (ends_well C tail f) (listed (pieces js) (λ d. wrong_on d (kinds js)) (tail_offset C f) (chosen channel (pieces js))) (missing 5 (tail_offset C f ∷ [])))
        (missing C.untaken (C.link_type f ∷ [])))
        (missing C.foreign [])

    same : file_judged C (checked rule) f ≡ file_judged C (unchecked rule) f → Same
    unfolding outcome read file_pieces
    same e = ap of e

    -- every UIH of the file has a right FCS
    pub outcome_right : All RightUih (pdus (packets_in C f)) → Same
    outcome_right rs = same (all_right rs)

    -- none is counted on any DLCI
    pub outcome_none : ((d : ℕ) → file_wrong C (checked rule) f d ≡ 0) → Same
    outcome_none h = same (none_wrong (pdus (packets_in C f)) h)
