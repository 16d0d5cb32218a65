-- Filter first is filter later: the pieces of one link's packets are the pieces of all packets that have that link, in order.
use Prim.Native.Nat.{ℕ}
use mathlib.Core.Path.{◌≡◌, refl, sym, ap, ◌∙◌}
use mathlib.Core.Bool.{Bool, true, false, cond}
use mathlib.Core.List.{List, [], ◌∷◌, map}
use mathlib.Core.Option.{Option, none, some}
use lib.Dec.{eqb}
use borrow.Author.Tests.{eq-eqb, eqb-true}
use Rattle.laws.proofs.Choice.{split_b}
use Rattle.laws.specs.Keys.{Key}
use Rattle.laws.proofs.Keys.{split_k, eq_eq_k, ne_eq_k}
use Rattle.laws.specs.Keyed.{of, keep, after}
use Rattle.laws.proofs.Keyed.{after_at, run_kept}
use Rattle.container.specs.Packets.{Packet, of_link}
use Rattle.container.specs.Container.{Container, packets_in}
use Rattle.l2cap.specs.Pdus.{Pdu, joined, is_complete, pdu_of, completed, reassembly, pdus}
use Rattle.channels.specs.Signals.{signals}
use Rattle.channels.specs.Tried.{source}
use Rattle.rfcomm.specs.Pieces.{Kind, asks, opens, carries, wrong, passed, kind_of, told, unchecked, Judged, judged, Counts, piece_of, brought, counting, no_counts, Piece, pieces}
use Rattle.rfcomm.proofs.Pieces.{judged_is}
use Rattle.spans.specs.Spans.{scanner, emptied, on_dlci}
use Rattle.outcome.specs.Import.{file_pieces}
use Rattle.links.specs.OneLink.{pieces_of, own, own_pieces}
use Rattle.links.specs.OfLink.{link_in, pdus_on, judged_on, pieces_on}
use Rattle.links.proofs.Signalled.{tried_kept}

abbrev of_key : ℕ → Key → Bool
of_key l k = eqb (link_in k) l

-- ---- reassembly

completed_own : (l : ℕ) (s : Option (List ℕ)) (a : Packet) → pdus_on l (completed s a) ≡ cond (eqb a.link l) (completed s a) []
unfolding completed keep pdu_of
completed_own l none a = split_b (eqb a.link l) (λ e. rw e) (λ e. rw e)
completed_own l (some b) a =
    split_b (is_complete b)
    (λ c. split_b (eqb a.link l) (λ e. rw (c, e)) (λ e. rw (c, e)))
    (λ c. split_b (eqb a.link l) (λ e. rw (c, e)) (λ e. rw (c, e)))

pub pdus_kept : (l : ℕ) (ps : List Packet) → pdus_on l (pdus ps) ≡ pdus (of_link l ps)
unfolding pdus of_link
pdus_kept l ps = run_kept reassembly (of_key l) (λ p. eqb p.link l) (λ s a. completed_own l (joined s a) a) (λ k. none) (λ k. none) (λ k h. refl) ps

-- ---- verdicts: by the signals of the link alone, with FCS checked or not

module _ (fcs : Bool) (l : ℕ) where
  kind_kept : (all : List Pdu) (p : Pdu) → p.link ≡ l → kind_of fcs (signals (pdus_on l all)) p ≡ kind_of fcs (signals all) p
  unfolding kind_of
  kind_kept all p h = rw (tried_kept l all p h)

  told_kept : (all ps : List Pdu) → judged_on l (map (told fcs (signals all)) ps) ≡ map (told fcs (signals (pdus_on l all))) (pdus_on l ps)
  unfolding keep
  told_kept all [] = refl
  told_kept all (p ∷ ps) =
      split_b (eqb p.link l)
      (λ e. rw (e, told_kept all ps, kind_kept all p (eqb-true p.link l e)))
      (λ e. rw (e, told_kept all ps))

  pub judged_kept : (ps : List Pdu) → judged_on l (judged fcs ps) ≡ judged fcs (pdus_on l ps)
  judged_kept ps = rw (judged_is fcs ps, judged_is fcs (pdus_on l ps)) (told_kept ps ps)

-- ---- sessions, links and pieces

brought_own : (l : ℕ) (c : Counts) (p : Pdu) (k : Kind) → keep (λ (x : Piece). eqb (link_in x.key) l) (brought c p k) ≡ cond (eqb p.link l) (brought c p k) []
unfolding brought keep piece_of
brought_own l c p asks = split_b (eqb p.link l) (λ e. rw e) (λ e. rw e)
brought_own l c p (opens e) = split_b (eqb p.link l) (λ e. rw e) (λ e. rw e)
brought_own l c p (carries d i) = split_b (eqb p.link l) (λ e. rw e) (λ e. rw e)
brought_own l c p (wrong d) = split_b (eqb p.link l) (λ e. rw e) (λ e. rw e)
brought_own l c p passed = split_b (eqb p.link l) (λ e. rw e) (λ e. rw e)

pub pieces_kept : (l : ℕ) (js : List Judged) → pieces_on l (pieces js) ≡ pieces (judged_on l js)
unfolding pieces pieces_on
pieces_kept l js = run_kept counting (of_key l) (λ x. eqb (link_in x.key) l) (λ c j. brought_own l c j.pdu j.kind) no_counts no_counts (λ k h. refl) js

-- ---- all of it

pub filtered_by : (fcs : Bool) (l : ℕ) (ps : List Packet) → pieces (judged fcs (pdus (of_link l ps))) ≡ pieces_on l (pieces (judged fcs (pdus ps)))
filtered_by fcs l ps = rw (← pdus_kept l ps, ← judged_kept fcs l (pdus ps), ← pieces_kept l (judged fcs (pdus ps)))

pub filtered : (l : ℕ) (ps : List Packet) → pieces_of (of_link l ps) ≡ pieces_on l (pieces_of ps)
unfolding pieces_of judged
filtered l ps = filtered_by false l ps

pub dlci_swap : (l d : ℕ) (ps : List Piece) → on_dlci d (pieces_on l ps) ≡ pieces_on l (on_dlci d ps)
unfolding on_dlci pieces_on keep
dlci_swap l d [] = refl
dlci_swap l d (p ∷ ps) =
    split_b (eqb p.dlci d)
    (λ e. split_b (eqb (link_in p.key) l) (λ b. rw (e, b, e, dlci_swap l d ps)) (λ b. rw (e, b) (dlci_swap l d ps)))
    (λ e. split_b (eqb (link_in p.key) l) (λ b. rw (e, b, e) (dlci_swap l d ps)) (λ b. rw (e, b) (dlci_swap l d ps)))

-- the pieces of one link and DLCI are import's pieces of that DLCI that have that link
pub own_pieces_law : (C : Container) (l d : ℕ) (f : List ℕ) → own_pieces C l d f ≡ pieces_on l (on_dlci d (file_pieces C (unchecked source) f))
unfolding own_pieces own file_pieces pieces_of
own_pieces_law C l d f = rw (filtered l (packets_in C f)) (dlci_swap l d (pieces_of (packets_in C f)))

-- ---- buffers

-- the members with a key are not lost by keeping, if all of that key are kept
of_kept : {X : Type 0} (key : X → Key) (q : X → Bool) (k : Key) → ((x : X) → key x ≡ k → q x ≡ true) → (xs : List X) → of key k (keep q xs) ≡ of key k xs
unfolding of keep
of_kept key q k h [] = refl
of_kept key q k h (x ∷ xs) =
    split_k (key x) k
    (λ e. rw (h x e, eq_eq_k (key x) k e, of_kept key q k h xs))
    (λ e. split_b (q x)
    (λ b. rw (b, ne_eq_k (key x) k e) (of_kept key q k h xs))
    (λ b. rw (b, ne_eq_k (key x) k e) (of_kept key q k h xs)))

-- a link's buffers are import's
pub buffers_kept : (l : ℕ) (ps : List Piece) (k : Key) → link_in k ≡ l → after scanner emptied (pieces_on l ps) k ≡ after scanner emptied ps k
unfolding pieces_on
buffers_kept l ps k h =
    after_at scanner emptied (keep (λ (p : Piece). of_key l p.key) ps) k
    ∙ rw (of_kept scanner.key (λ (p : Piece). of_key l p.key) k (λ x e. eq-eqb (link_in x.key) l (ap link_in e ∙ h)) ps)
    (sym (after_at scanner emptied ps k))
