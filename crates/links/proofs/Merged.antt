-- Import's list is merged from its links' lists, and its frames and its unfinished buffers are their sums.
use Rattle.std.proofs.lemmas.List.{length-map}
use Prim.Native.Nat.{ℕ, suc, ◌+◌}
use mathlib.Core.Path.{◌≡◌, refl, sym, ap, ◌∙◌}
use mathlib.Core.Bool.{Bool, true, cond, not}
use mathlib.Core.List.{List, [], ◌∷◌, map}
use mathlib.Core.Option.{Option, none, some}
use native.Mathlib.Omega.{arith}
use native.Mathlib.Nat.{zero-add}
use lib.ListN.{length}
use lib.Dec.{eqb, ltb}
use borrow.Author.Tests.{eq-eqb, ne_eqb, eqb-true}
use Rattle.laws.proofs.Choice.{split_b, split≡, no_way}
use Rattle.laws.specs.Keys.{Key}
use Rattle.laws.proofs.Keys.{ne_eq_k}
use Rattle.laws.specs.Keyed.{Machine, keep, step, run, after}
use Rattle.laws.proofs.Keyed.{run_kept}
use Rattle.laws.specs.Count.{mem, nub, count}
use Rattle.laws.specs.Totals.{total}
use Rattle.cut.proofs.TwoParts.{map_append}
use Rattle.items.specs.Items.{Span}
use Rattle.container.specs.Packets.{Packet, of_link}
use Rattle.container.specs.Container.{Container, tail_offset, packets_in}
use Rattle.l2cap.specs.Pdus.{pdus}
use Rattle.channels.specs.Tried.{source}
use Rattle.rfcomm.specs.Pieces.{unchecked, judged_from, judged_by, Piece, pieces}
use Rattle.spans.specs.Spans.{scanner, emptied, spans, unfinished, on_dlci}
use Rattle.outcome.specs.Import.{Tail, Options, by_source, Finding, found, missing, listed, chosen, read, ends_well, outcome, file_pieces, file_wrong}
use Rattle.links.specs.OneLink.{pieces_of, own, own_pieces, own_spans, own_unfinished}
use Rattle.links.specs.OfLink.{link_in, pieces_on}
use Rattle.links.proofs.Found.{outcome_found}
use Rattle.links.specs.Merge.{Labelled, Merge, links_of, Splits}
use Rattle.links.proofs.Filtered.{own_pieces_law, buffers_kept}

-- ---- a list whose members have links, each that of a packet: it is as long as its parts together

total_keep : (f : ℕ → ℕ) (q : ℕ → Bool) (ls : List ℕ) → total f (keep q ls) ≡ total (λ l. cond (q l) (f l) 0) ls
unfolding total keep
total_keep f q [] = refl
total_keep f q (l ∷ ls) = split_b (q l) (λ e. rw (e, total_keep f q ls)) (λ e. rw e (total_keep f q ls ∙ sym (zero-add (total (λ l. cond (q l) (f l) 0) ls))))

module _ {Y : Type 0} (link : Y → ℕ) where
  abbrev with_link : ℕ → List Y → List Y
  with_link l ys = keep (λ y. eqb (link y) l) ys

  abbrev without : ℕ → List Y → List Y
  without a ys = keep (λ y. not (eqb (link y) a)) ys

  parted : (a : ℕ) (ys : List Y) → length (with_link a ys) + length (without a ys) ≡ length ys
  unfolding keep
  parted a [] = refl
  parted a (y ∷ ys) = split_b (eqb (link y) a) (λ e. rw e (omega (arith, parted a ys))) (λ e. rw e (omega (arith, parted a ys)))

  left_of : (l a : ℕ) (ys : List Y) → length (with_link l (without a ys)) ≡ cond (not (eqb l a)) (length (with_link l ys)) 0
  unfolding keep
  left_of l a [] = split_b (eqb l a) (λ e. rw e) (λ e. rw e)
  left_of l a (y ∷ ys) =
      split≡ (link y) a
      (λ e. rw (eq-eqb (link y) a e) (left_of l a ys ∙ split≡ l a
      (λ z. rw (eq-eqb l a z))
      (λ z. rw (ne_eqb l a z, ne_eqb (link y) l (λ w. z (sym w ∙ e))))))
      (λ e. rw (ne_eqb (link y) a e) (split≡ (link y) l
      (λ z. rw (eq-eqb (link y) l z, left_of l a ys, ne_eqb l a (λ w. e (z ∙ w))))
      (λ z. rw (ne_eqb (link y) l z) (left_of l a ys))))

  -- g l is the number of those with the link l, none where l has no packet
  lengths_added : (ps : List Packet) (g : ℕ → ℕ) (ys : List Y) → ((l : ℕ) → length (with_link l ys) ≡ g l) → ((l : ℕ) → of_link l ps ≡ [] → g l ≡ 0) →
      length ys ≡ total g (links_of ps)
  unfolding total links_of of_link keep
  lengths_added [] g [] h n = refl
  lengths_added [] g (y ∷ ys) h n =
      let z : length (with_link (link y) (y ∷ ys)) ≡ 0 = h (link y) ∙ n (link y) refl in
      absurd (let w : suc (length (with_link (link y) ys)) ≡ 0 = rw (eq-eqb (link y) (link y) refl) at z in omega arith)
  lengths_added (a ∷ ps) g ys h n =
      let others : length (without a.link ys) ≡ total (λ l. cond (not (eqb l a.link)) (g l) 0) (links_of ps) =
      lengths_added ps (λ l. cond (not (eqb l a.link)) (g l) 0) (without a.link ys)
      (λ l. left_of l a.link ys ∙ rw (h l))
      (λ l e. split≡ l a.link
      (λ z. rw (eq-eqb l a.link z))
      (λ z. rw (ne_eqb l a.link z) (n l (rw (ne_eqb a.link l (λ w. z (sym w))) e)))) in
      rw (total_keep g (λ l. not (eqb l a.link)) (links_of ps)) (omega (arith, others, parted a.link ys, h a.link))

merged_length : {A : Type 0} {whole : List A} {lists : ℕ → List A} → Merge whole lists → (ps : List Packet) → ((l : ℕ) → of_link l ps ≡ [] → length (lists l) ≡ 0) →
    length whole ≡ total (λ l. length (lists l)) (links_of ps)
merged_length {A} {whole} {lists} m ps n =
    ap length (sym m.all)
    ∙ length-map m.beside (λ (x : Labelled A). x.item)
    ∙ lengths_added (λ (x : Labelled A). x.link) ps (λ l. length (lists l)) m.beside
    (λ l. sym (length-map (keep (λ (x : Labelled A). eqb x.link l) m.beside) (λ (x : Labelled A). x.item)) ∙ ap length (m.each l))
    n

-- ---- the list

abbrev beside : ℕ → Span → Labelled Span
beside l s = record { link = l; item = s }

-- the scanner with the link of the piece written beside each span
abbrev labelling : Machine Piece (Labelled Span)
labelling = record { S = List ℕ; key = scanner.key; next = scanner.next; out = λ b p. map (beside (link_in p.key)) (scanner.out b p) }

items_back : (l : ℕ) (ss : List Span) → map (λ (x : Labelled Span). x.item) (map (beside l) ss) ≡ ss
items_back l [] = refl
items_back l (s ∷ ss) = rw (items_back l ss)

labelled_run : (m : Key → List ℕ) (ps : List Piece) → map (λ (x : Labelled Span). x.item) (run labelling m ps) ≡ run scanner m ps
unfolding run
labelled_run m [] = refl
labelled_run m (p ∷ ps) =
    map_append (λ (x : Labelled Span). x.item) (map (beside (link_in p.key)) (scanner.out (m p.key) p)) (run labelling (step labelling m p) ps)
    ∙ rw (items_back (link_in p.key) (scanner.out (m p.key) p), labelled_run (step scanner m p) ps)

labels_own : (l h : ℕ) (ss : List Span) → keep (λ (x : Labelled Span). eqb x.link l) (map (beside h) ss) ≡ cond (eqb h l) (map (beside h) ss) []
unfolding keep
labels_own l h [] = split_b (eqb h l) (λ e. rw e) (λ e. rw e)
labels_own l h (s ∷ ss) = split_b (eqb h l) (λ e. rw (e, labels_own l h ss, e)) (λ e. rw (e, labels_own l h ss, e))

-- the spans of one link are those of import's buffers with that link
spans_each : (ps : List Piece) (l : ℕ) → map (λ (x : Labelled Span). x.item) (keep (λ (x : Labelled Span). eqb x.link l) (run labelling emptied ps)) ≡ spans (pieces_on l ps)
unfolding spans pieces_on
spans_each ps l =
    rw (run_kept labelling (λ k. eqb (link_in k) l) (λ (x : Labelled Span). eqb x.link l) (λ b p. labels_own l (link_in p.key) (scanner.out b p)) emptied emptied (λ k h. refl) ps)
    (labelled_run emptied (keep (λ (p : Piece). eqb (link_in p.key) l) ps))

spans_split : (ps : List Piece) → Merge (spans ps) (λ l. spans (pieces_on l ps))
unfolding spans
spans_split ps = record { beside = run labelling emptied ps; all = labelled_run emptied ps; each = spans_each ps }

-- ---- the count: buffers of a link

keep_map : {A : Type 0} (key : A → Key) (q : Key → Bool) (xs : List A) → map key (keep (λ x. q (key x)) xs) ≡ keep q (map key xs)
unfolding keep
keep_map key q [] = refl
keep_map key q (x ∷ xs) = split_b (q (key x)) (λ e. rw (e, keep_map key q xs)) (λ e. rw (e, keep_map key q xs))

-- each key once among those kept, or those kept of each key once: the same
mem_kept : (q : Key → Bool) (k : Key) → q k ≡ true → (ks : List Key) → mem k (keep q ks) ≡ mem k ks
unfolding mem keep
mem_kept q k h [] = refl
mem_kept q k h (x ∷ xs) =
    split_b (q x)
    (λ e. rw (e, mem_kept q k h xs))
    (λ e. rw (e, ne_eq_k k x (λ z. no_way (rw z at h) e)) (mem_kept q k h xs))

nub_kept : (q : Key → Bool) (ks : List Key) → nub (keep q ks) ≡ keep q (nub ks)
unfolding nub keep
nub_kept q [] = refl
nub_kept q (x ∷ xs) =
    split_b (q x)
    (λ e. rw (e, mem_kept q x e xs)
    (split_b (mem x xs)
    (λ m. rw m (nub_kept q xs))
    (λ m. rw (m, e, nub_kept q xs))))
    (λ e. rw e
    (split_b (mem x xs)
    (λ m. rw m (nub_kept q xs))
    (λ m. rw (m, e) (nub_kept q xs))))

-- those of the kept that pass are those kept of the ones that pass, by a test that is the same on what is kept
count_kept : (q p' p : Key → Bool) → ((k : Key) → q k ≡ true → p' k ≡ p k) → (ks : List Key) → count p' (keep q ks) ≡ length (keep q (keep p ks))
unfolding count keep
count_kept q p' p h [] = refl
count_kept q p' p h (k ∷ ks) =
    split_b (q k)
    (λ e. split_b (p k) (λ z. rw (e, z) (rw (h k e, z, e, count_kept q p' p h ks))) (λ z. rw (e, z) (rw (h k e, z) (count_kept q p' p h ks))))
    (λ e. split_b (p k) (λ z. rw (e, z) (rw e (count_kept q p' p h ks))) (λ z. rw (e, z) (count_kept q p' p h ks)))

count_is : (p : Key → Bool) (ks : List Key) → count p ks ≡ length (keep p ks)
unfolding count keep
count_is p [] = refl
count_is p (k ∷ ks) = split_b (p k) (λ e. rw (e, count_is p ks)) (λ e. rw (e, count_is p ks))

-- import's buffers that are not empty at the end
abbrev is_left : List Piece → Key → Bool
is_left ps k = ltb 0 (length (after scanner emptied ps k))

abbrev buffers_left : List Piece → List Key
buffers_left ps = keep (is_left ps) (nub (map (λ p. p.key) ps))

unfinished_kept : (l : ℕ) (ps : List Piece) → unfinished (pieces_on l ps) ≡ length (keep (λ k. eqb (link_in k) l) (buffers_left ps))
unfolding unfinished pieces_on
unfinished_kept l ps =
    rw (keep_map (λ (p : Piece). p.key) (λ k. eqb (link_in k) l) ps, nub_kept (λ k. eqb (link_in k) l) (map (λ (p : Piece). p.key) ps))
    (count_kept (λ k. eqb (link_in k) l) (is_left (pieces_on l ps)) (is_left ps) (λ k e. rw (buffers_kept l ps k (eqb-true (link_in k) l e))) (nub (map (λ (p : Piece). p.key) ps)))

-- ---- import's pieces of a DLCI, split by link

module _ (C : Container) (f : List ℕ) (d : ℕ) where
  abbrev all_pieces : List Piece
  all_pieces = on_dlci d (file_pieces C (unchecked source) f)

  spans_merge : Merge (spans all_pieces) (λ l. own_spans C l d f)
  unfolding own_spans
  spans_merge =
      let m : Merge (spans all_pieces) (λ l. spans (pieces_on l all_pieces)) = spans_split all_pieces in
      record { beside = m.beside; all = m.all; each = λ l. m.each l ∙ rw (own_pieces_law C l d f) }

  -- a link with no packets has neither spans nor buffers
  no_pieces : (l : ℕ) → of_link l (packets_in C f) ≡ [] → own_pieces C l d f ≡ []
  unfolding own_pieces own pieces_of pdus judged_by judged_from pieces run on_dlci
  no_pieces l e = rw e

  no_spans : (l : ℕ) → of_link l (packets_in C f) ≡ [] → length (own_spans C l d f) ≡ 0
  unfolding own_spans spans run
  no_spans l e = rw (no_pieces l e)

  no_unfinished : (l : ℕ) → of_link l (packets_in C f) ≡ [] → own_unfinished C l d f ≡ 0
  unfolding own_unfinished unfinished nub count
  no_unfinished l e = rw (no_pieces l e)

  unfinished_sum : unfinished all_pieces ≡ total (λ l. own_unfinished C l d f) (links_of (packets_in C f))
  unfolding unfinished own_unfinished
  unfinished_sum =
      count_is (is_left all_pieces) (nub (map (λ (p : Piece). p.key) all_pieces))
      ∙ lengths_added link_in (packets_in C f) (λ l. own_unfinished C l d f) (buffers_left all_pieces)
      (λ l. sym (unfinished_kept l all_pieces) ∙ rw (own_pieces_law C l d f))
      no_unfinished

  splits : Splits C f d (spans all_pieces) (unfinished all_pieces)
  splits = record { merge = spans_merge; frames = merged_length spans_merge (packets_in C f) no_spans; unfinished = unfinished_sum }

-- ---- what import finds

-- strict or tolerant, on any channel or on a given one, by the source's channel rule, FCS unchecked: where import finds something, its list is merged from its
-- links' lists, and its frames and its unfinished buffers are the sums over the links
pub import_splits : (C : Container) (f : List ℕ) (channel : Option ℕ) (tail : Tail) (x : Finding) → outcome C f (by_source channel tail) ≡ found x →
    Splits C f x.dlci x.spans x.unfinished
import_splits C f channel tail x e =
    let q = outcome_found C f (by_source channel tail) x e in
    rw (q.0, q.1) (splits C f x.dlci)
