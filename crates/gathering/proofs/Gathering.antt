-- Laws of specs/Gathering.
use Prim.Native.Nat.{ℕ, zero, suc, ◌+◌, ◌-◌, ◌*◌, ◌/◌, ◌%◌, ◌<◌, ◌≤◌}
use mathlib.Core.Path.{◌≡◌, refl, sym, ap, ◌∙◌}
use mathlib.Core.Bool.{Bool, true, false, cond}
use mathlib.Core.List.{List, [], ◌∷◌, ◌++◌, append_assoc, append-nil}
use native.Mathlib.Omega.{arith}
use native.Mathlib.Numerals.{add-one}
use lib.ListN.{length, get_or, set, replicate, take, drop, get_or-eq_default}
use lib.Seq.{get_or-set_same, get_or-set_other}
use lib.Dec.{eqb}
use borrow.Author.Tests.{eq-eqb, ne_eqb}
use Rattle.laws.proofs.Choice.{split≤, split≡}
use Rattle.laws.proofs.Lists.{get_d_zeros}
use Rattle.laws.specs.Keys.{Key}
use Rattle.laws.specs.Keyed.{put, run}
use Rattle.words.specs.Words.{word, long}
use Rattle.words.specs.Front.{Front}
use Rattle.words.proofs.Front.{front_refl, front_less, front_word}
use Rattle.words.specs.Rows.{put_words}
use Rattle.words.proofs.Rows.{length_puts, front_puts, puts_above}
use Rattle.table.specs.Table.{lookup, Stored, Agree}
use Rattle.table.proofs.Table.{long_agree}
use Rattle.packets.specs.PacketTable.{packets_from}
use Rattle.l2cap.specs.Pdus.{Pdu, pdus}
use Rattle.l2cap.specs.PduTable.{pdu_at, pdus_from, pays_of, Reassembled}
use Rattle.l2cap.proofs.PduFrames.{length_pdus, reassembled_lent, pdus_next, pdus_none, pays_next, pays_mono, pays_agree, pdus_agree}
use Rattle.channels.specs.Signals.{Signal, signals}
use Rattle.channels.specs.ChannelTable.{Tells}
use Rattle.channels.specs.Passing.{Signalled, ReadChannels}
use Rattle.channels.proofs.Passing.{signalled_front}
use Rattle.rfcomm.specs.Pieces.{Kind, asks, opens, wrong, passed, kind_of, judged, kinds, is_wrong, wrong_on, Counts, counted, piece_of, brought, no_counts, pieces}
use Rattle.rfcomm.proofs.Pieces.{judged_is}
use Rattle.rfcomm.specs.PieceTable.{piece_at, pieces_from, infos_of, Within, Pieced}
use Rattle.tree.specs.Tree.{Indexed, Entered, Stands, ClearPre, Cleared}
use Rattle.tree.specs.declared.Tree.{Tree}
use Rattle.tree.specs.declared.Table.{Table}
use Rattle.tree.proofs.Index.{indexed_agree, stands_less}
use Rattle.tree.specs.declared.Seating.{Seating}
use Rattle.gathering.specs.CountTable.{value_of, count_index, UpPre, CountedUp, Counted}
use Rattle.gathering.proofs.CountTable.{counted_start, counted_agree, counted_none, counted_session, counted_link}
use Rattle.rfcomm.specs.PieceRows.{row_of, PutPre, part_piece}
use Rattle.rfcomm.proofs.PieceRows.{row_len, row_piece, row_within, row_long, within_front, pieces_front, infos_front, pieces_snoc}
use Rattle.rfcomm.specs.Judging.{kind_shown, Carried, VerdictIs}
use Rattle.rfcomm.proofs.Judging.{carries_held}
use Rattle.rfcomm.specs.declared.Part.{Part}
use Rattle.rfcomm.specs.declared.Info.{Info}
use Rattle.gathering.specs.declared.Near.{Near}
use Rattle.gathering.specs.declared.Taken.{Taken}
use Rattle.rfcomm.specs.declared.Verdict.{Verdict}
use Rattle.gathering.specs.declared.Gathered.{Gathered}
use Rattle.rfcomm.specs.declared.Verdict.TheVariants.{Asks, Opens, Carries, Wrong, Passed}
use Rattle.gathering.specs.Gathering.{part_of, TakePre, Ready, TakenIn, PiecesPre, PiecesBegun, ReadPieces, Gathers, Gathering}

take_put : (w : List ℕ) (row : ℕ) (t : Table) (i : Info) (at : ℕ) (p : Part) → TakePre w row t i at → p ≡ part_of w row t i → PutPre w at p
unfolding part_of
take_put w row t i at p h e = rw e (record { room = h.room; sessions = h.few (64 * (word w row / 2) + 0); links = h.few (64 * (word w row / 2) + i.dlci); len = h.piece.len })

link_is : (f w : List ℕ) (at : ℕ) → (pdu_at f w at).link ≡ word w at / 2
unfolding pdu_at
link_is f w at = refl

-- one more on a DLCI, of the frames with a wrong FCS that v counts
module _ (v : List ℕ) (d : ℕ) where
  wrong_more : (e : ℕ) → e < length v → get_or (set v d (get_or v d 0 + 1)) e 0 ≡ get_or v e 0 + cond (is_wrong e (wrong d)) 1 0
  unfolding is_wrong
  wrong_more e h = split≡ e d
      (λ q. let l : d < length v = rw q at h in rw (q, eq-eqb d d refl) (get_or-set_same v d (get_or v d 0 + 1) 0 l))
      (λ q. rw (ne_eqb d e (λ z. q (sym z))) (get_or-set_other v d e (get_or v d 0 + 1) 0 q ∙ omega arith))

module _ (f w : List ℕ) (q rows : ℕ) (t : Taken) (j : ℕ) (a : List ℕ) (r : Ready f w q rows t j a) where
  stands : Stands w (count_index (6 * q)) (t.counts + 1)
  unfolding count_index
  stands = record { rows = omega (arith, r.counts, r.few, r.quarter); room = omega (arith, r.counts, r.few, r.quarter, r.room); few = omega (arith, r.counts, r.few, r.small) }

  -- the table of the counts
  abbrev table : Table
  table = record { at = count_index (6 * q); count = t.counts }

  up_here : (k : ℕ) → UpPre w table k
  unfolding count_index
  up_here k = record { enter = record { stands = stands; indexed = r.indexed }; small = omega (arith, r.values k, r.few, r.small) }

  take_here : (i : Info) → Carried w (2 * q + 7 * j) i → TakePre w (2 * q + 7 * j) table i (5 * q + 8 * t.pieces)
  unfolding count_index
  take_here i c = record {
    piece = record { whole = r.lent.room; dlci = c.most; start = start_small; len = omega (arith, c.few) };
    seek = record { stands = stands_less w (count_index (6 * q)) (t.counts + 1) t.counts (omega arith) stands; indexed = r.indexed };
    room = omega (arith, r.table, c.less, r.quarter, r.room);
    few = λ k. omega (arith, r.values k, r.few, r.small);
  } where
    go : (b : Bool) → word w (2 * q + 7 * j + 3) + word w (2 * q + 7 * j + 4) ≤ cond b (8 * q) (length f) → i.start < 4294967296
    go true h = omega (arith, c.inside, r.small, r.quarter)
    go false h = omega (arith, c.inside, r.small)

    start_small : i.start < 4294967296
    start_small = go (eqb (word w (2 * q + 7 * j + 2)) 1) r.inside.inside

  module _ (x : Tree) (ex : x ≡ count_index (6 * q)) where
    pub up_pre : (k : ℕ) → UpPre w (record { at = x; count = t.counts }) k
    up_pre k = rw ex (up_here k)

    pub piece_pre : (fcs : Bool) (v : Verdict) (i : Info) → VerdictIs fcs f w (2 * q + 7 * j) (3 * q) rows v → v ≡ Carries i → TakePre w (2 * q + 7 * j) (record { at = x; count = t.counts }) i (5 * q + 8 * t.pieces)
    piece_pre fcs v i is e = rw ex (take_here i (carries_held fcs f w (2 * q + 7 * j) (3 * q) rows v is i e))

  -- ---- the five ways

  module _ (fcs : Bool) (v : Verdict) (is : VerdictIs fcs f w (2 * q + 7 * j) (3 * q) rows v) where
    kind_as : (y : Verdict) → v ≡ y → (ss : List Signal) → Tells ss w (3 * q) rows → kind_of fcs ss (pdu_at f w (2 * q + 7 * j)) ≡ kind_shown f w y
    kind_as y e ss x = is.shows ss x ∙ rw e

    -- a kind that no DLCI has a wrong frame by
    none_wrong : (y : Verdict) (k : Kind) → v ≡ y → kind_shown f w y ≡ k → ((d : ℕ) → is_wrong d k ≡ false) → (ss : List Signal) → Tells ss w (3 * q) rows → (e : ℕ) → e < length a →
        get_or a e 0 ≡ get_or a e 0 + cond (is_wrong e (kind_of fcs ss (pdu_at f w (2 * q + 7 * j)))) 1 0
    none_wrong y k e ek n ss x d h = rw (kind_as y e ss x ∙ ek, n d) (omega arith)

    -- nothing in work changes
    taken_nothing : (y : Verdict) (k : Kind) → v ≡ y → kind_shown f w y ≡ k → ((c : Counts) → counted c k ≡ c) → ((c : Counts) (p : Pdu) → brought c p k ≡ []) →
        (a' : List ℕ) → ((e : ℕ) → e < length a → get_or a' e 0 ≡ get_or a e 0 + cond (is_wrong e k) 1 0) → TakenIn fcs f w q rows t j a w t a'
    taken_nothing y k e ek same nothing a' ea = record {
      counts = λ m ss x c. rw (kind_as y e ss x ∙ ek) (counted_none m w (6 * q) t.counts j c (pdu_at f w (2 * q + 7 * j)).link k (same (m ((pdu_at f w (2 * q + 7 * j)).link ∷ []))));
      list = λ m ss x c. rw (kind_as y e ss x ∙ ek, nothing (m ((pdu_at f w (2 * q + 7 * j)).link ∷ [])) (pdu_at f w (2 * q + 7 * j)), append-nil);
      wrongs = λ ss x d h. rw (kind_as y e ss x ∙ ek) (ea d h);
      within = r.within;
      few = omega arith;
      indexed = r.indexed;
      more = omega arith;
      most = omega arith;
      front = front_refl (20 * q) w;
      above = λ n h. refl;
      size = refl;
    }

    pub taken_passed : v ≡ Passed → TakenIn fcs f w q rows t j a w t a
    unfolding kind_shown counted brought is_wrong
    taken_passed e = taken_nothing Passed passed e refl (λ c. refl) (λ c p. refl) a (λ d h. omega arith)

    pub taken_wrong : (d : ℕ) → v ≡ Wrong d → (a' : List ℕ) → a' ≡ set a d (get_or a d 0 + 1) → TakenIn fcs f w q rows t j a w t a'
    unfolding kind_shown counted brought
    taken_wrong d e a' ea = taken_nothing (Wrong d) (wrong d) e refl (λ c. refl) (λ c p. refl) a' (λ i h. rw ea (wrong_more a d i h))

    module _ (side link : ℕ) (es : side ≡ word w (2 * q + 7 * j)) (el : link ≡ side / 2) (key : ℕ) (u : List ℕ) (sat : Seating) (x : Tree) (ex : x ≡ count_index (6 * q))
        (up : CountedUp w (record { at = x; count = t.counts }) key u sat) (near : Near) where
      at : Entered w table (record { key = key; a = value_of (lookup w (6 * q) t.counts key) + 1; b = up.other }) u sat.rows
      unfolding count_index
      at = rw ex at up.entered

      s : Stored w (6 * q) t.counts key (value_of (lookup w (6 * q) t.counts key) + 1) up.other u sat.rows
      unfolding count_index
      s = at.stored

      my_link : (pdu_at f w (2 * q + 7 * j)).link ≡ link
      my_link = link_is f w (2 * q + 7 * j) ∙ rw (el, es)

      counts_front : Front (24 * q) u w
      counts_front = let z : 4 * (6 * q) ≡ 24 * q = omega arith in rw z at s.front

      pieces_room : 4 * (5 * q + 8 * (0 + t.pieces)) ≤ 24 * q
      pieces_room = omega (arith, r.table, r.quarter)

      kept_pieces : pieces_from f u (5 * q) 0 t.pieces ≡ pieces_from f w (5 * q) 0 t.pieces
      kept_pieces = pieces_front (24 * q) f u w (5 * q) 0 t.pieces (8 * q) pieces_room counts_front (omega arith) (λ i h. r.within i (omega arith))

      beyond : (i : ℕ) → 6 * q + (6 * q) / 7 ≤ i → word u i ≡ word w i
      unfolding count_index
      beyond i h = at.beyond i (omega (arith, h, r.counts, r.few, r.quarter))

      counted_way : (y : Verdict) (k : Kind) → v ≡ y → kind_shown f w y ≡ k → ((d : ℕ) → is_wrong d k ≡ false) → ((c : Counts) (p : Pdu) → brought c p k ≡ []) →
          ((m : Key → Counts) → Counted m w (6 * q) t.counts j → Counted (put m (link ∷ []) (counted (m (link ∷ [])) k)) u (6 * q) sat.rows (j + 1)) →
          TakenIn fcs f w q rows t j a u (record { counts = sat.rows; pieces = t.pieces; near = near }) a
      counted_way y k e ek right nothing does = record {
        wrongs = none_wrong y k e ek right;
        counts = λ m ss x c. rw (kind_as y e ss x ∙ ek, my_link) (does m c);
        list = λ m ss x c. rw (kind_as y e ss x ∙ ek, kept_pieces, nothing (m ((pdu_at f w (2 * q + 7 * j)).link ∷ [])) (pdu_at f w (2 * q + 7 * j)), append-nil);
        within = λ i h. within_front (24 * q) f u w (5 * q + 8 * i) (8 * q) (omega (arith, pieces_room)) counts_front (r.within i h);
        few = rw (infos_front (24 * q) u w (5 * q) t.pieces (omega (arith, pieces_room)) counts_front) (omega arith);
        indexed = at.indexed;
        more = s.most;
        most = omega arith;
        front = front_less (20 * q) (24 * q) u w (omega arith) counts_front;
        above = λ i h. beyond i h;
        size = s.size;
      }

      pub taken_asks : v ≡ Asks → key ≡ 64 * link + 0 → TakenIn fcs f w q rows t j a u (record { counts = sat.rows; pieces = t.pieces; near = near }) a
      unfolding kind_shown counted brought is_wrong
      taken_asks e ek = counted_way Asks asks e refl (λ d. refl) (λ c p. refl) (λ m c. counted_session m w (6 * q) t.counts j c link u sat.rows key up.other s (counted (m (link ∷ [])) asks) refl refl (omega arith))

      opens_zero : (d : ℕ) → d ≡ 0 → v ≡ Opens d → key ≡ 64 * link + d → TakenIn fcs f w q rows t j a u (record { counts = sat.rows; pieces = t.pieces; near = near }) a
      unfolding kind_shown counted brought is_wrong
      opens_zero d z e ek = counted_way (Opens d) (opens zero) e (rw z) (λ i. refl) (λ c p. refl) (λ m c. counted_session m w (6 * q) t.counts j c link u sat.rows key up.other s (counted (m (link ∷ [])) (opens zero)) refl refl (omega arith))

      opens_more : (d e' : ℕ) → d ≡ suc e' → v ≡ Opens d → key ≡ 64 * link + d → TakenIn fcs f w q rows t j a u (record { counts = sat.rows; pieces = t.pieces; near = near }) a
      unfolding kind_shown counted brought is_wrong
      opens_more d e' z e ek =
          let h : d < 64 = rw e at is.borne in
          counted_way (Opens d) (opens (suc e')) e (rw z) (λ i. refl) (λ c p. refl)
          (λ m c. counted_link m w (6 * q) t.counts j c link u sat.rows key up.other s (suc e') (omega arith) (omega arith) (counted (m (link ∷ [])) (opens (suc e'))) refl (λ i. refl) (omega arith))

      pub taken_opens : (d : ℕ) → v ≡ Opens d → key ≡ 64 * link + d → TakenIn fcs f w q rows t j a u (record { counts = sat.rows; pieces = t.pieces; near = near }) a
      taken_opens zero e ek = opens_zero zero refl e ek
      taken_opens (suc d) e ek = opens_more (suc d) d refl e ek

    module _ (i : Info) (e : v ≡ Carries i) (u : List ℕ) (eu : u ≡ put_words w (5 * q + 8 * t.pieces) (row_of (part_of w (2 * q + 7 * j) table i) (long w (2 * q + 7 * j + 5)))) where
      held : Carried w (2 * q + 7 * j) i
      held = rw e at is.borne

      part : Part
      part = part_of w (2 * q + 7 * j) table i

      row_room : 4 * (5 * q + 8 * t.pieces) + 32 ≤ 24 * q
      row_room = omega (arith, r.table, held.less, r.quarter)

      pre : PutPre w (5 * q + 8 * t.pieces) part
      unfolding part
      pre = take_put w (2 * q + 7 * j) table i (5 * q + 8 * t.pieces) part (take_here i held) refl

      eu' : u ≡ put_words w (5 * q + 8 * t.pieces) (row_of part (long w (2 * q + 7 * j + 5)))
      unfolding part
      eu' = eu

      front_row : Front (4 * (5 * q + 8 * t.pieces)) u w
      front_row = rw eu (front_puts (4 * (5 * q + 8 * t.pieces)) (row_of (part_of w (2 * q + 7 * j) table i) (long w (2 * q + 7 * j + 5))) w (5 * q + 8 * t.pieces) (omega arith))

      inside : i.start + i.len ≤ cond i.joined (8 * q) (length f)
      inside = rw held.joined (go (eqb (word w (2 * q + 7 * j + 2)) 1) r.inside.inside) where
        go : (b : Bool) → word w (2 * q + 7 * j + 3) + word w (2 * q + 7 * j + 4) ≤ cond b (8 * q) (length f) → i.start + i.len ≤ cond b (8 * q) (length f)
        go true h = let z : word w (2 * q + 7 * j + 3) + word w (2 * q + 7 * j + 4) ≤ 8 * q = h in omega (arith, held.inside)
        go false h = let z : word w (2 * q + 7 * j + 3) + word w (2 * q + 7 * j + 4) ≤ length f = h in omega (arith, held.inside)

      piece_is : piece_at f u (5 * q + 8 * t.pieces) ≡ part_piece f w part (long w (2 * q + 7 * j + 5))
      unfolding part part_of
      piece_is = row_piece f w (5 * q + 8 * t.pieces) part (long w (2 * q + 7 * j + 5)) pre u eu' (8 * q) (omega arith) inside

      -- the counts lie behind the pieces
      counts_kept : Agree (6 * q) (6 * q + 4 * t.counts) u w
      counts_kept k lo hi =
          rw eu
          (puts_above (row_of (part_of w (2 * q + 7 * j) table i) (long w (2 * q + 7 * j + 5))) w (5 * q + 8 * t.pieces) k
          (omega (arith, row_room, row_long (part_of w (2 * q + 7 * j) table i) (long w (2 * q + 7 * j + 5)))))

      index_kept : Indexed u (count_index (6 * q)) t.counts
      unfolding count_index
      index_kept = indexed_agree w (count_index (6 * q)) t.counts r.indexed u
          (λ k h. long_agree u w (6 * q + 4 * k) (counts_kept (6 * q + 4 * k) (omega arith) (omega arith)) (counts_kept (6 * q + 4 * k + 1) (omega arith) (omega arith)))
          (λ k lo hi. rw eu (puts_above (row_of (part_of w (2 * q + 7 * j) table i) (long w (2 * q + 7 * j + 5))) w (5 * q + 8 * t.pieces) k (omega (arith, row_room, row_long (part_of w (2 * q + 7 * j) table i) (long w (2 * q + 7 * j + 5))))))

      -- the row means the piece that is defined
      piece_as : (m : Key → Counts) → Counted m w (6 * q) t.counts j →
          part_piece f w part (long w (2 * q + 7 * j + 5)) ≡ piece_of (m ((pdu_at f w (2 * q + 7 * j)).link ∷ [])) (pdu_at f w (2 * q + 7 * j)) i.dlci (take i.len (drop i.start (cond i.joined w f)))
      unfolding part_piece piece_of part_of part pdu_at count_index
      piece_as m c =
          let z : 64 * (word w (2 * q + 7 * j) / 2) + 0 ≡ 64 * (word w (2 * q + 7 * j) / 2) = omega arith in
          rw (z, c.sessions (word w (2 * q + 7 * j) / 2), c.links (word w (2 * q + 7 * j) / 2) i.dlci held.least held.most)

      list_is : pieces_from f u (5 * q) 0 (t.pieces + 1) ≡ pieces_from f w (5 * q) 0 t.pieces ++ (part_piece f w part (long w (2 * q + 7 * j + 5)) ∷ [])
      list_is =
          let z : 0 + t.pieces ≡ t.pieces = omega arith in
          let k : pieces_from f u (5 * q) 0 t.pieces ≡ pieces_from f w (5 * q) 0 t.pieces =
          pieces_front (4 * (5 * q + 8 * t.pieces)) f u w (5 * q) 0 t.pieces (8 * q) (omega arith) front_row (omega arith) (λ n h. r.within n (omega arith)) in
          rw (add-one, pieces_snoc f u (5 * q) 0 t.pieces, z, k, piece_is)

      len_is : word u (5 * q + 8 * t.pieces + 5) % 65536 ≡ i.len
      unfolding part part_of
      len_is = row_len f w (5 * q + 8 * t.pieces) part (long w (2 * q + 7 * j + 5)) pre u eu'

      row_in : Within f u (5 * q + 8 * t.pieces) (8 * q)
      unfolding part part_of
      row_in = row_within f w (5 * q + 8 * t.pieces) part (long w (2 * q + 7 * j + 5)) pre u eu' (8 * q) inside held.least held.most

      taken_row : (near : Near) → TakenIn fcs f w q rows t j a u (record { counts = t.counts; pieces = t.pieces + 1; near = near }) a
      unfolding kind_shown counted brought infos_of is_wrong
      taken_row near = record {
        wrongs = none_wrong (Carries i) (kind_shown f w (Carries i)) e refl (λ d. refl);
        counts = λ m ss x c.
            rw (kind_as (Carries i) e ss x)
            (counted_agree (put m ((pdu_at f w (2 * q + 7 * j)).link ∷ []) (m ((pdu_at f w (2 * q + 7 * j)).link ∷ []))) u w (6 * q) t.counts (j + 1) counts_kept
            (counted_none m w (6 * q) t.counts j c (pdu_at f w (2 * q + 7 * j)).link passed refl));
        list = λ m ss x c. list_is ∙ rw (kind_as (Carries i) e ss x, piece_as m c);
        within = λ n h. split≤ (suc n) t.pieces
            (λ l. within_front (4 * (5 * q + 8 * t.pieces)) f u w (5 * q + 8 * n) (8 * q) (omega arith) front_row (r.within n l))
            (λ l. let y : n ≡ t.pieces = omega arith in rw y (row_in));
        few = rw add-one (omega (arith, infos_front (4 * (5 * q + 8 * t.pieces)) u w (5 * q) t.pieces (omega arith) front_row, len_is, held.less));
        indexed = index_kept;
        more = omega arith;
        most = omega arith;
        front = front_less (20 * q) (4 * (5 * q + 8 * t.pieces)) u w (omega arith) front_row;
        above = λ n h. rw eu (puts_above (row_of (part_of w (2 * q + 7 * j) table i) (long w (2 * q + 7 * j + 5))) w (5 * q + 8 * t.pieces) n (omega (arith, row_room, row_long (part_of w (2 * q + 7 * j) table i) (long w (2 * q + 7 * j + 5)))));
        size = rw eu (length_puts (row_of (part_of w (2 * q + 7 * j) table i) (long w (2 * q + 7 * j + 5))) w (5 * q + 8 * t.pieces));
      }

    pub taken_piece : (i : Info) → v ≡ Carries i → (x : Tree) → x ≡ count_index (6 * q) →
        (u : List ℕ) → u ≡ put_words w (5 * q + 8 * t.pieces) (row_of (part_of w (2 * q + 7 * j) (record { at = x; count = t.counts }) i) (long w (2 * q + 7 * j + 5))) →
        (near : Near) → TakenIn fcs f w q rows t j a u (record { counts = t.counts; pieces = t.pieces + 1; near = near }) a
    taken_piece i e x ex u eu near = taken_row i e u (rw ex at eu) near

gather_start : (fcs : Bool) (f w : List ℕ) (made rows : ℕ) (near : Near) → PiecesBegun f w made rows →
    Gathering fcs f (pdus_from f w (2 * (length f / 4)) 0 made) w w made rows (record { counts = 0; pieces = 0; near = near }) 0 (replicate {0} {A = ℕ} 64 0)
unfolding pieces_from infos_of pays_of pieces
gather_start fcs f w made rows near p =
    let z : made - 0 ≡ made = omega arith in
    record {
      all = omega arith;
      signalled = p.pre.signalled;
      states = no_counts;
      counted = counted_start w (6 * (length f / 4));
      indexed = p.indexed;
      counts = omega arith;
      took = omega arith;
      within = λ i h. absurd (omega arith);
      few = omega arith;
      same = rw (z, judged_is fcs (pdus_from f w (2 * (length f / 4)) 0 made));
      long = refl;
      rare = λ e. omega (arith, get_d_zeros 64 e);
      wrongs = λ e h. rw (z, get_d_zeros 64 e, judged_is fcs (pdus_from f w (2 * (length f / 4)) 0 made)) (omega arith);
      size = refl;
    }

taken_is : (t : Taken) (a b : ℕ) → t.counts ≡ a → t.pieces ≡ b → t ≡ record { counts = a; pieces = b; near = t.near }
taken_is t a b e g = rw (← e, ← g)

pub gather_begun : (fcs : Bool) (f w : List ℕ) (made rows : ℕ) (t : Taken) → t.counts ≡ 0 → t.pieces ≡ 0 → PiecesBegun f w made rows →
    Gathering fcs f (pdus_from f w (2 * (length f / 4)) 0 made) w w made rows t 0 (replicate {0} {A = ℕ} 64 0)
gather_begun fcs f w made rows t e g p = rw (← taken_is t 0 0 e g) at (gather_start fcs f w made rows t.near p)

module _ (fcs : Bool) (f : List ℕ) (ps : List Pdu) (w₀ w : List ℕ) (made rows : ℕ) (t : Taken) (j : ℕ) (v : List ℕ) (g : Gathering fcs f ps w₀ w made rows t j v) where
  pub gather_ready : j < made → Ready f w (length f / 4) rows t j v
  gather_ready h = record {
    quarter = refl;
    lent = reassembled_lent f w made ps g.signalled.pdus j h;
    inside = g.signalled.pdus.placed j h;
    channels = g.signalled.few;
    tries = g.signalled.tries;
    counts = g.counts;
    pieces = g.took;
    small = g.signalled.pdus.small;
    few = omega (arith, g.signalled.pdus.few);
    table = omega (arith, g.few, g.signalled.pdus.few, pays_next w (2 * (length f / 4)) j, pays_mono w (2 * (length f / 4)) (j + 1) made (omega arith));
    room = g.signalled.pdus.room;
    values = g.counted.few;
    indexed = g.indexed;
    within = g.within;
    wrongs = g.rare;
  }

  module _ (h : j < made) (u : List ℕ) (r : Taken) (v' : List ℕ) (taken : TakenIn fcs f w (length f / 4) rows t j v u r v') where
    rows_kept : Agree (2 * (length f / 4)) (2 * (length f / 4) + 7 * made) u w
    rows_kept n lo hi = front_word (20 * (length f / 4)) u w n (omega (arith, g.signalled.pdus.few)) taken.front

    rest_kept : pdus_from f u (2 * (length f / 4)) (j + 1) (made - (j + 1)) ≡ pdus_from f w (2 * (length f / 4)) (j + 1) (made - (j + 1))
    rest_kept = pdus_agree f u w (2 * (length f / 4)) (j + 1) (made - (j + 1)) made (8 * (length f / 4)) (omega arith) rows_kept (front_less (8 * (length f / 4)) (20 * (length f / 4)) u w (omega arith) taken.front) g.signalled.pdus.placed

    pays_kept : pays_of u (2 * (length f / 4)) (j + 1) ≡ pays_of w (2 * (length f / 4)) j + word w (2 * (length f / 4) + 7 * j + 4)
    pays_kept = pays_agree u w (2 * (length f / 4)) (j + 1) (λ n lo hi. rows_kept n lo (omega arith)) ∙ pays_next w (2 * (length f / 4)) j

    wrongs_at : (e : ℕ) → e < 64 → get_or v' e 0 ≡ get_or v e 0 + cond (is_wrong e (kind_of fcs (signals ps) (pdu_at f w (2 * (length f / 4) + 7 * j)))) 1 0
    wrongs_at e l = taken.wrongs (signals ps) g.signalled.tells e (omega (arith, g.long))

    pub gather_turn : length v' ≡ length v → Gathering fcs f ps w₀ u made rows r (j + 1) v'
    unfolding run wrong_on
    gather_turn lv =
        let p : Pdu = pdu_at f w (2 * (length f / 4) + 7 * j) in
        record {
          all = omega arith;
          signalled = signalled_front f u w made ps rows taken.front taken.above taken.size g.signalled;
          states = put g.states ((pdu_at f w (2 * (length f / 4) + 7 * j)).link ∷ []) (counted (g.states ((pdu_at f w (2 * (length f / 4) + 7 * j)).link ∷ [])) (kind_of fcs (signals ps) (pdu_at f w (2 * (length f / 4) + 7 * j))));
          counted = taken.counts g.states (signals ps) g.signalled.tells g.counted;
          indexed = taken.indexed;
          counts = omega (arith, taken.more, g.counts);
          took = omega (arith, taken.most, g.took);
          within = taken.within;
          few = omega (arith, taken.few, g.few, pays_kept);
          same = rw (taken.list g.states (signals ps) g.signalled.tells g.counted, rest_kept, append_assoc) (rw (pdus_next f w (2 * (length f / 4)) j made h) at g.same);
          long = lv ∙ g.long;
          rare = λ e. split≤ 64 e (λ l. let o : length v' ≤ e = omega (arith, lv, g.long) in rw (get_or-eq_default v' 0 o) (omega arith)) (λ l. rw (wrongs_at e l) (most (is_wrong e (kind_of fcs (signals ps) (pdu_at f w (2 * (length f / 4) + 7 * j)))) (g.rare e)));
          wrongs = λ e l. rw (wrongs_at e l, rest_kept) (sum (get_or v e 0) (cond (is_wrong e (kind_of fcs (signals ps) (pdu_at f w (2 * (length f / 4) + 7 * j)))) 1 0) _ _ (rw (pdus_next f w (2 * (length f / 4)) j made h) at (g.wrongs e l)));
          size = taken.size ∙ g.size;
        } where
          most : (b : Bool) {n : ℕ} → n ≤ j → n + cond b 1 0 ≤ j + 1
          most true l = omega arith
          most false l = omega arith

          sum : (a b c n : ℕ) → a + (b + c) ≡ n → a + b + c ≡ n
          sum a b c n e = omega arith

  pub gather_end : made ≤ j → Pieced f w t.pieces (pieces (judged fcs ps))
  unfolding run
  gather_end h =
      let z : j ≡ made = omega (arith, g.all) in
      record {
        list = sym (append-nil (pieces_from f w (5 * (length f / 4)) 0 t.pieces)) ∙ (rw (pdus_none f w (2 * (length f / 4)) j made h) at g.same);
        within = g.within;
        few = omega (arith, g.few, g.signalled.pdus.few, ap (pays_of w (2 * (length f / 4))) z);
        small = g.signalled.pdus.small;
        room = g.signalled.pdus.room;
      }

  pub gather_wrongs : made ≤ j → (e : ℕ) → e < 64 → get_or v e 0 ≡ wrong_on e (kinds (judged fcs ps))
  unfolding wrong_on
  gather_wrongs h e l = let z = rw (pdus_none f w (2 * (length f / 4)) j made h) at (g.wrongs e l) in omega (arith, z)

pub gathered : (fcs : Bool) (f w₀ w : List ℕ) (made rows : ℕ) (t : Taken) (j : ℕ) (v : List ℕ) → Gathering fcs f (pdus_from f w₀ (2 * (length f / 4)) 0 made) w₀ w made rows t j v → made ≤ j →
    ReadPieces fcs f w₀ made w (record { pdus = made; pieces = t.pieces; wrong = v })
gathered fcs f w₀ w made rows t j v g h = record {
  pdus = refl;
  pieced = gather_end fcs f (pdus_from f w₀ (2 * (length f / 4)) 0 made) w₀ w made rows t j v g h;
  wrongs = gather_wrongs fcs f (pdus_from f w₀ (2 * (length f / 4)) 0 made) w₀ w made rows t j v g h;
  size = g.size;
}

-- ---- the table of counts empty, and then all PDUs

module _ (f w : List ℕ) (made rows : ℕ) (p : PiecesPre f w made rows) (x : Tree) (ex : x ≡ count_index (6 * (length f / 4))) where
  pub count_clear : ClearPre w x
  unfolding count_index
  count_clear = rw ex (record { some = omega arith; many = omega (arith, p.signalled.pdus.small); room = omega (arith, p.signalled.pdus.few, p.signalled.pdus.room) })

  module _ (v : List ℕ) (c : Cleared w x v) where
    front : Front (20 * (length f / 4)) v w
    unfolding count_index
    front = front_less (20 * (length f / 4)) (4 * (6 * (length f / 4) + 4 * ((6 * (length f / 4)) / 42))) v w (omega arith) (rw ex at c.front)

    above : (n : ℕ) → 6 * (length f / 4) + (6 * (length f / 4)) / 7 ≤ n → word v n ≡ word w n
    unfolding count_index
    above n h = (rw ex at c.beyond) n (omega (arith, p.signalled.pdus.few))

    kept : Signalled f v made (pdus_from f w (2 * (length f / 4)) 0 made) rows
    kept = signalled_front f v w made (pdus_from f w (2 * (length f / 4)) 0 made) rows front above c.size p.signalled

    pub pieces_begun : PiecesBegun f v made rows
    pieces_begun = record { pre = record { signalled = rw kept.pdus.list kept }; indexed = rw ex at c.indexed }

    pub pieces_cleared : (fcs : Bool) (u : List ℕ) (r : Gathered) → ReadPieces fcs f v made u r → ReadPieces fcs f w made u r
    pieces_cleared fcs u r g = record { pdus = g.pdus; pieced = rw kept.pdus.list at g.pieced; wrongs = rw kept.pdus.list at g.wrongs; size = g.size ∙ c.size }

-- ---- from the packets on

module _ (f w : List ℕ) (packets : ℕ) (v : List ℕ) (made : ℕ) (ra : Reassembled f v made (pdus (packets_from f w 0 packets))) (x : List ℕ) (rows : ℕ) (rc : ReadChannels f v made x rows) where
  -- the PDUs in the table are those of the packets
  table_pdus : pdus_from f x (2 * (length f / 4)) 0 made ≡ pdus (packets_from f w 0 packets)
  table_pdus = rc.signalled.pdus.list ∙ ra.list

  pub gathers : (fcs : Bool) (u : List ℕ) (r : Gathered) → ReadPieces fcs f x made u r → Gathers fcs f w packets u r
  gathers fcs u r g = record {
    many = g.pdus ∙ sym (length_pdus f x (2 * (length f / 4)) 0 made) ∙ ap length table_pdus;
    pieced = rw table_pdus at g.pieced;
    wrongs = rw table_pdus at g.wrongs;
  }
