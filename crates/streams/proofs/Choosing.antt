-- The walk that chooses a DLCI.
use Prim.Native.Nat.{ℕ, zero, suc, ◌+◌, ◌-◌, ◌*◌, ◌/◌, ◌<◌, ◌≤◌}
use mathlib.Core.Path.{◌≡◌, refl, sym, ap, ◌∙◌}
use mathlib.Core.Bool.{Bool, true, false, cond, ◌&&◌}
use mathlib.Core.List.{List, map}
use mathlib.Core.Option.{some}
use native.Mathlib.Omega.{arith}
use native.Mathlib.Numerals.{add-one}
use lib.ListN.{length, get_or, set, replicate, length-set}
use lib.Seq.{get_or-set_other}
use lib.Dec.{eqb, ltb}
use borrow.Author.Tests.{lt-ltb, le-ltb}
use Rattle.laws.proofs.Choice.{split≡, no_way}
use Rattle.words.specs.Words.{word}
use Rattle.words.specs.Front.{Front}
use Rattle.words.proofs.Front.{front_refl, front_then, front_word}
use Rattle.rfcomm.specs.Pieces.{Piece}
use Rattle.rfcomm.specs.PieceTable.{piece_at, pieces_from, Within}
use Rattle.rfcomm.proofs.PieceRows.{pieces_front}
use Rattle.spans.specs.Parts.{bit}
use Rattle.spans.specs.Spans.{on_dlci}
use Rattle.split.specs.Rows.{all, tail_at, key_at, Linked, Laid}
use Rattle.split.proofs.Fronts.{laid_front}
use Rattle.split.specs.declared.Plan.{Plan}
use Rattle.measuring.specs.Counting.{CountIs}
use Rattle.measuring.specs.declared.Sums.{Sums}
use Rattle.outcome.specs.Import.{on_channel, first, has_frame, chosen}
use Rattle.streams.specs.Streams.{channel_of, plan_of, table_pieces, Tabled, Ready, below, Accountable, stream_summed, stream_of, choice_of, Chooses, Channel}
use Rattle.std.specs.Prelude.{None, Some}
use Rattle.streams.specs.declared.Stream.{Stream}
use Rattle.streams.proofs.Summing.{accountable, stream_summed_law}

-- ---- where the tables lie

within_more : (f w : List ℕ) (at a b : ℕ) → a ≤ b → Within f w at a → Within f w at b
within_more f w at a b h i = record { inside = more (eqb (word w (at + 5) / 65536) 1) i.inside; least = i.least; most = i.most } where
  more : {n : ℕ} (t : Bool) → n ≤ cond t a (length f) → n ≤ cond t b (length f)
  more true g = omega arith
  more false g = g

linked_any : (w : List ℕ) (q n d : ℕ) → Linked w (plan_of q n 0) → Linked w (plan_of q n d)
unfolding plan_of key_at tail_at
linked_any w q n d l = record { before = l.before }

module _ (f w : List ℕ) (n : ℕ) (ready : Ready f w n) where
  t : Tabled f w n
  t = ready.tabled

  pub laid_table : (d : ℕ) → Laid f w (plan_of (length f / 4) n d)
  unfolding plan_of
  laid_table d = record {
    rows = omega (arith, t.few);
    chain = omega arith;
    linked = linked_any w (length f / 4) n d ready.linked;
    ends = omega arith;
    area = omega (arith, t.few);
    many = omega (arith, t.few, t.small);
    sum = omega (arith, t.few, t.small);
    room = omega (arith, t.few, t.room);
    within = λ i h. within_more f w (5 * (length f / 4) + 8 * i) (8 * (length f / 4)) (4 * (6 * (length f / 4) + n)) (omega arith) (t.within i h);
  }

  -- work changed above the lengths held
  module _ (u : List ℕ) (s : Front (below f n) u w) where
    pub table_same : table_pieces f u n ≡ table_pieces f w n
    table_same = pieces_front (below f n) f u w (5 * (length f / 4)) 0 n (8 * (length f / 4)) (omega (arith, t.few)) s (omega arith) (λ j h. t.within j (omega arith))

    pub laid_later : length u ≡ length w → (p : Plan) (d : ℕ) → p ≡ plan_of (length f / 4) n d → Laid f u p
    unfolding plan_of
    laid_later e p d ep = rw ep (laid_front f u w (plan_of (length f / 4) n d) (laid_table d) s e)

    pub all_same : (p : Plan) (d : ℕ) → p ≡ plan_of (length f / 4) n d → all f u p ≡ on_dlci d (table_pieces f w n)
    unfolding plan_of
    all_same p d ep = rw (ep, table_same)

    pub dlci_same : (i d : ℕ) → i < n → d ≡ word u (5 * (length f / 4) + 8 * i) → d ≡ word w (5 * (length f / 4) + 8 * i)
    dlci_same i d h e = e ∙ front_word (below f n) u w (5 * (length f / 4) + 8 * i) (omega (arith, t.few)) s

pub front_plan : (f u w : List ℕ) (n d : ℕ) (p : Plan) → p ≡ plan_of (length f / 4) n d → Front (4 * p.held) u w → Front (below f n) u w
unfolding plan_of
front_plan f u w n d p ep s = rw ep at s

-- ---- the walk

-- the DLCI is on the channel and has a span which unpacks
abbrev pub Fit : Channel → List Piece → ℕ → Bool
Fit channel ps d = on_channel (channel_of channel) d && has_frame ps d

-- the DLCIs of the pieces from the i-th on
abbrev pub dlcis : List ℕ → List ℕ → ℕ → ℕ → List ℕ
dlcis f w n i = map (λ p. p.dlci) (pieces_from f w (5 * (length f / 4)) i (n - i))

pub record Choosing (f w₀ : List ℕ) (n : ℕ) (channel : Channel) (w : List ℕ) (tried : List Bool) (i : ℕ) : Type 0 where
  pub within : i ≤ n
  pub long : length w ≡ length w₀
  pub front : Front (below f n) w w₀
  pub size : length tried ≡ 64
  pub bad : (e : ℕ) → get_or tried e false ≡ true → has_frame (table_pieces f w₀ n) e ≡ false
  pub same : first (Fit channel (table_pieces f w₀ n)) (dlcis f w₀ n i) ≡ chosen (channel_of channel) (table_pieces f w₀ n)

untried : (n e : ℕ) → get_or (replicate {0} {A = Bool} n false) e false ≡ false
untried zero e = refl
untried (suc n) zero = refl
untried (suc n) (suc e) = untried n e

-- a bit is over 0 where it says yes
ltb_bit : (b : Bool) → ltb 0 (bit b) ≡ b
ltb_bit true = refl
ltb_bit false = refl

pub choosing_start : (f w : List ℕ) (n : ℕ) (channel : Channel) → Choosing f w n channel w (replicate {0} {A = Bool} 64 false) 0
unfolding chosen
choosing_start f w n channel =
    let z : n - 0 ≡ n = omega arith in
    record { within = omega arith; long = refl; front = front_refl (below f n) w; size = refl; bad = λ e h. no_way h (untried 64 e); same = rw z }

module _ (f w₀ : List ℕ) (n : ℕ) (channel : Channel) (w : List ℕ) (tried : List Bool) (i : ℕ) (v : Choosing f w₀ n channel w tried i) where
  pub choosing_end : n ≤ i → Chooses f w₀ n channel w None
  unfolding first pieces_from choice_of
  choosing_end h =
      let z : n - i ≡ 0 = omega arith in
      record { chooses = rw (← (rw z at v.same)); front = v.front; told = λ s e. impossible e; small = λ s e. impossible e } where
        impossible : {G : Type 0} {s : Stream} → None ≡ Some s → G
        impossible e = let y : ◌≡◌ {A = ℕ} 0 1 = cc in absurd (omega arith)

  module _ (t : Ready f w₀ n) (h : i < n) (d : ℕ) (ed : d ≡ word w (5 * (length f / 4) + 8 * i)) where
    mine : word w₀ (5 * (length f / 4) + 8 * i) ≡ d
    mine = sym (dlci_same f w₀ n t w v.front i d h ed)

    pub choosing_small : d < 64
    choosing_small = rw mine at (t.tabled.within i h).most

    more : first (Fit channel (table_pieces f w₀ n)) (dlcis f w₀ n i) ≡ cond (Fit channel (table_pieces f w₀ n) d) (some d) (first (Fit channel (table_pieces f w₀ n)) (dlcis f w₀ n (i + 1)))
    unfolding first pieces_from piece_at
    more = let z : n - i ≡ suc (n - (i + 1)) = omega arith in rw (z, mine, add-one i)

    next : (u : List ℕ) (o : List Bool) → length u ≡ length w → Front (below f n) u w → length o ≡ 64 → ((e : ℕ) → get_or o e false ≡ true → has_frame (table_pieces f w₀ n) e ≡ false) → Fit channel (table_pieces f w₀ n) d ≡ false → Choosing f w₀ n channel u o (i + 1)
    next u o k b y x e = record {
      within = omega arith;
      long = k ∙ v.long;
      front = front_then (below f n) u w w₀ b v.front;
      size = y;
      bad = x;
      same = rw (more, e) at v.same;
    }

    module _ (on : Bool) (eo : on ≡ on_channel (channel_of channel) d) where
      pub choosing_skip : on ≡ false → Choosing f w₀ n channel w tried (i + 1)
      choosing_skip e = next w tried refl (front_refl (below f n) w) v.size v.bad (rw (← eo, e))

      module _ (e : on ≡ true) where
        fit : (b : Bool) → has_frame (table_pieces f w₀ n) d ≡ b → Fit channel (table_pieces f w₀ n) d ≡ b
        fit b g = rw (← eo, e) g

        pub choosing_known : get_or tried d false ≡ true → Choosing f w₀ n channel w tried (i + 1)
        choosing_known x = next w tried refl (front_refl (below f n) w) v.size v.bad (fit false (v.bad d x))

        module _ (p : Plan) (ep : p ≡ plan_of (length f / 4) n d) where
          pub choosing_laid : Laid f w p
          choosing_laid = laid_later f w₀ n t w v.front v.long p d ep

          module _ (u : List ℕ) (s : Sums) (c : CountIs f w p u s) where
            has_bit : s.tally.frames ≡ bit (has_frame (table_pieces f w₀ n) d)
            unfolding has_frame
            has_bit = rw (all_same f w₀ n t w v.front p d ep) at c.frame

            has_is : ltb 0 s.tally.frames ≡ has_frame (table_pieces f w₀ n) d
            has_is = ap (ltb 0) has_bit ∙ ltb_bit (has_frame (table_pieces f w₀ n) d)

            has_not : s.tally.frames ≤ 0 → has_frame (table_pieces f w₀ n) d ≡ false
            has_not g = sym has_is ∙ le-ltb 0 s.tally.frames g

            pub choosing_bad : s.tally.frames ≤ 0 → length u ≡ length w → (o : List Bool) → o ≡ set tried d true → Choosing f w₀ n channel u o (i + 1)
            choosing_bad g k o es =
                rw es (next u (set tried d true) k (front_plan f u w n d p ep c.front) (length-set tried d true ∙ v.size)
                (λ x y. split≡ x d (λ z. rw z (has_not g)) (λ z. v.bad x (sym (get_or-set_other tried d x true false z) ∙ y)))
                (fit false (has_not g)))

            pub choosing_account : Accountable d s
            choosing_account = accountable f w p u s c d (omega (arith, choosing_small))

            pub choosing_found : 0 < s.tally.frames → (r : Stream) → r ≡ stream_summed d s → Chooses f w₀ n channel u (Some r)
            unfolding choice_of stream_summed plan_of
            choosing_found g r er =
                let a : stream_summed d s ≡ stream_of (table_pieces f w₀ n) d = stream_summed_law f w p u s c (table_pieces f w₀ n) d (all_same f w₀ n t w v.front p d ep) in
                let o : chosen (channel_of channel) (table_pieces f w₀ n) ≡ some d = sym v.same ∙ more ∙ rw (fit true (sym has_is ∙ lt-ltb 0 s.tally.frames g)) in
                rw er (record {
                  chooses = rw o (ap Some a);
                  front = front_then (below f n) u w w₀ (front_plan f u w n d p ep c.front) v.front;
                  told = λ x e. (let y : x.dlci ≡ d = cc in rw y (rw ep at c.told));
                  small = λ x e. (let y : x.dlci ≡ d = cc in rw y choosing_small);
                })
