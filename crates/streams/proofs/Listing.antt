-- What stands in work once a DLCI is chosen; what the list of its spans is, by the definition of import; and how it is written.
use Prim.Native.Nat.{ℕ, ◌+◌, ◌*◌, ◌/◌, ◌<◌, ◌≤◌}
use mathlib.Core.Path.{◌≡◌, refl, sym, ap, ◌∙◌}
use mathlib.Core.List.{List, [], ◌∷◌}
use mathlib.Core.Option.{Option, none, some}
use native.Mathlib.Omega.{arith}
use lib.ListN.{length}
use Rattle.laws.specs.Answers.{gives, refuses}
use Rattle.laws.specs.Stores.{Writes}
use Rattle.words.specs.Front.{Front}
use Rattle.words.proofs.Front.{front_refl, front_then, front_less}
use Rattle.items.specs.Items.{span_list}
use Rattle.rfcomm.specs.Pieces.{Piece}
use Rattle.rfcomm.specs.PieceTable.{infos_of}
use Rattle.rfcomm.proofs.PieceRows.{pieces_front, infos_front, within_front}
use Rattle.spans.specs.Spans.{spans, on_dlci}
use Rattle.split.specs.Rows.{all, Laid}
use Rattle.split.specs.Walks.{LinkRoom, LinkedTo, Lying}
use Rattle.split.proofs.Fronts.{laid_lying}
use Rattle.split.specs.declared.Plan.{Plan}
use Rattle.measuring.specs.Counting.{CountIs}
use Rattle.measuring.specs.declared.Sums.{Sums}
use Rattle.writing.specs.Writing.{ListPre}
use Rattle.outcome.specs.Import.{chosen, listed, given}
use Rattle.streams.specs.Streams.{channel_of, plan_of, table_pieces, Tabled, Ready, below, Accountable, stream_summed, stream_of, choice_of, Chooses, Leaves, ChoosesStream, CountsStream, kept_list, WriteListPre, Channel, Choice}
use Rattle.streams.specs.declared.Stream.{Stream}
use Rattle.std.specs.Prelude.{None, Some}
use Rattle.streams.proofs.Choosing.{laid_table, laid_later, all_same, front_plan}
use Rattle.streams.proofs.Summing.{accountable, stream_summed_law}

-- ---- what import gives, by the choice

choice_none : (ps : List Piece) (o : Option ℕ) → None ≡ choice_of ps o → o ≡ none
unfolding choice_of
choice_none ps none e = refl
choice_none ps (some d) e = let z : ◌≡◌ {A = ℕ} 0 1 = cc in absurd (omega arith)

choice_some : (ps : List Piece) (o : Option ℕ) (s : Stream) → Some s ≡ choice_of ps o → (o ≡ some s.dlci) × (s ≡ stream_of ps s.dlci)
unfolding choice_of stream_of
choice_some ps none s e = let z : ◌≡◌ {A = ℕ} 0 1 = cc in absurd (omega arith)
choice_some ps (some d) s e = let z : s ≡ stream_of ps d = cc in (rw z, rw z)

module _ (ps : List Piece) (o : Option ℕ) (wrongs : ℕ → ℕ) (tail : ℕ) where
  pub given_none : None ≡ choice_of ps o → given (listed ps wrongs tail o) ≡ refuses 6 []
  unfolding given listed
  given_none e = rw (choice_none ps o e)

  module _ (s : Stream) (e : Some s ≡ choice_of ps o) where
    abbrev list : List ℕ
    list = span_list (spans (on_dlci s.dlci ps))

    pub list_needed : s.bytes ≡ length list
    unfolding stream_of
    list_needed = ap (λ (x : Stream). x.bytes) (choice_some ps o s e).1

    -- DLCI, spans, unfinished, the tail offset, the bytes written, the wrong frames of the DLCI, and where its bytes went; and the list
    pub given_some : given (listed ps wrongs tail o) ≡ gives (s.dlci ∷ s.spans ∷ s.unfinished ∷ tail ∷ s.bytes ∷ wrongs s.dlci ∷ s.in_spans ∷ s.dropped ∷ s.cleared ∷ s.left ∷ []) list
    unfolding given listed stream_of
    given_some =
        let v : Stream → List ℕ = λ x. s.dlci ∷ x.spans ∷ x.unfinished ∷ tail ∷ x.bytes ∷ wrongs s.dlci ∷ x.in_spans ∷ x.dropped ∷ x.cleared ∷ x.left ∷ [] in
        rw (choice_some ps o s e).0 (sym (ap (λ (x : Stream). gives (v x) list) (choice_some ps o s e).1))

-- ---- what is left in work

module _ (f w : List ℕ) (n : ℕ) (t : Ready f w n) (channel : Channel) (u : List ℕ) (c : Choice) (q : Chooses f w n channel u c) (k : length u ≡ length w) where
  leaves : (s : Stream) → c ≡ Some s → Leaves f (table_pieces f w n) (channel_of channel) n u s.dlci
  leaves s m = record {
    is = (choice_some (table_pieces f w n) (chosen (channel_of channel) (table_pieces f w n)) s (sym m ∙ q.chooses)).0;
    pieces = all_same f w n t u q.front (plan_of (length f / 4) n s.dlci) s.dlci refl;
    kept = record {
      laid = laid_later f w n t u q.front k (plan_of (length f / 4) n s.dlci) s.dlci refl;
      told = q.told s m;
      few = omega (arith, t.tabled.few);
      small = t.tabled.small;
    };
  }

  chooses_stream : ChoosesStream f w n channel u c
  chooses_stream = record { chooses = q.chooses; front = front_less (24 * (length f / 4)) (below f n) u w (omega arith) q.front; left = leaves; small = q.small }

-- ---- the list written

module _ (f u : List ℕ) (n d : ℕ) (out : List ℕ) (e : WriteListPre f u n d out) where
  pub write_plan : (length f / 4 ≤ 1048576) × (n ≤ 1048576)
  write_plan = (omega (arith, e.kept.small), omega (arith, e.kept.few, e.kept.small))

  module _ (p : Plan) (ep : p ≡ plan_of (length f / 4) n d) where
    pub write_lying : Lying f u p
    write_lying = laid_lying f u p (rw ep e.kept.laid)

    pub write_pre : ListPre f u p out
    unfolding plan_of
    write_pre = record {
      told = rw ep e.kept.told;
      small = rw ep e.kept.laid.sum;
      room = rw ep e.room;
    }

    pub written : (r : ℕ) (out' : List ℕ) → Writes out 0 (span_list (spans (all f u p))) r out' → Writes out 0 (kept_list f u n d) r out'
    written r out' x = rw ep at x

-- ---- the pieces linked first

module _ (f w : List ℕ) (n : ℕ) (t : Tabled f w n) (p : Plan) (ep : p ≡ plan_of (length f / 4) n 0) where
  pub link_room : LinkRoom w p (7 * (length f / 4))
  unfolding plan_of
  link_room =
      rw ep (record {
        rows = omega (arith, t.few);
        chain = omega arith;
        over = omega (arith, t.few);
        room = omega (arith, t.few, t.room);
        many = omega (arith, t.few, t.small);
      })

  module _ (u : List ℕ) (l : LinkedTo w p u) where
    front : Front (24 * (length f / 4)) u w
    unfolding plan_of
    front = front_less (24 * (length f / 4)) (4 * (6 * (length f / 4))) u w (omega arith) (rw ep at l.front)

    same : table_pieces f u n ≡ table_pieces f w n
    same = pieces_front (24 * (length f / 4)) f u w (5 * (length f / 4)) 0 n (8 * (length f / 4)) (omega (arith, t.few)) front (omega arith) (λ j h. t.within j (omega arith))

    pub link_ready : length u ≡ length w → Ready f u n
    link_ready e =
        let z : infos_of u (5 * (length f / 4)) n ≡ infos_of w (5 * (length f / 4)) n = infos_front (24 * (length f / 4)) u w (5 * (length f / 4)) n (omega (arith, t.few)) front in
        record {
          tabled = record {
            list = refl;
            within = λ i h. within_front (24 * (length f / 4)) f u w (5 * (length f / 4) + 8 * i) (8 * (length f / 4)) (omega (arith, t.few)) front (t.within i h);
            few = rw z t.few;
            small = t.small;
            room = rw e t.room;
          };
          linked = rw ep at l.linked;
        }

    pub link_chooses : length u ≡ length w → (channel : Channel) (v : List ℕ) (c : Choice) → Chooses f u n channel v c → length v ≡ length u → ChoosesStream f w n channel v c
    link_chooses e channel v c q k = let y = chooses_stream f u n (link_ready e) channel v c q k in record { chooses = rw same at y.chooses; front = front_then (24 * (length f / 4)) v u w y.front front; left = rw same at y.left; small = y.small }

    pub link_counts : (d : ℕ) (v : List ℕ) (x : Stream) → CountsStream f u n d v x → CountsStream f w n d v x
    link_counts d v x y = record { counts = rw same at y.counts; pieces = rw same at y.pieces; front = front_then (24 * (length f / 4)) v u w y.front front; kept = y.kept }

-- ---- those of a DLCI counted then

module _ (f w : List ℕ) (n : ℕ) (r : Ready f w n) (d : ℕ) (small : d < 256) (p : Plan) (ep : p ≡ plan_of (length f / 4) n d) where
  pub count_laid : Laid f w p
  count_laid = rw ep (laid_table f w n r d)

  module _ (u : List ℕ) (s : Sums) (c : CountIs f w p u s) where
    pub count_account : Accountable d s
    count_account = accountable f w p u s c d small

    pub counts_stream : length u ≡ length w → (x : Stream) → x ≡ stream_summed d s → CountsStream f w n d u x
    unfolding plan_of
    counts_stream k x e =
        let g : Front (below f n) u w = front_plan f u w n d p ep c.front in
        record {
          counts = e ∙ stream_summed_law f w p u s c (table_pieces f w n) d (all_same f w n r w (front_refl (below f n) w) p d ep);
          pieces = all_same f w n r u g (plan_of (length f / 4) n d) d refl;
          front = front_less (24 * (length f / 4)) (below f n) u w (omega arith) g;
          kept = record {
            laid = laid_later f w n r u g k (plan_of (length f / 4) n d) d refl;
            told = rw ep at c.told;
            few = omega (arith, r.tabled.few);
            small = r.tabled.small;
          };
        }
