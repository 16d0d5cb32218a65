-- The step of the machine by one piece, in the table.
use Prim.Native.Nat.{ℕ, suc, ◌+◌, ◌-◌, ◌*◌, ◌<◌, ◌≤◌}
use mathlib.Core.Path.{◌≡◌, refl, sym, ap, ◌∙◌, fun_ext}
use mathlib.Core.Logic.{◌≢◌}
use mathlib.Core.List.{List, ◌∷◌, ◌++◌}
use native.Mathlib.Omega.{arith}
use native.Mathlib.Numerals.{add-one}
use lib.ListN.{length, take, drop, length-append, length-drop}
use lib.Seq.{sets, length-sets, length-take-le, take-take, take_all}
use Rattle.laws.specs.Keys.{Key}
use Rattle.laws.proofs.Keys.{split_k, eq_eq_k, ne_eq_k}
use Rattle.laws.specs.Keyed.{step}
use Rattle.laws.proofs.Stores.{sets_append}
use Rattle.words.specs.Words.{word}
use Rattle.words.specs.Front.{Front}
use Rattle.words.proofs.Front.{front_refl, front_sets}
use Rattle.rfcomm.specs.PieceTable.{infos_of}
use Rattle.spans.specs.Scan.{rest_of, capped}
use Rattle.spans.specs.Spans.{scanner}
use Rattle.spans.specs.Bytewise.{AllQuiet}
use Rattle.spans.proofs.Bytewise.{quiet_scanned}
use Rattle.spans.proofs.Scans.{rest_le}
use Rattle.split.specs.Last.{lastn}
use Rattle.split.specs.Rows.{piece, dlci_at, tail_at, key_at, len_at, bytes_at, stream_of, held_in, held_of, stream_to, opened, Fits, joined, capped_length}
use Rattle.split.specs.Walks.{Lying, PutPre, GatherPre, JoinPre, Joined, Kept, Moved}
use Rattle.split.proofs.Fronts.{key_front, len_front, bytes_front, stream_front, held_front, lying_front, laid_lying}
use Rattle.split.specs.declared.Plan.{Plan}
use Rattle.split.proofs.Backs.{part_sets, sets_drop}
use Rattle.split.proofs.Lasts.{length_lastn, lastn_lastn, capped_le, capped_back}
use Rattle.split.proofs.Tables.{piece_key, piece_bytes, stream_mine, stream_other, length_bytes, stream_infos, infos_mono}

pub own_key : (w : List ℕ) (p : Plan) (i : ℕ) → dlci_at w p i ≡ p.dlci → key_at w p i ≡ p.dlci ∷ tail_at w p i
unfolding key_at
own_key w p i e = rw e

pub own_fits : (f w : List ℕ) (p : Plan) (i : ℕ) → dlci_at w p i ≡ p.dlci → Fits f w p i → held_of w p i ≤ length (stream_to f w p i)
own_fits f w p i e x = rw (own_key w p i e) (x.at (tail_at w p i))

module _ (f w : List ℕ) (p : Plan) (i : ℕ) (l : Lying f w p) (o : i < p.n) (x : held_of w p i ≤ length (stream_to f w p i)) where
  pub length_joined : length (joined f w p i) ≡ held_of w p i + len_at w p i
  unfolding joined
  length_joined =
      length-append (lastn (held_of w p i) (stream_to f w p i)) (bytes_at f w p i)
      ∙ rw (length_lastn (held_of w p i) (stream_to f w p i) x, length_bytes f w p l i o)

  pub joined_infos : length (joined f w p i) ≤ infos_of w p.rows p.n
  unfolding infos_of
  joined_infos =
      let a = length_joined in
      let c = stream_infos f w p l i (key_at w p i) (omega arith) in
      let d : infos_of w p.rows (suc i) ≤ infos_of w p.rows p.n = infos_mono w p.rows (suc i) p.n (omega arith) in
      omega arith

  pub joined_small : infos_of w p.rows p.n ≤ 1048576 → length (joined f w p i) ≤ 1048576
  joined_small s = omega (arith, joined_infos)

-- ---- the words of a piece

pub kept_own : (w : List ℕ) (p : Plan) (i : ℕ) → Kept w p i w
kept_own w p i = record { front = front_refl (4 * p.held) w; long = refl; held = λ j h. refl; ends = λ j h. refl }

-- what the words of the pieces before say stays true
module _ (f u w : List ℕ) (p : Plan) (l : Lying f w p) (i : ℕ) (o : i < p.n) (k : Kept w p i u) where
  held_kept : (j : ℕ) (q : Key) → j ≤ i → held_in u p j q ≡ held_in w p j q
  held_kept j q h = held_front f u w p l k.front j q (omega arith) (λ m g. k.held m (omega arith))

  pub joined_kept : (j : ℕ) → j ≤ i → joined f u p j ≡ joined f w p j
  unfolding joined
  joined_kept j h =
      rw (
        key_front f u w p l k.front j (omega arith),
        held_kept j (key_at w p j) h,
        stream_front f u w p l k.front j (key_at w p j) (omega arith),
        bytes_front f u w p l k.front j (omega arith),
      )

-- ---- the step

module _ (f w : List ℕ) (p : Plan) (i : ℕ) (l : Lying f w p) (o : i < p.n) (x : held_of w p i ≤ length (stream_to f w p i)) (u : List ℕ) (m : Moved f w p i u) where
  step_front : Front (4 * p.held) u w
  step_front = m.kept.front

  step_word : word u (p.held + i) ≡ capped_length (length (rest_of (joined f w p i)))
  step_word = m.told.holds ∙ rw (joined_kept f u w p l i o m.kept i (omega arith))

  step_small : word u (p.held + i) ≤ length (joined f w p i)
  step_small = omega (arith, step_word, capped_le (length (rest_of (joined f w p i))), rest_le (joined f w p i))

  mine : lastn (word u (p.held + i)) (stream_to f w p i ++ bytes_at f w p i) ≡ capped (rest_of (lastn (held_of w p i) (stream_to f w p i) ++ bytes_at f w p i))
  unfolding joined
  mine = lastn_lastn (word u (p.held + i)) (held_of w p i) (stream_to f w p i) (bytes_at f w p i) step_small ∙ rw step_word (capped_back (joined f w p i))

  step_key : key_at u p i ≡ key_at w p i
  step_key = key_front f u w p l step_front i o

  pub held_mine : held_in u p (suc i) (key_at w p i) ≡ word u (p.held + i)
  unfolding held_in
  held_mine = rw (step_key, eq_eq_k (key_at w p i) (key_at w p i) refl)

  pub held_other : (k : Key) → k ≢ key_at w p i → held_in u p (suc i) k ≡ held_in w p i k
  unfolding held_in
  held_other k n = rw (step_key, ne_eq_k (key_at w p i) k (λ e. n (sym e)), held_kept f u w p l i o m.kept i k (omega arith))

  stream_own : stream_of f u p (suc i) (key_at w p i) ≡ stream_to f w p i ++ bytes_at f w p i
  stream_own = stream_mine f u p i (key_at w p i) step_key ∙ rw (stream_front f u w p l step_front i (key_at w p i) (omega arith), bytes_front f u w p l step_front i o)

  stream_else : (k : Key) → k ≢ key_at w p i → stream_of f u p (suc i) k ≡ stream_of f w p i k
  stream_else k n = stream_other f u p i k (λ e. n (sym e ∙ step_key)) ∙ stream_front f u w p l step_front i k (omega arith)

  module _ (d : dlci_at w p i ≡ p.dlci) where
    pub other_key : (k : Key) → k ≢ tail_at w p i → p.dlci ∷ k ≢ key_at w p i
    other_key k n e = n (let z : p.dlci ∷ k ≡ p.dlci ∷ tail_at w p i = e ∙ own_key w p i d in cc)

    -- the buffer of each key
    step_at_law : (k : Key) → opened f u p (suc i) k ≡ step scanner (opened f w p i) (piece f w p i) k
    unfolding opened
    step_at_law k =
        rw (piece_key f w p i, piece_bytes f w p i)
        (split_k k (tail_at w p i)
        (λ e. rw (e, eq_eq_k (tail_at w p i) (tail_at w p i) refl, ← own_key w p i d, held_mine, stream_own) mine)
        (λ e. rw (ne_eq_k k (tail_at w p i) e, held_other (p.dlci ∷ k) (other_key k e), stream_else (p.dlci ∷ k) (other_key k e))))

    pub moved_opens : opened f u p (i + 1) ≡ step scanner (opened f w p i) (piece f w p i)
    moved_opens = rw (add-one i) (fun_ext step_at_law)

    -- what is held stays quiet
    pub moved_quiet : AllQuiet (opened f w p i) → AllQuiet (opened f u p (i + 1))
    moved_quiet q = rw moved_opens (quiet_scanned (opened f w p i) (piece f w p i) q)

    pub moved_fits : Fits f w p i → Fits f u p (i + 1)
    moved_fits y = record {
      at = λ k. rw (add-one i) (split_k k (tail_at w p i)
          (λ e. rw (e, ← own_key w p i d, held_mine, stream_own, length-append) (omega (arith, step_small, length_joined f w p i l o x, length_bytes f w p l i o)))
          (λ e. rw (held_other (p.dlci ∷ k) (other_key k e), stream_else (p.dlci ∷ k) (other_key k e)) (y.at k)));
    }

-- ---- what is joined

module _ (f w : List ℕ) (p : Plan) (i h : ℕ) (q : JoinPre f w p i h) where
  join_fits : held_of w p i ≤ length (stream_to f w p i)
  join_fits = rw q.held at q.fits

  join_lying : Lying f w p
  join_lying = laid_lying f w p q.laid

  join_room : p.area + length (joined f w p i) ≤ length w
  join_room = omega (arith, joined_infos f w p i join_lying q.row join_fits, q.laid.room)

  join_most : length (joined f w p i) ≤ 1048576
  join_most = joined_small f w p i join_lying q.row join_fits q.laid.sum

  -- the tables, and the area behind them
  module _ (u : List ℕ) (eu : u ≡ take p.area w) (a : List ℕ) (ea : a ≡ drop p.area w) where
    tables_long : length u ≡ p.area
    tables_long = ap length eu ∙ length-take-le p.area w (omega (arith, q.laid.room))

    area_long : length a ≡ length w - p.area
    area_long = ap length ea ∙ length-drop p.area w

    tables_front : Front (4 * p.held) u w
    tables_front = rw eu (record { same = take-take (4 * p.held) p.area w (omega (arith, q.laid.ends, q.laid.area)) })

    pub tables_lying : Lying f u p
    tables_lying = lying_front f u w p join_lying tables_front (omega (arith, q.laid.area, tables_long))

    tables_stream : stream_to f u p i ≡ stream_to f w p i
    tables_stream = rw (key_front f u w p join_lying tables_front i q.row, stream_front f u w p join_lying tables_front i (key_at w p i) (omega (arith, q.row)))

    join_size : h + len_at w p i ≡ length (joined f w p i)
    join_size = sym (length_joined f w p i join_lying q.row join_fits ∙ omega (arith, q.held))

    pub join_gather : GatherPre f u p i h a 0
    join_gather = record {
      row = q.row;
      come = rw tables_stream q.fits;
      fits = omega (arith, area_long, join_room, join_size);
    }

    module _ (b : List ℕ) (eb : b ≡ sets a 0 (lastn h (stream_to f u p i))) (n : ℕ) (en : n ≡ len_at u p i) where
      join_own : n ≡ len_at w p i
      join_own = en ∙ len_front f u w p join_lying tables_front i q.row

      pub join_put : PutPre u p i 0 n b h
      join_put = record {
        row = q.row;
        part = omega arith;
        fits = omega (arith, ap length eb ∙ length-sets a 0 (lastn h (stream_to f u p i)), area_long, join_room, join_size, join_own);
      }

      pub join_small : h + n ≤ 1048576
      join_small = omega (arith, join_most, join_size, join_own)

      pub join_done : (d : List ℕ) → d ≡ sets b h (take n (drop 0 (bytes_at f u p i))) → Joined f w p i (u ++ d) (h + n)
      unfolding joined
      join_done d ed =
          let L : List ℕ = lastn h (stream_to f w p i) in
          let B : List ℕ = bytes_at f w p i in
          let t : take n (bytes_at f u p i) ≡ B = rw (bytes_front f u w p join_lying tables_front i q.row) (take_all n B (omega (arith, length_bytes f w p join_lying i q.row, join_own))) in
          let y : 0 + length L ≡ h = omega (arith, length_lastn h (stream_to f w p i) q.fits) in
          let x : d ≡ sets a 0 (L ++ B) = rw (t, eb, tables_stream) at ed ∙ sym (rw y at (sets_append a 0 L B)) in
          let z : length (L ++ B) ≡ length (joined f w p i) = rw q.held in
          record {
            put = rw (← q.held, eu, x, ea) (sets_drop w p.area (L ++ B) (omega (arith, join_room, z)));
            size = rw join_own join_size;
            fits = omega (arith, join_room, join_size, join_own);
            small = omega (arith, join_most, join_size, join_own);
          }

module _ (f w : List ℕ) (p : Plan) (i : ℕ) (v : List ℕ) (n : ℕ) (j : Joined f w p i v n) where
  pub joined_front : Front p.area v w
  joined_front = rw j.put (front_sets p.area (joined f w p i) w p.area (omega arith))

  pub in_area : (e : ℕ) → e ≡ p.area + n → take (e - p.area) (drop p.area v) ≡ joined f w p i
  in_area e ee = part_sets w v (joined f w p i) p.area e n j.put j.size ee j.fits
