-- The bytes of a piece, read or copied from the file or from work; and what a key holds, put together by walking the pieces back.
use Prim.Native.Nat.{ℕ, suc, ◌+◌, ◌-◌, ◌<◌, ◌≤◌, min}
use mathlib.Core.Path.{◌≡◌, refl, sym, ap, ◌∙◌}
use mathlib.Core.Bool.{Bool, true, false}
use mathlib.Core.List.{List, ◌++◌}
use native.Mathlib.Omega.{arith}
use lib.ListN.{length, take, drop, length-append, length-drop}
use lib.Seq.{sets, length-sets, take_all}
use Rattle.std.specs.Prelude.{Option, None, Some}
use Rattle.laws.specs.Keys.{Key}
use Rattle.split.specs.Last.{lastn}
use Rattle.split.specs.Rows.{key_at, len_at, start_at, in_work, bytes_at, stream_of, stream_to}
use Rattle.split.specs.Walks.{Lying, Earlier, one_more, PutPre, GatherPre}
use Rattle.split.specs.declared.Plan.{Plan}
use Rattle.laws.proofs.Stores.{sets_back}
use Rattle.split.proofs.Lasts.{length_lastn, lastn_zero, lastn_append}
use Rattle.split.proofs.Tables.{stream_mine, stream_back, length_bytes}

-- ---- the bytes of a piece

module _ (f w : List ℕ) (p : Plan) (j : ℕ) (t : Bool) (et : t ≡ in_work w p j) where
  module _ (x : List ℕ) (s n : ℕ) (es : s ≡ start_at w p j) (en : n ≡ len_at w p j) where
    pub whole_work : t ≡ true → x ≡ take n (drop s w) → x ≡ bytes_at f w p j
    unfolding bytes_at
    whole_work e ex = ex ∙ rw (es, en, ← et, e)

    pub whole_file : t ≡ false → x ≡ take n (drop s f) → x ≡ bytes_at f w p j
    unfolding bytes_at
    whole_file e ex = ex ∙ rw (es, en, ← et, e)

-- a part of a piece
module _ (f w : List ℕ) (p : Plan) (j skip m : ℕ) (out : List ℕ) (to : ℕ) (l : Lying f w p) (q : PutPre w p j skip m out to) (x : List ℕ) (ex : x ≡ bytes_at f w p j) where
  pub put_within : skip + m ≤ length x
  put_within = omega (arith, q.part, ap length ex, length_bytes f w p l j q.row)

-- ---- the walk back: what is left of a key's bytes before piece j, and the piece of the key before it

module _ (f w : List ℕ) (p : Plan) (l : Lying f w p) (k : Key) (j left : ℕ) (o : j < p.n) (mine : key_at w p j ≡ k) (come : left ≤ length (stream_of f w p j k)) where
  back_none : Earlier w p j 0 → left ≡ 0
  unfolding stream_of
  back_none b =
      let a : stream_of f w p j k ≡ stream_of f w p 0 k = rw mine at (stream_back f w p j 0 b) in
      let y = rw a at come in
      omega (arith, y)

  module _ (r : ℕ) (b : Earlier w p j (suc r)) where
    back_mine : key_at w p r ≡ k
    back_mine = b.mine r refl ∙ mine

    back_stream : stream_of f w p j k ≡ stream_of f w p r k ++ bytes_at f w p r
    back_stream = rw mine at (stream_back f w p j (suc r) b) ∙ stream_mine f w p r k back_mine

    module _ (n m : ℕ) (en : n ≡ len_at w p r) (em : m ≡ min left n) where
      back_long : length (bytes_at f w p r) ≡ n
      back_long = length_bytes f w p l r (omega (arith, b.less)) ∙ sym en

      back_sum : left ≤ length (stream_of f w p r k) + length (bytes_at f w p r)
      back_sum = rw (back_stream, length-append) at come

      back_come : left - m ≤ length (stream_of f w p r k)
      back_come = omega (arith, back_sum, back_long)

      back_last : lastn left (stream_of f w p j k) ≡ lastn (left - m) (stream_of f w p r k) ++ drop (n - m) (bytes_at f w p r)
      back_last = rw (back_stream, ← back_long) (lastn_append left m (stream_of f w p r k) (bytes_at f w p r) back_sum (omega (arith, back_long)))

      -- a copy of the end of the piece, and what is left before it
      back_sets : (d : List ℕ) (at : ℕ) (e : List ℕ) → e ≡ sets d (at + left - m) (take m (drop (n - m) (bytes_at f w p r))) → sets e at (lastn (left - m) (stream_of f w p r k)) ≡ sets d at (lastn left (stream_of f w p j k))
      back_sets d at e ee =
          let S : List ℕ = lastn (left - m) (stream_of f w p r k) in
          let B : List ℕ = drop (n - m) (bytes_at f w p r) in
          let x : take m B ≡ B = take_all m B (simp length-drop (omega (arith, back_long))) in
          let y : at + left - m ≡ at + length S = omega (arith, length_lastn (left - m) (stream_of f w p r k) back_come) in
          rw (ee, x, y, back_last) (sym (sets_back d at S B))

pub record Gathering (f w : List ℕ) (p : Plan) (i h : ℕ) (out₀ : List ℕ) (at : ℕ) (out : List ℕ) (j left : ℕ) : Type 0 where
  pub low : j ≤ i
  pub most : left ≤ h
  pub come : left ≤ length (stream_of f w p j (key_at w p i))
  pub mine : key_at w p j ≡ key_at w p i
  pub long : length out ≡ length out₀
  pub done : sets out at (lastn left (stream_of f w p j (key_at w p i))) ≡ sets out₀ at (lastn h (stream_to f w p i))

module _ (f w : List ℕ) (p : Plan) (i h : ℕ) (out₀ : List ℕ) (at : ℕ) (l : Lying f w p) (q : GatherPre f w p i h out₀ at) where
  module _ (out : List ℕ) (j left : ℕ) (g : Gathering f w p i h out₀ at out j left) where
    pub gathering_end : left ≤ 0 → out ≡ sets out₀ at (lastn h (stream_to f w p i))
    gathering_end z = rw (lastn_zero left (stream_of f w p j (key_at w p i)) (omega arith)) at g.done

    pub gathering_room : at + left ≤ length out
    gathering_room = omega (arith, g.most, g.long, q.fits)

    module _ (x : Option ℕ) (b : Earlier w p j (one_more x)) where
      -- where nothing is before, nothing is left
      pub gathering_none : 0 < left → x ≡ None → out ≡ sets out₀ at (lastn h (stream_to f w p i))
      unfolding one_more
      gathering_none z e =
          let y = back_none f w p l (key_at w p i) j left (omega (arith, g.low, q.row)) g.mine g.come (rw e at b) in
          absurd (omega (arith, y))

      module _ (r : ℕ) (e : x ≡ Some r) where
        before : Earlier w p j (suc r)
        unfolding one_more
        before = rw e at b

        pub gathering_less : r < j
        gathering_less = omega (arith, before.less)

        pub gathering_row : r < p.n
        gathering_row = omega (arith, gathering_less, g.low, q.row)

        module _ (n m : ℕ) (en : n ≡ len_at w p r) (em : m ≡ min left n) where
          pub gathering_put : PutPre w p r (n - m) m out (at + left - m)
          gathering_put = record { row = gathering_row; part = omega arith; fits = omega (arith, gathering_room) }

          pub gathering_turn : (u : List ℕ) → u ≡ sets out (at + left - m) (take m (drop (n - m) (bytes_at f w p r))) → Gathering f w p i h out₀ at u r (left - m)
          gathering_turn u eu =
              let o : j < p.n = omega (arith, g.low, q.row) in
              record {
                low = omega (arith, g.low, gathering_less);
                most = omega (arith, g.most);
                come = back_come f w p l (key_at w p i) j left o g.mine g.come r before n m en em;
                mine = back_mine f w p l (key_at w p i) j left o g.mine g.come r before;
                long = ap length eu ∙ simp length-sets g.long;
                done = back_sets f w p l (key_at w p i) j left o g.mine g.come r before n m en em out at u eu ∙ g.done;
              }
