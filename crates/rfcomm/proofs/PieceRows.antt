-- Laws of specs/PieceRows.
use Prim.Native.Nat.{ℕ, ◌+◌, ◌*◌, ◌/◌, ◌%◌, ◌<◌, ◌≤◌, zero, suc}
use mathlib.Core.Path.{◌≡◌, refl, sym, ap, ◌∙◌}
use mathlib.Core.Bool.{Bool, true, false, cond}
use mathlib.Core.List.{List, [], ◌∷◌, ◌++◌}
use native.Mathlib.Omega.{arith}
use lib.ListN.{length, get_or, take, drop}
use lib.Dec.{eqb}
use Rattle.words.specs.Words.{word, long}
use Rattle.words.proofs.Front.{front_part, front_word}
use Rattle.words.specs.Rows.{put_words}
use Rattle.words.proofs.Rows.{front_puts, word_puts, long_puts, puts_append}
use Rattle.rfcomm.specs.PieceTable.{piece_at, Within, pieces_from, infos_of}
use Rattle.rfcomm.specs.declared.Part.{Part}
use Rattle.rfcomm.specs.PieceRows.{stretch_of, bytes_of, row_of, PutPre, part_piece}
use native.Mathlib.Nat.{add-zero}
use Rattle.std.specs.Int.{from_bool}
use Rattle.words.specs.Front.{Front}

-- a bit in a word is read as it was written
bit_is : (b : Bool) → eqb (cond b 1 0) 1 ≡ b
bit_is true = refl
bit_is false = refl

module _ (f w : List ℕ) (at : ℕ) (p : Part) (t : ℕ) (pre : PutPre w at p) (u : List ℕ) (e : u ≡ put_words w at (row_of p t)) where
  row : (j : ℕ) → j < 8 → word u (at + j) ≡ get_or (row_of p t) j 0
  unfolding row_of stretch_of bytes_of
  row j h = rw e (word_puts (row_of p t) w at j (omega (arith, pre.room)) h)

  pub row_len : word u (at + 5) % 65536 ≡ p.len
  unfolding row_of stretch_of bytes_of
  row_len = rw (row 5 (omega arith)) (omega (arith, pre.len))

  row_joined : eqb (word u (at + 5) / 65536) 1 ≡ p.joined
  unfolding row_of stretch_of bytes_of
  row_joined = let z : (p.len + 65536 * cond p.joined 1 0) / 65536 ≡ cond p.joined 1 0 = omega (arith, pre.len) in rw (row 5 (omega arith), z) (bit_is p.joined)

  row_start : word u at ≡ p.dlci
  unfolding row_of stretch_of bytes_of
  row_start = let z : at + 0 ≡ at = omega arith in rw z at (row 0 (omega arith))

  -- the bytes that the row means are not touched by the row
  pub row_piece : (top : ℕ) → top ≤ 4 * at → p.start + p.len ≤ cond p.joined top (length f) → piece_at f u at ≡ part_piece f w p t
  unfolding piece_at part_piece row_of stretch_of bytes_of
  row_piece top h i =
      let s1 : (p.sessions + 65536 * p.links) % 65536 ≡ p.sessions = omega (arith, pre.sessions) in
      let s2 : (p.sessions + 65536 * p.links) / 65536 ≡ p.links = omega (arith, pre.sessions) in
      let tm : long u (at + 6) ≡ t = rw e (long_puts (row_of p t) w at 6 t (omega (arith, pre.room)) (omega arith) refl refl) in
      let same : take p.len (drop p.start (cond p.joined u f)) ≡ take p.len (drop p.start (cond p.joined w f)) = go p.joined i in
      rw (row_start, row 1 (omega arith), row 2 (omega arith), row 3 (omega arith), row 4 (omega arith), row_len, row_joined, s1, s2, tm, same) where
        go : (b : Bool) → p.start + p.len ≤ cond b top (length f) → take p.len (drop p.start (cond b u f)) ≡ take p.len (drop p.start (cond b w f))
        go true q = front_part top u w p.start p.len q (rw e (front_puts top (row_of p t) w at h))
        go false q = refl

  pub row_within : (top : ℕ) → p.start + p.len ≤ cond p.joined top (length f) → 0 < p.dlci → p.dlci < 64 → Within f u at top
  unfolding row_of stretch_of bytes_of
  row_within top i lo hi = record { inside = rw (row 4 (omega arith), row_len, row_joined) i; least = rw row_start lo; most = rw row_start hi }

pub row_long : (p : Part) (t : ℕ) → length (row_of p t) ≡ 8
unfolding row_of stretch_of bytes_of
row_long p t = refl

bit_of : (b : Bool) → from_bool b ≡ cond b 1 0
bit_of true = refl
bit_of false = refl

pub put_row_law : (w : List ℕ) (at : ℕ) (p : Part) (t j n : ℕ) (a u : List ℕ) → j ≡ from_bool p.joined → n ≡ p.len + 65536 * j → a ≡ put_words w at (stretch_of p) → u ≡ put_words a (at + 4) (bytes_of p.start n t) → u ≡ put_words w at (row_of p t)
unfolding row_of stretch_of
put_row_law w at p t j n a u ej en pa pu = pu ∙ rw (pa, en, ej, bit_of p.joined) (sym (puts_append (stretch_of p) (bytes_of p.start (p.len + 65536 * cond p.joined 1 0) t) w at))

-- ---- the table under a frame that keeps it and the payloads

pub piece_front : (n : ℕ) (f u w : List ℕ) (at : ℕ) → 4 * at + 32 ≤ n → Front n u w → (top : ℕ) → top ≤ n → Within f w at top → piece_at f u at ≡ piece_at f w at
unfolding piece_at long
piece_front n f u w at h a top g i =
    let same : take (word w (at + 5) % 65536) (drop (word w (at + 4)) (cond (eqb (word w (at + 5) / 65536) 1) u f)) ≡ take (word w (at + 5) % 65536) (drop (word w (at + 4)) (cond (eqb (word w (at + 5) / 65536) 1) w f)) = go (eqb (word w (at + 5) / 65536) 1) i.inside in
    rw (
      front_word n u w at (omega arith) a,
      front_word n u w (at + 1) (omega arith) a,
      front_word n u w (at + 2) (omega arith) a,
      front_word n u w (at + 3) (omega arith) a,
      front_word n u w (at + 4) (omega arith) a,
      front_word n u w (at + 5) (omega arith) a,
      front_word n u w (at + 6) (omega arith) a,
      front_word n u w (at + 6 + 1) (omega arith) a,
      same,
    ) where
      go : (b : Bool) → word w (at + 4) + word w (at + 5) % 65536 ≤ cond b top (length f) → take (word w (at + 5) % 65536) (drop (word w (at + 4)) (cond b u f)) ≡ take (word w (at + 5) % 65536) (drop (word w (at + 4)) (cond b w f))
      go true q = front_part n u w (word w (at + 4)) (word w (at + 5) % 65536) (omega arith) a
      go false q = refl

pub within_front : (n : ℕ) (f u w : List ℕ) (at top : ℕ) → 4 * at + 32 ≤ n → Front n u w → Within f w at top → Within f u at top
within_front n f u w at top h a i = record {
  inside = rw (front_word n u w (at + 4) (omega arith) a, front_word n u w (at + 5) (omega arith) a) i.inside;
  least = rw (front_word n u w at (omega arith) a) i.least;
  most = rw (front_word n u w at (omega arith) a) i.most;
}

pub pieces_front : (n : ℕ) (f u w : List ℕ) (b i m top : ℕ) → 4 * (b + 8 * (i + m)) ≤ n → Front n u w → top ≤ n → ((j : ℕ) → j < i + m → Within f w (b + 8 * j) top) → pieces_from f u b i m ≡ pieces_from f w b i m
unfolding pieces_from
pieces_front n f u w b i zero top h a g k = refl
pieces_front n f u w b i (suc m) top h a g k = rw (piece_front n f u w (b + 8 * i) (omega arith) a top g (k i (omega arith)), pieces_front n f u w b (suc i) m top (omega arith) a g (λ j l. k j (omega arith)))

pub infos_front : (n : ℕ) (u w : List ℕ) (b i : ℕ) → 4 * (b + 8 * i) ≤ n → Front n u w → infos_of u b i ≡ infos_of w b i
unfolding infos_of
infos_front n u w b zero h a = refl
infos_front n u w b (suc i) h a = rw (infos_front n u w b i (omega arith) a, front_word n u w (b + 8 * i + 5) (omega arith) a)

pub length_pieces : (f w : List ℕ) (b i m : ℕ) → length (pieces_from f w b i m) ≡ m
unfolding pieces_from
length_pieces f w b i zero = refl
length_pieces f w b i (suc m) = ap suc (length_pieces f w b (suc i) m)

pub pieces_snoc : (f w : List ℕ) (b i m : ℕ) → pieces_from f w b i (suc m) ≡ pieces_from f w b i m ++ (piece_at f w (b + 8 * (i + m)) ∷ [])
unfolding pieces_from
pieces_snoc f w b i zero = rw add-zero
pieces_snoc f w b i (suc m) = let z : i + suc m ≡ suc i + m = omega arith in rw (z, pieces_snoc f w b (suc i) m)
