-- The table of pieces: the newest piece of a key, one piece more, lengths.
use Prim.Native.Nat.{ℕ, zero, suc, ◌+◌, ◌-◌, ◌*◌, ◌<◌, ◌≤◌}
use mathlib.Core.Path.{◌≡◌, refl, sym, ◌∙◌}
use mathlib.Core.Bool.{Bool, true, false, cond}
use mathlib.Core.List.{List, ◌++◌, append-nil}
use native.Mathlib.Omega.{arith}
use lib.ListN.{length, take, drop, length-append, length-drop}
use lib.Seq.{length-take-le}
use Rattle.std.specs.Prelude.{Option, None, Some, SomeIff}
use Rattle.laws.proofs.Choice.{split_b, split≡}
use Rattle.laws.specs.Keys.{Key, eq_k}
use Rattle.laws.proofs.Keys.{split_k, eq_k_true, eq_eq_k, ne_eq_k}
use Rattle.words.specs.Words.{word}
use Rattle.rfcomm.specs.PieceTable.{piece_at, infos_of}
use Rattle.split.specs.Rows.{piece, tail_at, key_at, len_at, start_at, in_work, bytes_at, stream_of, held_in, held_of, held_at, newest_of}
use Rattle.split.specs.Walks.{Chained, Lying, Earlier, one_more}
use Rattle.split.specs.declared.Plan.{Plan}
use Rattle.split.specs.declared.pieces.Pieces.{Pieces}
use Rattle.split.specs.declared.pieces.Table.{Table}
use Rattle.split.specs.Views.{SameTable}

-- ---- what the table of the pieces says, they say

module _ (s : Pieces) (t : Table) (e : SameTable s t) (r i : ℕ) where
  pub held_same : r ≡ held_at t.w.now t.plan i → r ≡ held_at s.w.now s.plan i
  held_same h = rw (e.words, e.plan) at h

-- ---- the newest piece of a key

module _ (w : List ℕ) (p : Plan) (k : Key) where
  pub newest_less : (n : ℕ) → newest_of (λ j. key_at w p j) k n ≤ n
  unfolding newest_of
  newest_less zero = omega arith
  newest_less (suc n) = split_b (eq_k (key_at w p n) k) (λ e. rw e (omega arith)) (λ e. rw e (omega (arith, newest_less n)))

  pub newest_mine : (n j : ℕ) → newest_of (λ i. key_at w p i) k n ≡ suc j → key_at w p j ≡ k
  unfolding newest_of
  newest_mine zero j h = absurd (omega arith)
  newest_mine (suc n) j h =
      split_b (eq_k (key_at w p n) k)
      (λ e. let z : n ≡ j = omega (arith, rw e at h) in rw z at (eq_k_true (key_at w p n) k e))
      (λ e. newest_mine n j (rw e at h))

  -- what pieces with other keys do not change is the same from the newest on
  newest_same : {A : Type 0} (g : ℕ → A) → ((j : ℕ) → (key_at w p j ≡ k → ⊥) → g (suc j) ≡ g j) → (n : ℕ) → g n ≡ g (newest_of (λ j. key_at w p j) k n)
  unfolding newest_of
  newest_same g o zero = refl
  newest_same g o (suc n) = split_k (key_at w p n) k (λ e. rw (eq_eq_k (key_at w p n) k e)) (λ e. rw (ne_eq_k (key_at w p n) k e) (o n e ∙ newest_same g o n))

pub earlier_is : (w : List ℕ) (p : Plan) (i : ℕ) → Chained w p → i < p.n → (r : ℕ) → r ≡ word w (p.chain + i) → Earlier w p i r
earlier_is w p i c h r e =
    let z : r ≡ newest_of (λ j. key_at w p j) (key_at w p i) i = e ∙ c.linked.before i h in
    record { newest = z; less = rw z (newest_less w p (key_at w p i) i); mine = λ j q. newest_mine w p (key_at w p i) i j (sym z ∙ q) }

pub less_one : (x : ℕ) (r : Option ℕ) → SomeIff r (1 ≤ x) (x - 1) → one_more r ≡ x
unfolding one_more
less_one x None h = split≡ x 0 (λ e. sym e) (λ e. absurd (h (omega arith)))
less_one x (Some j) h = omega (arith, h.0, h.1)

module _ (w : List ℕ) (p : Plan) (i : ℕ) (o : Option ℕ) (b : Earlier w p i (one_more o)) where
  held_back : held_of w p i ≡ held_in w p (one_more o) (key_at w p i)
  unfolding held_in
  held_back = rw b.newest (newest_same w p (key_at w p i) (λ j. held_in w p j (key_at w p i)) (λ j n. rw (ne_eq_k (key_at w p j) (key_at w p i) n)) i)

  pub held_none : o ≡ None → 0 ≡ held_of w p i
  unfolding held_in one_more
  held_none z = sym (rw z at held_back)

  module _ (j : ℕ) (z : o ≡ Some j) where
    pub before_less : j < i
    unfolding one_more
    before_less = let b' = rw z at b.less in omega arith

    pub held_newest : (x : ℕ) → x ≡ word w (p.held + j) → x ≡ held_of w p i
    unfolding held_in one_more
    held_newest x e =
        let m : key_at w p j ≡ key_at w p i = b.mine j (rw z) in
        e ∙ sym ((rw z at held_back) ∙ rw (eq_eq_k (key_at w p j) (key_at w p i) m))

-- ---- one piece more

module _ (f w : List ℕ) (p : Plan) (i : ℕ) where
  pub piece_key : (piece f w p i).key ≡ tail_at w p i
  unfolding piece_at tail_at
  piece_key = refl

  pub piece_bytes : (piece f w p i).bytes ≡ bytes_at f w p i
  unfolding piece_at bytes_at
  piece_bytes = refl

  pub stream_mine : (k : Key) → key_at w p i ≡ k → stream_of f w p (suc i) k ≡ stream_of f w p i k ++ bytes_at f w p i
  unfolding stream_of
  stream_mine k e = rw (eq_eq_k (key_at w p i) k e)

  pub stream_other : (k : Key) → (key_at w p i ≡ k → ⊥) → stream_of f w p (suc i) k ≡ stream_of f w p i k
  unfolding stream_of
  stream_other k e = rw (ne_eq_k (key_at w p i) k e, append-nil)

pub stream_back : (f w : List ℕ) (p : Plan) (i r : ℕ) → Earlier w p i r → stream_of f w p i (key_at w p i) ≡ stream_of f w p r (key_at w p i)
stream_back f w p i r b = rw b.newest (newest_same w p (key_at w p i) (λ j. stream_of f w p j (key_at w p i)) (λ j n. stream_other f w p j (key_at w p i) n) i)

-- ---- lengths

pub infos_mono : (w : List ℕ) (b i n : ℕ) → i ≤ n → infos_of w b i ≤ infos_of w b n
unfolding infos_of
infos_mono w b i zero h = let z : i ≡ 0 = omega arith in rw z (omega arith)
infos_mono w b i (suc n) h = split≡ i (suc n) (λ e. rw e (omega arith)) (λ e. omega (arith, infos_mono w b i n (omega arith)))

module _ (f w : List ℕ) (p : Plan) (l : Lying f w p) where
  part_long : (t : Bool) (a n : ℕ) → a + n ≤ cond t (4 * p.held) (length f) → length (take n (drop a (cond t w f))) ≡ n
  part_long true a n h = length-take-le n (drop a w) (simp length-drop (omega (arith, l.chained.ends, l.chained.words)))
  part_long false a n h = length-take-le n (drop a f) (simp length-drop (omega arith))

  pub length_bytes : (i : ℕ) → i < p.n → length (bytes_at f w p i) ≡ len_at w p i
  unfolding bytes_at
  length_bytes i h = part_long (in_work w p i) (start_at w p i) (len_at w p i) (l.within i h).inside

  pub stream_infos : (i : ℕ) (k : Key) → i ≤ p.n → length (stream_of f w p i k) ≤ infos_of w p.rows i
  unfolding stream_of infos_of
  stream_infos zero k h = omega arith
  stream_infos (suc i) k h =
      split_b (eq_k (key_at w p i) k)
      (λ e. rw (e, length-append) (omega (arith, stream_infos i k (omega arith), length_bytes i (omega arith))))
      (λ e. rw (e, length-append) (omega (arith, stream_infos i k (omega arith))))
