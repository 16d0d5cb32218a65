-- The walk from the last piece to the first, by which every piece is told what its key holds at the end.
use Rattle.std.specs.Prelude.{Option, None, Some}
use Prim.Native.Nat.{ℕ, zero, suc, ◌+◌, ◌-◌, ◌*◌, ◌<◌, ◌≤◌}
use mathlib.Core.Path.{◌≡◌, refl, sym, ◌∙◌}
use mathlib.Core.List.{List}
use native.Mathlib.Omega.{arith}
use lib.ListN.{length}
use Rattle.laws.proofs.Choice.{split_b, split≡}
use Rattle.laws.specs.Keys.{Key, eq_k}
use Rattle.laws.proofs.Keys.{split_k, eq_eq_k, ne_eq_k}
use Rattle.words.specs.Words.{word, put_word}
use Rattle.words.proofs.Words.{word_put_same, word_put_other}
use Rattle.words.specs.Front.{Front}
use Rattle.words.proofs.Front.{front_refl, front_then, front_put, front_word}
use Rattle.split.specs.Rows.{key_at, tail_at, held_in, newest_of, Linked}
use Rattle.split.specs.Walks.{Chained, Earlier, one_more}
use Rattle.split.proofs.Tables.{newest_less, newest_mine, before_less}
use Rattle.split.specs.declared.Plan.{Plan}
use Rattle.stretches.specs.Listing.{ListRoom, PieceIn, Handed, SpreadPre}

-- ---- one piece

module _ (w : List ℕ) (p : Plan) (i : ℕ) (c : PieceIn w p i) (o : Option ℕ) (b : Earlier w p i (one_more o)) where
  chain_word : one_more o ≡ word w (p.chain + i)
  chain_word = b.newest ∙ sym (c.chained.linked.before i c.row)

  pub handed_none : o ≡ None → Handed w p i w
  unfolding one_more
  handed_none z =
      let n : 0 ≡ word w (p.chain + i) = rw z at chain_word in
      record { front = front_refl (4 * p.held) w; told = λ h. absurd (omega (arith, n)); kept = λ j h. refl }

  module _ (j : ℕ) (z : o ≡ Some j) where
    next : suc j ≡ word w (p.chain + i)
    unfolding one_more
    next = rw z at chain_word

    pub back_room : 4 * (p.held + j) + 4 ≤ length w
    back_room = omega (arith, before_less w p i o b j z, c.row, c.chained.ends, c.chained.words)

    pub handed : (h : ℕ) → h ≡ word w (p.held + i) → (u : List ℕ) → u ≡ put_word w (p.held + j) h → Handed w p i u
    handed h eh u eu =
        let k : word w (p.chain + i) - 1 ≡ j = omega (arith, next) in
        record {
          front = rw eu (front_put (4 * p.held) w (p.held + j) h (omega arith));
          told = λ l. rw (k, eu) (word_put_same w (p.held + j) h back_room ∙ eh);
          kept = λ m n. rw eu (word_put_other w (p.held + j) h (p.held + m) (λ e. n (omega (arith, next, e))));
        }

-- ---- what a key holds stands at its newest piece

module _ (w : List ℕ) (p : Plan) where
  newest_some : (i n : ℕ) → i < n → 0 < newest_of (λ j. key_at w p j) (key_at w p i) n
  unfolding newest_of
  newest_some i zero h = absurd (omega arith)
  newest_some i (suc n) h =
      split_k (key_at w p n) (key_at w p i)
      (λ e. rw (eq_eq_k (key_at w p n) (key_at w p i) e) (omega arith))
      (λ e. rw (ne_eq_k (key_at w p n) (key_at w p i) e) (split≡ i n (λ z. absurd (e (rw z))) (λ z. newest_some i n (omega arith))))

  held_at : (k : Key) (n : ℕ) → 0 < newest_of (λ j. key_at w p j) k n → held_in w p n k ≡ word w (p.held + (newest_of (λ j. key_at w p j) k n - 1))
  unfolding held_in newest_of
  held_at k zero h = absurd (omega arith)
  held_at k (suc n) h =
      split_b (eq_k (key_at w p n) k)
      (λ e. let z : suc n - 1 ≡ n = omega arith in rw (e, z))
      (λ e. rw e (held_at k n (rw e at h)))

-- ---- all pieces

pub record Spreading (w₀ : List ℕ) (p : Plan) (w : List ℕ) (i : ℕ) : Type 0 where
  pub pre : SpreadPre w₀ p
  pub within : i ≤ p.n
  pub size : length w ≡ length w₀
  pub front : Front (4 * p.held) w w₀
  -- what a key holds at the end stands at its newest piece before i, and at all its pieces from i on
  pub early : (k : Key) → 0 < newest_of (λ j. key_at w₀ p j) k i → word w (p.held + (newest_of (λ j. key_at w₀ p j) k i - 1)) ≡ held_in w₀ p p.n k
  pub late : (m : ℕ) → i ≤ m → m < p.n → word w (p.held + m) ≡ held_in w₀ p p.n (key_at w₀ p m)

pub spreading_start : (w : List ℕ) (p : Plan) → SpreadPre w p → Spreading w p w p.n
spreading_start w p g = record {
  pre = g;
  within = omega arith;
  size = refl;
  front = front_refl (4 * p.held) w;
  early = λ k h. sym (held_at w p k p.n h);
  late = λ m h z. absurd (omega arith);
}

-- what links the pieces is told by the words from their rows to the lengths held
module _ (u w : List ℕ) (p : Plan) (r : ListRoom w p) (s : (j : ℕ) → p.rows ≤ j → j < p.held → word u j ≡ word w j) where
  key_same : (i : ℕ) → i < p.n → key_at u p i ≡ key_at w p i
  unfolding key_at tail_at
  key_same i h =
      rw (
        s (p.rows + 8 * i) (omega arith) (omega (arith, r.rows)),
        s (p.rows + 8 * i + 1) (omega arith) (omega (arith, r.rows)),
        s (p.rows + 8 * i + 2) (omega arith) (omega (arith, r.rows)),
        s (p.rows + 8 * i + 3) (omega arith) (omega (arith, r.rows)),
      )

  newest_same : (k : Key) (i : ℕ) → i ≤ p.n → newest_of (λ j. key_at u p j) k i ≡ newest_of (λ j. key_at w p j) k i
  unfolding newest_of
  newest_same k zero h = refl
  newest_same k (suc i) h = rw (key_same i (omega arith), newest_same k i (omega arith))

  pub linked_same : Linked w p → Linked u p
  linked_same l = record {
    before = λ i h. s (p.chain + i) (omega (arith, r.after)) (omega (arith, r.chain)) ∙ l.before i h ∙ sym (rw (key_same i h) (newest_same (key_at w p i) i (omega arith)));
  }

  pub list_room : length u ≡ length w → ListRoom u p
  list_room e = record { low = r.low; after = r.after; rows = r.rows; chain = r.chain; ends = r.ends; words = rw e r.words; many = r.many }

pub pre_chained : (w : List ℕ) (p : Plan) → SpreadPre w p → Chained w p
pre_chained w p g = record { rows = g.room.rows; chain = g.room.chain; linked = g.linked; ends = g.room.ends; words = g.room.words }

-- where all below the lengths held is as it was
pub front_pre : (u w : List ℕ) (p : Plan) → SpreadPre w p → Front (4 * p.held) u w → length u ≡ length w → SpreadPre u p
front_pre u w p g f e =
    let s : (j : ℕ) → p.rows ≤ j → j < p.held → word u j ≡ word w j = λ j a b. front_word (4 * p.held) u w j (omega arith) f in
    record { room = list_room u w p g.room s e; linked = linked_same u w p g.room s g.linked }

module _ (w₀ : List ℕ) (p : Plan) (w : List ℕ) where
  abbrev newest : Key → ℕ → ℕ
  newest k i = newest_of (λ j. key_at w₀ p j) k i

  module _ (m : ℕ) (h : m < p.n) (v : Spreading w₀ p w (suc m)) where
    g : SpreadPre w₀ p
    g = v.pre

    chain_is : word w (p.chain + m) ≡ newest (key_at w₀ p m) m
    chain_is = front_word (4 * p.held) w w₀ (p.chain + m) (omega (arith, g.room.chain)) v.front ∙ g.linked.before m h

    back_pre : PieceIn w p m
    back_pre = record { chained = pre_chained w p (front_pre w w₀ p g v.front v.size); row = h }

    module _ (u : List ℕ) (t : Handed w p m u) where
      low : newest (key_at w₀ p m) m ≤ m
      low = newest_less w₀ p (key_at w₀ p m) m

      -- at piece m itself
      own : word w (p.held + m) ≡ held_in w₀ p p.n (key_at w₀ p m)
      unfolding newest_of
      own =
          let z : newest (key_at w₀ p m) (suc m) ≡ suc m = rw (eq_eq_k (key_at w₀ p m) (key_at w₀ p m) refl) in
          let y : suc m - 1 ≡ m = omega arith in
          rw (z, y) at (v.early (key_at w₀ p m) (rw z (omega arith)))

      early_own : 0 < newest (key_at w₀ p m) m → word u (p.held + (newest (key_at w₀ p m) m - 1)) ≡ held_in w₀ p p.n (key_at w₀ p m)
      early_own o = rw (← chain_is) (t.told (rw chain_is o)) ∙ own

      early_other : (k : Key) → (key_at w₀ p m ≡ k → ⊥) → 0 < newest k m → word u (p.held + (newest k m - 1)) ≡ held_in w₀ p p.n k
      unfolding newest_of
      early_other k n o =
          let z : newest k (suc m) ≡ newest k m = rw (ne_eq_k (key_at w₀ p m) k n) in
          t.kept (newest k m - 1) (λ e.
          let x : newest k m ≡ suc (newest k m - 1) = omega (arith, o) in
          n (sym (newest_mine w₀ p (key_at w₀ p m) m (newest k m - 1) (sym chain_is ∙ e)) ∙ newest_mine w₀ p k m (newest k m - 1) x))
          ∙ (rw z at (v.early k (rw z o)))

      spreading_step : length u ≡ length w → Spreading w₀ p u m
      spreading_step l = record {
        pre = g;
        within = omega arith;
        size = l ∙ v.size;
        front = front_then (4 * p.held) u w w₀ t.front v.front;
        early = λ k o. split_k (key_at w₀ p m) k (λ e. rw (← e) (early_own (rw e o))) (λ n. early_other k n o);
        late = λ i a b.
            t.kept i (λ e. omega (arith, chain_is, low))
            ∙ split≡ i m (λ e. rw e own) (λ n. v.late i (omega arith) b);
      }

  module _ (i : ℕ) (o : 0 < i) (v : Spreading w₀ p w i) where
    is_suc : i ≡ suc (i - 1)
    is_suc = omega arith

    pub spreading_pre : PieceIn w p (i - 1)
    spreading_pre = back_pre (i - 1) (omega (arith, v.within)) (rw is_suc at v)

    pub spreading_turn : (u : List ℕ) → Handed w p (i - 1) u → length u ≡ length w → Spreading w₀ p u (i - 1)
    spreading_turn u t l = spreading_step (i - 1) (omega (arith, v.within)) (rw is_suc at v) u t l
