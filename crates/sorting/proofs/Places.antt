-- Laws of sorting words in the output.
use mathlib.Core.Path.{◌≡◌, refl, sym, ap, ◌∙◌}
use mathlib.Core.Logic.{◌⊎◌, inl, inr, ⊎_elim}
use mathlib.Core.Bool.{Bool, true, false}
use mathlib.Core.List.{List, [], ◌∷◌, ◌++◌, append_assoc}
use Rattle.std.specs.Prelude.{min}
use Rattle.std.specs.List.{CopiedTo, SameBelow, SameFrom}
use Prim.Native.Nat.{ℕ, zero, suc, ◌+◌, ◌-◌, ◌*◌, ◌/◌, ◌<◌, ◌≤◌}
use native.Mathlib.Nat.{add-zero}
use native.Mathlib.Omega.{arith}
use lib.ListN.{length, get_or, take, drop, length-drop, drop_of_length-le}
use lib.Seq.{take_all, take-nil}
use Rattle.laws.specs.Numbers.{le32}
use Rattle.laws.proofs.Choice.{split≤}
use Rattle.words.specs.Words.{word, put_word}
use Rattle.words.proofs.Words.{length_put, word_put_same, word_put_other, word_of_bytes}
use Rattle.sorting.specs.Sort.{insert, isort, merge}
use Rattle.sorting.specs.Steps.{name_at, HeadOf, first_of, le_at, words, Kept, Copies, Rotates, MergePre, Merges, HalvesIn, Joins, Pairs, Sorts}
use Rattle.sorting.specs.declared.Head.{Head}
use Rattle.sorting.specs.declared.halves.Halves.{Halves}
use Rattle.sorting.proofs.Sorting.{isort_append, merge_met, merge_turned}
use Rattle.sorting.proofs.Names.{name_trans, name_total}
use Rattle.sorting.proofs.Comparing.{first_is}

-- ---- the name at a place

module _ (l : List ℕ) (place : ℕ) where
  pub name_none : length l < place + 6 → [] ≡ name_at l place
  unfolding name_at
  name_none h = rw (drop_of_length-le l {i = place + 6} (omega arith), take-nil (le32 l place))

  pub name_some : (x n : ℕ) → place + 6 ≤ length l → x ≡ le32 l place → n ≡ min x (length l - (place + 6)) → take (place + 6 + n - (place + 6)) (drop (place + 6) l) ≡ name_at l place
  unfolding name_at
  name_some x n k e f =
      split≤ x (length l - (place + 6))
      (λ h. let g : place + 6 + n - (place + 6) ≡ le32 l place = omega arith in rw g)
      (λ h. let g : place + 6 + n - (place + 6) ≡ length l - (place + 6) = omega arith in
      rw g
      (take_all (length l - (place + 6)) (drop (place + 6) l) (omega (arith, length-drop (place + 6) l))
      ∙ sym (take_all (le32 l place) (drop (place + 6) l) (omega (arith, length-drop (place + 6) l)))))

-- ---- words

-- lists that agree on the words from i on have them in common
pub words_same : (w u : List ℕ) (i n : ℕ) → ((j : ℕ) → i ≤ j → j < i + n → word u j ≡ word w j) → words u i n ≡ words w i n
words_same w u i zero f = refl
words_same w u i (suc n) f = rw (f i (omega arith) (omega arith), words_same w u (suc i) n (λ j p q. f j (omega arith) (omega arith)))

pub words_append : (w : List ℕ) (i n m : ℕ) → words w i (n + m) ≡ words w i n ++ words w (i + n) m
words_append w i zero m = let e : 0 + m ≡ m = omega arith in rw (e, add-zero)
words_append w i (suc n) m =
    let e : suc n + m ≡ suc (n + m) = omega arith in
    let f : i + suc n ≡ suc i + n = omega arith in
    rw (e, f, words_append w (suc i) n m)

pub words_snoc : (w : List ℕ) (i n : ℕ) → words w i (n + 1) ≡ words w i n ++ (word w (i + n) ∷ [])
words_snoc w i n = words_append w i n 1

-- the first of those that are left
words_first : (w : List ℕ) (i k n : ℕ) → k < n → words w (i + k) (n - k) ≡ word w (i + k) ∷ words w (i + (k + 1)) (n - (k + 1))
words_first w i k n h =
    let e : n - k ≡ suc (n - (k + 1)) = omega arith in
    let f : suc (i + k) ≡ i + (k + 1) = omega arith in
    rw (e, f)

-- a store of a word elsewhere
words_put : (w : List ℕ) (p v i n : ℕ) → (p < i) ⊎ (i + n ≤ p) → words (put_word w p v) i n ≡ words w i n
words_put w p v i n h = words_same w (put_word w p v) i n (λ j a b. word_put_other w p v j (λ e. ⊎_elim (λ x. omega arith) (λ x. omega arith) h))

-- the word after those that are there
pub words_more : (w : List ℕ) (i n v : ℕ) → 4 * (i + n) + 4 ≤ length w → words (put_word w (i + n) v) i (n + 1) ≡ words w i n ++ (v ∷ [])
words_more w i n v h =
    words_snoc (put_word w (i + n) v) i n
    ∙ rw (words_put w (i + n) v i n (inr (omega arith)), word_put_same w (i + n) v h)

-- ---- what stays

pub kept_none : (lo hi top : ℕ) (w : List ℕ) → Kept lo hi top w w
kept_none lo hi top w = record { same = λ j p q. refl }

kept_put : (lo hi top : ℕ) (w u : List ℕ) (i v : ℕ) → Kept lo hi top w u → ((lo ≤ i) × (i < hi)) ⊎ (top ≤ i) → Kept lo hi top w (put_word u i v)
kept_put lo hi top w u i v k h =
    record { same = λ j p q. word_put_other u i v j (λ e. ⊎_elim (λ x. ⊎_elim (λ y. omega arith) (λ y. omega arith) q) (λ x. omega arith) h) ∙ k.same j p q }

words_kept : (lo hi top : ℕ) (w u : List ℕ) (i n : ℕ) → Kept lo hi top w u → i + n ≤ top → (i + n ≤ lo) ⊎ (hi ≤ i) → words u i n ≡ words w i n
words_kept lo hi top w u i n k h g = words_same w u i n (λ j p q. k.same j (omega arith) (⊎_elim (λ x. inl (omega arith)) (λ x. inr (omega arith)) g))

-- ---- copying

-- two lists that have a word's bytes, each at its place, have the word
word_moved : (w u : List ℕ) (i j : ℕ) → ((k : ℕ) → k < 4 → get_or u (4 * i + k) 0 ≡ get_or w (4 * j + k) 0) → word u i ≡ word w j
unfolding word le32
word_moved w u i j h =
    let x : 4 * i + 0 ≡ 4 * i = add-zero (4 * i) in
    let y : 4 * j + 0 ≡ 4 * j = add-zero (4 * j) in
    let e : get_or u (4 * i) 0 ≡ get_or w (4 * j) 0 = rw (x, y) at (h 0 (omega arith)) in
    rw (e, h 1 (omega arith), h 2 (omega arith), h 3 (omega arith))

words_moved : (w u : List ℕ) (i j n : ℕ) → ((k : ℕ) → k < n → word u (i + k) ≡ word w (j + k)) → words u i n ≡ words w j n
words_moved w u i j zero f = refl
words_moved w u i j (suc n) f =
    let e : word u i ≡ word w j = rw (add-zero i, add-zero j) at (f 0 (omega arith)) in
    rw (e, words_moved w u (suc i) (suc j) n (λ k h. let x : i + suc k ≡ suc i + k = omega arith in let y : j + suc k ≡ suc j + k = omega arith in rw (x, y) at (f (suc k) (omega arith))))

module _ (lo n to : ℕ) (w u : List ℕ) where
  pub copies : CopiedTo w u (4 * lo) (4 * to) (4 * (lo + n) - 4 * lo) → SameBelow w u (4 * to) → SameFrom w u (4 * to + (4 * (lo + n) - 4 * lo)) → Copies lo n to w u
  copies c b f = record {
    copied = words_moved w u to lo n (λ i h. word_moved w u (to + i) (lo + i) (λ k g.
        let e : 4 * lo + (4 * (to + i) + k - 4 * to) ≡ 4 * (lo + i) + k = omega arith in
        rw e at (c (4 * (to + i) + k) 0 (omega arith) (omega arith))));
    kept = λ top. record {
      same = λ j p q. word_of_bytes u w j (λ k g h. ⊎_elim (λ x. b k 0 (omega arith)) (λ x. f k 0 (omega arith)) q);
    };
  }

-- the first part aside, the second down, the first behind it
pub rotates : (hs : Halves) (w w1 w2 u : List ℕ) → Copies hs.lo hs.h hs.top w w1 → Copies (hs.lo + hs.h) hs.m hs.lo w1 w2 → Copies hs.top hs.h (hs.lo + hs.m) w2 u → Rotates hs w u
rotates hs w w1 w2 u a b c = record {
  turned =
      words_append u hs.lo hs.m hs.h
      ∙ rw (
        words_kept (hs.lo + hs.m) (hs.lo + hs.m + hs.h) (hs.lo + hs.m) w2 u hs.lo hs.m (c.kept (hs.lo + hs.m)) (omega (arith, hs.apart)) (inl (omega (arith, hs.apart))),
        c.copied,
        words_kept hs.lo (hs.lo + hs.m) (hs.top + hs.h) w1 w2 hs.top hs.h (b.kept (hs.top + hs.h)) (omega (arith, hs.apart)) (inr (omega (arith, hs.apart))),
        a.copied,
        b.copied,
        words_kept hs.top (hs.top + hs.h) hs.top w w1 (hs.lo + hs.h) hs.m (a.kept hs.top) (omega (arith, hs.apart)) (inl (omega (arith, hs.apart))),
      );
  kept = record {
    same = λ j p q.
        (c.kept hs.top).same j p (⊎_elim (λ x. inl (omega (arith, hs.apart))) (λ x. inr (omega (arith, hs.apart))) q)
        ∙ (b.kept hs.top).same j p (⊎_elim (λ x. inl (omega (arith, hs.apart))) (λ x. inr (omega (arith, hs.apart))) q)
        ∙ (a.kept hs.top).same j p (inl (omega (arith, hs.apart)));
  };
}

-- ---- merging

module _ (l : List ℕ) where
  take_rest : (a : List ℕ) → merge (le_at l) a [] ≡ a
  unfolding merge
  take_rest [] = refl
  take_rest (x ∷ a) = refl

  take_left : (x y : ℕ) (a b : List ℕ) → le_at l x y ≡ true → merge (le_at l) (x ∷ a) (y ∷ b) ≡ x ∷ merge (le_at l) a (y ∷ b)
  unfolding merge
  take_left x y a b h = rw h

  take_right : (x y : ℕ) (a b : List ℕ) → le_at l x y ≡ false → merge (le_at l) (x ∷ a) (y ∷ b) ≡ y ∷ merge (le_at l) (x ∷ a) b
  unfolding merge
  take_right x y a b h = rw h

-- i words of the left and j of the right are merged
pub record Merged (l : List ℕ) (hs : Halves) (w u : List ℕ) (i j : ℕ) : Type 0 where
  pub left : i ≤ hs.h
  pub right : j ≤ hs.m
  pub long : length u ≡ length w
  pub same : words u hs.lo (i + j) ++ merge (le_at l) (words u (hs.top + i) (hs.h - i)) (words u (hs.lo + hs.h + j) (hs.m - j)) ≡ merge (le_at l) (words w hs.top hs.h) (words w (hs.lo + hs.h) hs.m)
  pub kept : Kept hs.lo (hs.lo + hs.h + hs.m) hs.top w u

-- neither half is at its end, and the next names are a and b
pub record Merging (l : List ℕ) (hs : Halves) (w u : List ℕ) (i j : ℕ) (a b : Head) : Type 0 where
  pub merged : Merged l hs w u i j
  pub less : i < hs.h
  pub more : j < hs.m
  pub first : HeadOf l (word u (hs.top + i)) a
  pub second : HeadOf l (word u (hs.lo + hs.h + j)) b

-- a name that was read stays where a word elsewhere is stored
head_put : (l w : List ℕ) (k : ℕ) (a : Head) (i v : ℕ) → HeadOf l (word w k) a → (i ≡ k → ⊥) → HeadOf l (word (put_word w i v) k) a
head_put l w k a i v h n = rw (word_put_other w i v k n) h

module _ (l : List ℕ) (hs : Halves) (w : List ℕ) where
  module _ (u : List ℕ) (i j : ℕ) (c : Merged l hs w u i j) where
    -- the left is at its end, and what is left of the right stands where it belongs
    pub merged_end : i ≡ hs.h → Merges l hs w u
    unfolding merge
    merged_end e =
        let z : hs.h - hs.h ≡ 0 = omega arith in
        let f : hs.h + hs.m ≡ hs.h + j + (hs.m - j) = omega (arith, c.right) in
        let k : hs.lo + hs.h + j ≡ hs.lo + (hs.h + j) = omega arith in
        record { merged = rw f (words_append u hs.lo (hs.h + j) (hs.m - j) ∙ rw (← k) (rw (e, z) at c.same)); kept = c.kept }

    -- the right is at its end, and what is left of the left is copied behind
    pub merged_rest : (u' : List ℕ) → j ≡ hs.m → Copies (hs.top + i) (hs.h - i) (hs.lo + i + j) u u' → Merges l hs w u'
    merged_rest u' e d =
        let z : hs.m - j ≡ 0 = omega arith in
        let f : hs.h + hs.m ≡ i + j + (hs.h - i) = omega (arith, c.left) in
        let k : hs.lo + (i + j) ≡ hs.lo + i + j = omega arith in
        let n : words u' hs.lo (i + j) ≡ words u hs.lo (i + j) = words_kept (hs.lo + i + j) (hs.lo + i + j + (hs.h - i)) (hs.lo + i + j) u u' hs.lo (i + j) (d.kept (hs.lo + i + j)) (omega arith) (inl (omega arith)) in
        record {
          merged = rw f (words_append u' hs.lo (i + j) (hs.h - i) ∙ rw (k, n, d.copied) (rw (z, take_rest l (words u (hs.top + i) (hs.h - i))) at c.same));
          kept = record { same = λ q p r. (d.kept hs.top).same q p (⊎_elim (λ x. inl (omega arith)) (λ x. inr (omega (arith, c.left, c.right))) r) ∙ c.kept.same q p r };
        }

  module _ (a₀ b₀ : Head) (pre : MergePre l hs w a₀ b₀) where
    pub merging_start : Merging l hs w w 0 0 a₀ b₀
    merging_start =
        let x : hs.h - 0 ≡ hs.h = omega arith in
        let y : hs.m - 0 ≡ hs.m = omega arith in
        record {
          merged = record {
            left = omega arith;
            right = omega arith;
            long = refl;
            same = rw (add-zero hs.top, add-zero (hs.lo + hs.h), x, y);
            kept = kept_none hs.lo (hs.lo + hs.h + hs.m) hs.top w;
          };
          less = pre.halves.left;
          more = pre.halves.right;
          first = rw (add-zero hs.top) pre.left;
          second = rw (add-zero (hs.lo + hs.h)) pre.right;
        }

    module _ (u : List ℕ) (i j : ℕ) (a b : Head) (c : Merging l hs w u i j a b) (t : Bool) (p : t ≡ first_of l a b) where
      test : le_at l (word u (hs.top + i)) (word u (hs.lo + hs.h + j)) ≡ t
      test = sym (first_is l (word u (hs.top + i)) (word u (hs.lo + hs.h + j)) a b c.first c.second) ∙ sym p

      module _ (v : ℕ) (u' : List ℕ) (q : u' ≡ put_word u (hs.lo + i + j) v) where
        wrote : (k : ℕ) → k ≡ i + j + 1 → words u' hs.lo k ≡ words u hs.lo (i + j) ++ (v ∷ [])
        wrote k e =
            let f : hs.lo + i + j ≡ hs.lo + (i + j) = omega arith in
            rw (e, q, f) (words_more u hs.lo (i + j) v (omega (arith, c.merged.long, c.more, c.less, hs.apart, pre.halves.room)))

        left_put : (k : ℕ) → words u' (hs.top + k) (hs.h - k) ≡ words u (hs.top + k) (hs.h - k)
        left_put k = rw q (words_put u (hs.lo + i + j) v (hs.top + k) (hs.h - k) (inl (omega (arith, c.more, c.less, hs.apart))))

        right_put : (k : ℕ) → j ≤ k → words u' (hs.lo + hs.h + k) (hs.m - k) ≡ words u (hs.lo + hs.h + k) (hs.m - k)
        right_put k g = rw q (words_put u (hs.lo + i + j) v (hs.lo + hs.h + k) (hs.m - k) (inl (omega (arith, c.less))))

        long' : length u' ≡ length w
        long' = rw (q, length_put u (hs.lo + i + j) v) c.merged.long

        kept' : Kept hs.lo (hs.lo + hs.h + hs.m) hs.top w u'
        kept' = rw q (kept_put hs.lo (hs.lo + hs.h + hs.m) hs.top w u (hs.lo + i + j) v c.merged.kept (inl (omega arith, omega (arith, c.less, c.more))))

        step : (k : ℕ) (d e f : List ℕ) → k ≡ i + j + 1 → f ≡ v ∷ merge (le_at l) d e → words u hs.lo (i + j) ++ f ≡ merge (le_at l) (words w hs.top hs.h) (words w (hs.lo + hs.h) hs.m)
            → words u' hs.lo k ++ merge (le_at l) d e ≡ merge (le_at l) (words w hs.top hs.h) (words w (hs.lo + hs.h) hs.m)
        step k d e f g h n = rw (wrote k g) (append_assoc (words u hs.lo (i + j)) (v ∷ []) (merge (le_at l) d e) ∙ rw h at n)

      -- both halves from their next names on
      both : words u hs.lo (i + j) ++ merge (le_at l) (word u (hs.top + i) ∷ words u (hs.top + (i + 1)) (hs.h - (i + 1))) (word u (hs.lo + hs.h + j) ∷ words u (hs.lo + hs.h + (j + 1)) (hs.m - (j + 1)))
          ≡ merge (le_at l) (words w hs.top hs.h) (words w (hs.lo + hs.h) hs.m)
      both = rw (words_first u hs.top i hs.h c.less, words_first u (hs.lo + hs.h) j hs.m c.more) at c.merged.same

      -- the left name is the next
      module _ (g : t ≡ true) (u' : List ℕ) (q : u' ≡ put_word u (hs.lo + i + j) a.place) where
        merged_left : Merged l hs w u' (i + 1) j
        merged_left =
            let e : a.place ≡ word u (hs.top + i) = c.first.place in
            record {
              left = omega (arith, c.less);
              right = c.merged.right;
              long = long' a.place u' q;
              same =
                  rw (left_put a.place u' q (i + 1), right_put a.place u' q j (omega arith), words_first u (hs.lo + hs.h) j hs.m c.more)
                  (step a.place u' q (i + 1 + j) _ _ _ (omega arith) (rw e (take_left l _ _ _ _ (test ∙ g))) both);
              kept = kept' a.place u' q;
            }

        pub ends_left : i + 1 ≡ hs.h → Merges l hs w u'
        ends_left e = merged_end u' (i + 1) j merged_left e

        pub merging_left : (a' : Head) → (i + 1 ≡ hs.h → ⊥) → HeadOf l (word u' (hs.top + (i + 1))) a' → Merging l hs w u' (i + 1) j a' b
        merging_left a' n h = record {
          merged = merged_left;
          less = omega (arith, c.less, n);
          more = c.more;
          first = h;
          second = rw q (head_put l u (hs.lo + hs.h + j) b (hs.lo + i + j) a.place c.second (λ z. omega (arith, c.less)));
        }

      module _ (g : t ≡ false) (u' : List ℕ) (q : u' ≡ put_word u (hs.lo + i + j) b.place) where
        merged_right : Merged l hs w u' i (j + 1)
        merged_right =
            let e : b.place ≡ word u (hs.lo + hs.h + j) = c.second.place in
            record {
              left = c.merged.left;
              right = omega (arith, c.more);
              long = long' b.place u' q;
              same =
                  rw (left_put b.place u' q i, right_put b.place u' q (j + 1) (omega arith), words_first u hs.top i hs.h c.less)
                  (step b.place u' q (i + (j + 1)) _ _ _ (omega arith) (rw e (take_right l _ _ _ _ (test ∙ g))) both);
              kept = kept' b.place u' q;
            }

        pub ends_right : (u₂ : List ℕ) → j + 1 ≡ hs.m → Copies (hs.top + i) (hs.h - i) (hs.lo + i + (j + 1)) u' u₂ → Merges l hs w u₂
        ends_right u₂ e d = merged_rest u' i (j + 1) merged_right u₂ e d

        pub merging_right : (b' : Head) → (j + 1 ≡ hs.m → ⊥) → HeadOf l (word u' (hs.lo + hs.h + (j + 1))) b' → Merging l hs w u' i (j + 1) a b'
        merging_right b' n h = record {
          merged = merged_right;
          less = c.less;
          more = omega (arith, c.more, n);
          first = rw q (head_put l u (hs.top + i) a (hs.lo + i + j) b.place c.first (λ z. omega (arith, c.less, c.more, hs.apart)));
          second = h;
        }

-- ---- the order of places

at_trans : (l : List ℕ) (x y z : ℕ) → le_at l x y ≡ true → le_at l y z ≡ true → le_at l x z ≡ true
unfolding le_at
at_trans l x y z = name_trans (name_at l x) (name_at l y) (name_at l z)

at_total : (l : List ℕ) (x y : ℕ) → le_at l x y ≡ false → le_at l y x ≡ true
unfolding le_at
at_total l x y = name_total (name_at l x) (name_at l y)

-- ---- joining

module _ (l : List ℕ) (hs : Halves) (w : List ℕ) (d : HalvesIn hs w) where
  merged_all : (p q : List ℕ) → words w hs.lo hs.h ≡ isort (le_at l) p → words w (hs.lo + hs.h) hs.m ≡ isort (le_at l) q → merge (le_at l) (words w hs.lo hs.h) (words w (hs.lo + hs.h) hs.m) ≡ isort (le_at l) (p ++ q)
  merged_all p q f g = rw (f, g) (sym (isort_append (le_at l) (at_trans l) (at_total l) p q))

  -- they meet in order
  pub joins_met : (a b : Head) (t : Bool) → HeadOf l (word w (hs.lo + hs.h - 1)) a → HeadOf l (word w (hs.lo + hs.h)) b → t ≡ first_of l a b → t ≡ true → Joins l hs w w
  joins_met a b t ha hb f g =
      let k : hs.h ≡ hs.h - 1 + 1 = omega (arith, d.left) in
      let i : hs.lo + (hs.h - 1) ≡ hs.lo + hs.h - 1 = omega (arith, d.left) in
      let j : hs.m ≡ suc (hs.m - 1) = omega (arith, d.right) in
      let v : ℕ = word w (hs.lo + hs.h - 1) in
      let x : words w hs.lo hs.h ≡ words w hs.lo (hs.h - 1) ++ (v ∷ []) = ap (words w hs.lo) k ∙ words_snoc w hs.lo (hs.h - 1) ∙ rw i in
      let y : words w (hs.lo + hs.h) hs.m ≡ word w (hs.lo + hs.h) ∷ words w (suc (hs.lo + hs.h)) (hs.m - 1) = ap (words w (hs.lo + hs.h)) j in
      let z : le_at l v (word w (hs.lo + hs.h)) ≡ true = sym (first_is l v (word w (hs.lo + hs.h)) a b ha hb) ∙ sym f ∙ g in
      record {
        joined = λ p q s r.
            words_append w hs.lo hs.h hs.m
            ∙ rw (y, s) (sym (merge_met (le_at l) (at_trans l) (at_total l) p (words w hs.lo (hs.h - 1)) v (word w (hs.lo + hs.h)) (words w (suc (hs.lo + hs.h)) (hs.m - 1)) (sym s ∙ x) z))
            ∙ merged_all p q s r;
        kept = kept_none hs.lo (hs.lo + hs.h + hs.m) hs.top w;
      }

  module _ (w1 : List ℕ) (c : Copies hs.lo hs.h hs.top w w1) where
    right_copied : words w1 (hs.lo + hs.h) hs.m ≡ words w (hs.lo + hs.h) hs.m
    right_copied = words_kept hs.top (hs.top + hs.h) hs.top w w1 (hs.lo + hs.h) hs.m (c.kept hs.top) (omega (arith, hs.apart)) (inl (omega (arith, hs.apart)))

    -- the first names of both halves, once the left one is aside
    pub merge_pre : (x b : Head) → length w1 ≡ length w → HeadOf l (word w hs.lo) x → HeadOf l (word w (hs.lo + hs.h)) b → MergePre l hs w1 x b
    merge_pre x b e hx hb =
        let k : hs.h ≡ suc (hs.h - 1) = omega (arith, d.left) in
        let j : hs.m ≡ suc (hs.m - 1) = omega (arith, d.right) in
        let p : word w1 hs.top ∷ words w1 (suc hs.top) (hs.h - 1) ≡ word w hs.lo ∷ words w (suc hs.lo) (hs.h - 1) = rw k at c.copied in
        let q : word w1 (hs.lo + hs.h) ∷ words w1 (suc (hs.lo + hs.h)) (hs.m - 1) ≡ word w (hs.lo + hs.h) ∷ words w (suc (hs.lo + hs.h)) (hs.m - 1) = rw j at right_copied in
        let p' : word w1 hs.top ≡ word w hs.lo = cc in
        let q' : word w1 (hs.lo + hs.h) ≡ word w (hs.lo + hs.h) = cc in
        record { halves = record { left = d.left; right = d.right; room = rw e d.room }; left = rw p' hx; right = rw q' hb }

    pub joins_merged : (u : List ℕ) → Merges l hs w1 u → Joins l hs w u
    joins_merged u g = record {
      joined = λ p q s r. g.merged ∙ rw (c.copied, right_copied) (merged_all p q s r);
      kept = record { same = λ j p q. g.kept.same j p q ∙ (c.kept hs.top).same j p (inl (omega arith)) };
    }

  -- they are wholly the wrong way round
  pub joins_turned : (a b : Head) (t : Bool) (u : List ℕ) → HeadOf l (word w hs.lo) a → HeadOf l (word w (hs.lo + hs.h + hs.m - 1)) b → t ≡ first_of l a b → t ≡ false → Rotates hs w u → Joins l hs w u
  joins_turned a b t u ha hb f g c =
      let k : hs.m ≡ hs.m - 1 + 1 = omega (arith, d.right) in
      let i : hs.lo + hs.h + (hs.m - 1) ≡ hs.lo + hs.h + hs.m - 1 = omega (arith, d.right) in
      let j : hs.h ≡ suc (hs.h - 1) = omega (arith, d.left) in
      let n : hs.h + hs.m ≡ hs.m + hs.h = omega arith in
      let x : ℕ = word w hs.lo in
      let e : ℕ = word w (hs.lo + hs.h + hs.m - 1) in
      let v : words w (hs.lo + hs.h) hs.m ≡ words w (hs.lo + hs.h) (hs.m - 1) ++ (e ∷ []) = ap (words w (hs.lo + hs.h)) k ∙ words_snoc w (hs.lo + hs.h) (hs.m - 1) ∙ rw i in
      let y : words w hs.lo hs.h ≡ x ∷ words w (suc hs.lo) (hs.h - 1) = ap (words w hs.lo) j in
      let z : le_at l x e ≡ false = sym (first_is l x e a b ha hb) ∙ sym f ∙ g in
      record {
        joined = λ p q s r.
            ap (words u hs.lo) n
            ∙ c.turned
            ∙ rw (y, r) (sym (merge_turned (le_at l) (at_trans l) (at_total l) q (words w (hs.lo + hs.h) (hs.m - 1)) x e (words w (suc hs.lo) (hs.h - 1)) (sym r ∙ v) z))
            ∙ merged_all p q s r;
        kept = c.kept;
      }

-- ---- pairs

module _ (l : List ℕ) (lo : ℕ) (w : List ℕ) (a b : Head) (t : Bool) (ha : HeadOf l (word w lo) a) (hb : HeadOf l (word w (lo + 1)) b) (f : t ≡ first_of l a b) where
  pair_test : le_at l (word w lo) (word w (suc lo)) ≡ t
  pair_test = let i : lo + 1 ≡ suc lo = omega arith in rw i at (sym (first_is l (word w lo) (word w (lo + 1)) a b ha hb) ∙ sym f)

  pub pairs_met : t ≡ true → Pairs l lo w w
  unfolding isort insert
  pairs_met g = record { sorted = rw (pair_test, g); kept = λ top. kept_none lo (lo + 2) top w }

  pub pairs_turned : (w1 u : List ℕ) → 4 * (lo + 2) ≤ length w → t ≡ false → w1 ≡ put_word w lo b.place → u ≡ put_word w1 (lo + 1) a.place → Pairs l lo w u
  unfolding isort insert
  pairs_turned w1 u room g r s =
      let i : lo + 1 ≡ suc lo = omega arith in
      let x : word u lo ≡ b.place = rw (s, r) (word_put_other (put_word w lo b.place) (lo + 1) a.place lo (λ n. omega arith) ∙ word_put_same w lo b.place (omega arith)) in
      let y : word u (suc lo) ≡ a.place = rw (s, r, i) (word_put_same (put_word w lo b.place) (suc lo) a.place (omega (arith, length_put w lo b.place))) in
      record {
        sorted = rw (pair_test, g, x, y, ha.place, hb.place, i);
        kept = λ top. rw (s, r) (kept_put lo (lo + 2) top w (put_word w lo b.place) (lo + 1) a.place (kept_put lo (lo + 2) top w w lo b.place (kept_none lo (lo + 2) top w) (inl (omega arith, omega arith))) (inl (omega arith, omega arith)));
      }

-- ---- sorting

pub sorts_few : (l : List ℕ) (lo n top : ℕ) (w : List ℕ) → n < 2 → Sorts l lo n top w w
unfolding isort insert
sorts_few l lo zero top w h = record { sorted = refl; kept = kept_none lo (lo + 0) top w }
sorts_few l lo (suc zero) top w h = record { sorted = refl; kept = kept_none lo (lo + 1) top w }
sorts_few l lo (suc (suc n)) top w h = absurd (omega arith)

-- the two halves are sorted, one after the other
module _ (l : List ℕ) (lo n h m top : ℕ) (w0 w1 w2 : List ℕ) (whole : n ≡ h + m) (apart : lo + n ≤ top) (s : Sorts l lo h top w0 w1) (t : Sorts l (lo + h) m top w1 w2) where
  left_half : words w2 lo h ≡ isort (le_at l) (words w0 lo h)
  left_half = words_kept (lo + h) (lo + h + m) top w1 w2 lo h t.kept (omega arith) (inl (omega arith)) ∙ s.sorted

  right_half : words w2 (lo + h) m ≡ isort (le_at l) (words w0 (lo + h) m)
  right_half = t.sorted ∙ ap (isort (le_at l)) (words_kept lo (lo + h) top w0 w1 (lo + h) m s.kept (omega arith) (inr (omega arith)))

  stays : Kept lo (lo + n) top w0 w2
  stays = record {
    same = λ j p q.
        t.kept.same j p (⊎_elim (λ x. inl (omega arith)) (λ x. inr (omega arith)) q)
        ∙ s.kept.same j p (⊎_elim (λ x. inl (omega arith)) (λ x. inr (omega arith)) q);
  }

  joined_all : (w3 : List ℕ) (hs : Halves) → hs.lo ≡ lo → hs.h ≡ h → hs.m ≡ m → hs.top ≡ top → Joins l hs w2 w3 → Sorts l lo n top w0 w3
  joined_all w3 hs a b c d g =
      let left : words w2 hs.lo hs.h ≡ isort (le_at l) (words w0 lo h) = rw (a, b) left_half in
      let right : words w2 (hs.lo + hs.h) hs.m ≡ isort (le_at l) (words w0 (lo + h) m) = rw (a, b, c) right_half in
      let all : words w3 lo (h + m) ≡ isort (le_at l) (words w0 lo h ++ words w0 (lo + h) m) = rw (a, b, c) at (g.joined (words w0 lo h) (words w0 (lo + h) m) left right) in
      record {
        sorted = ap (words w3 lo) whole ∙ all ∙ ap (isort (le_at l)) (sym (words_append w0 lo h m) ∙ ap (words w0 lo) (sym whole));
        kept = record { same = λ j p q. g.kept.same j (omega arith) (⊎_elim (λ x. inl (omega arith)) (λ x. inr (omega arith)) q) ∙ stays.same j p q };
      }

pub sorts_halves : (l : List ℕ) (lo n top : ℕ) (w0 w1 w2 w3 : List ℕ) → lo + n ≤ top → Sorts l lo (n / 2) top w0 w1 → Sorts l (lo + n / 2) (n - n / 2) top w1 w2
    → (hs : Halves) → hs.lo ≡ lo → hs.h ≡ n / 2 → hs.m ≡ n - n / 2 → hs.top ≡ top → Joins l hs w2 w3 → Sorts l lo n top w0 w3
sorts_halves l lo n top w0 w1 w2 w3 d s t = joined_all l lo n (n / 2) (n - n / 2) top w0 w1 w2 (omega arith) d s t w3
