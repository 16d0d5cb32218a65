-- Laws of specs/Table.
use Rattle.std.specs.Prelude.{Option, Some, None}
use mathlib.Core.Path.{◌≡◌, refl, sym, ◌∙◌}
use mathlib.Core.List.{List}
use mathlib.Core.Logic.{⊎_elim, ◌⊎◌, inl}
use mathlib.Core.Bool.{Bool, true, false, cond}
use Prim.Native.Nat.{ℕ, zero, suc, ◌+◌, ◌*◌, ◌<◌, ◌≤◌}
use native.Mathlib.Omega.{arith}
use native.Mathlib.Numerals.{add-one}
use lib.ListN.{length}
use lib.Dec.{eqb}
use borrow.Author.Tests.{eqb-true, eqb-false}
use Rattle.laws.proofs.Choice.{split≡, split≤}
use Rattle.words.specs.Words.{word, put_word, long, put_long}
use Rattle.words.proofs.Words.{length_put, word_put_same, word_put_other, long_put_same}
use Rattle.words.specs.Front.{Front}
use Rattle.words.proofs.Front.{front_put, front_then}
use Rattle.table.specs.Table.{find_in, put_row, Slot, none, some, lookup, upd, second, sum_of, Stored, Agree, Refilled}

-- ---- what the search says of the table

pub find_below : (w : List ℕ) (b k n i : ℕ) → find_in w b k n ≡ Some i → i < n
unfolding find_in
find_below w b k zero i e = let z : ◌≡◌ {A = ℕ} 0 1 = cc in omega arith
find_below w b k (suc n) i e = go (eqb (long w (b + 4 * n)) k) e (find_below w b k n i) where
  go : (t : Bool) → cond t (Some n) (find_in w b k n) ≡ Some i → (find_in w b k n ≡ Some i → i < n) → i < suc n
  go true p ih = let z : n ≡ i = cc in omega arith
  go false p ih = let z : i < n = ih p in omega arith

pub found_below : (w : List ℕ) (b k n i : ℕ) (f : Option ℕ) → f ≡ find_in w b k n → f ≡ Some i → i < n
found_below w b k n i f p q = find_below w b k n i (sym p ∙ q)

pub lookup_found : (w : List ℕ) (b k n i : ℕ) → find_in w b k n ≡ Some i → lookup w b n k ≡ some (word w (b + 4 * i + 2)) (word w (b + 4 * i + 3))
unfolding find_in lookup
lookup_found w b k zero i e = let z : ◌≡◌ {A = ℕ} 0 1 = cc in absurd (omega arith)
lookup_found w b k (suc n) i e = go (eqb (long w (b + 4 * n)) k) e (lookup_found w b k n i) where
  go : (t : Bool) → cond t (Some n) (find_in w b k n) ≡ Some i → (find_in w b k n ≡ Some i → lookup w b n k ≡ some (word w (b + 4 * i + 2)) (word w (b + 4 * i + 3))) → cond t (some (word w (b + 4 * n + 2)) (word w (b + 4 * n + 3))) (lookup w b n k) ≡ some (word w (b + 4 * i + 2)) (word w (b + 4 * i + 3))
  go true p ih = let z : n ≡ i = cc in rw z
  go false p ih = ih p

pub lookup_nothing : (w : List ℕ) (b k n : ℕ) → find_in w b k n ≡ None → lookup w b n k ≡ none
unfolding find_in lookup
lookup_nothing w b k zero e = refl
lookup_nothing w b k (suc n) e = go (eqb (long w (b + 4 * n)) k) e (lookup_nothing w b k n) where
  go : (t : Bool) → cond t (Some n) (find_in w b k n) ≡ None → (find_in w b k n ≡ None → lookup w b n k ≡ none) → cond t (some (word w (b + 4 * n + 2)) (word w (b + 4 * n + 3))) (lookup w b n k) ≡ none
  go true p ih = let z : ◌≡◌ {A = ℕ} 0 1 = cc in absurd (omega arith)
  go false p ih = ih p

pub row_outside : (w : List ℕ) (at k y z j : ℕ) → ((j < at) ⊎ (at + 4 ≤ j)) → word (put_row w at k y z) j ≡ word w j
unfolding put_row put_long
row_outside w at k y z j h =
    let n0 : at ≡ j → ⊥ = λ e. ⊎_elim (λ l. omega arith) (λ l. omega arith) h in
    let n1 : at + 1 ≡ j → ⊥ = λ e. ⊎_elim (λ l. omega arith) (λ l. omega arith) h in
    let n2 : at + 2 ≡ j → ⊥ = λ e. ⊎_elim (λ l. omega arith) (λ l. omega arith) h in
    let n3 : at + 3 ≡ j → ⊥ = λ e. ⊎_elim (λ l. omega arith) (λ l. omega arith) h in
    simp word_put_other

pub length_row : (w : List ℕ) (at k y z : ℕ) → length (put_row w at k y z) ≡ length w
unfolding put_row put_long
length_row w at k y z = simp length_put

pub front_row : (n : ℕ) (w : List ℕ) (at k y z : ℕ) → n ≤ 4 * at → Front n (put_row w at k y z) w
unfolding put_row put_long
front_row n w at k y z h =
    front_then n _ _ w (front_put n _ (at + 3) z (omega arith))
    (front_then n _ _ w (front_put n _ (at + 2) y (omega arith))
    (front_then n _ _ w (front_put n _ (at + 1) _ (omega arith)) (front_put n w at _ h)))

module _ (w : List ℕ) (at k y z : ℕ) (fits : 4 * at + 16 ≤ length w) where
  long_as : (v : List ℕ) → word v at ≡ word (put_long w at k) at → word v (at + 1) ≡ word (put_long w at k) (at + 1) → long v at ≡ k
  unfolding long
  long_as v p q = rw (p, q) (kept) where
    kept : word (put_long w at k) at + 4294967296 * word (put_long w at k) (at + 1) ≡ k
    kept = long_put_same w at k (omega arith)

  pub row_key : long (put_row w at k y z) at ≡ k
  unfolding put_row
  row_key =
      let n2 : at + 2 ≡ at → ⊥ = λ e. omega arith in
      let n3 : at + 3 ≡ at → ⊥ = λ e. omega arith in
      let m2 : at + 2 ≡ at + 1 → ⊥ = λ e. omega arith in
      let m3 : at + 3 ≡ at + 1 → ⊥ = λ e. omega arith in
      long_as (put_word (put_word (put_long w at k) (at + 2) y) (at + 3) z) (simp word_put_other) (simp word_put_other)

  pub row_first : word (put_row w at k y z) (at + 2) ≡ y
  unfolding put_row put_long
  row_first =
      let n3 : at + 3 ≡ at + 2 → ⊥ = λ e. omega arith in
      simp word_put_other (word_put_same (put_word (put_word w at _) (at + 1) _) (at + 2) y (simp length_put (omega arith)))

  pub row_second : word (put_row w at k y z) (at + 3) ≡ z
  unfolding put_row put_long
  row_second = word_put_same (put_word (put_word (put_word w at _) (at + 1) _) (at + 2) y) (at + 3) z (simp length_put (omega arith))

-- ---- a table does not see what is written elsewhere

pub long_agree : (w u : List ℕ) (i : ℕ) → word w i ≡ word u i → word w (i + 1) ≡ word u (i + 1) → long w i ≡ long u i
unfolding long
long_agree w u i p q = rw (p, q)

pub lookup_agree : (w u : List ℕ) (b n k : ℕ) → Agree b (b + 4 * n) w u → lookup w b n k ≡ lookup u b n k
unfolding lookup
lookup_agree w u b zero k h = refl
lookup_agree w u b (suc n) k h =
    rw (
      long_agree w u (b + 4 * n) (h (b + 4 * n) (omega arith) (omega arith)) (h (b + 4 * n + 1) (omega arith) (omega arith)),
      h (b + 4 * n + 2) (omega arith) (omega arith),
      h (b + 4 * n + 3) (omega arith) (omega arith),
      lookup_agree w u b n k (λ j lo hi. h j lo (omega arith)),
    )

pub sum_agree : (w u : List ℕ) (b n : ℕ) → Agree b (b + 4 * n) w u → sum_of w b n ≡ sum_of u b n
unfolding sum_of
sum_agree w u b zero h = refl
sum_agree w u b (suc n) h = rw (h (b + 4 * n + 3) (omega arith) (omega arith), sum_agree w u b n (λ j lo hi. h j lo (omega arith)))

pub second_le : (w : List ℕ) (b n k : ℕ) → second (lookup w b n k) ≤ sum_of w b n
unfolding sum_of lookup second
second_le w b zero k = omega arith
second_le w b (suc n) k = go (eqb (long w (b + 4 * n)) k) (second_le w b n k) where
  go : (t : Bool) → second (lookup w b n k) ≤ sum_of w b n → second (cond t (some (word w (b + 4 * n + 2)) (word w (b + 4 * n + 3))) (lookup w b n k)) ≤ sum_of w b n + word w (b + 4 * n + 3)
  go true h = omega arith
  go false h = omega arith

-- ---- one row more

module _ (w : List ℕ) (b n k y z : ℕ) (fits : 4 * (b + 4 * n) + 16 ≤ length w) where
  pub same_below : Agree b (b + 4 * n) (put_row w (b + 4 * n) k y z) w
  same_below j lo hi = row_outside w (b + 4 * n) k y z j (inl hi)

  lookup_append : (j : ℕ) → lookup (put_row w (b + 4 * n) k y z) b (suc n) j ≡ upd (lookup w b n) k (some y z) j
  unfolding lookup upd
  lookup_append j =
      rw (
        lookup_agree _ _ b n j same_below,
        row_key w (b + 4 * n) k y z fits,
        row_first w (b + 4 * n) k y z fits,
        row_second w (b + 4 * n) k y z fits,
      )

  sum_append : sum_of (put_row w (b + 4 * n) k y z) b (suc n) ≡ sum_of w b n + z
  unfolding sum_of
  sum_append = rw (sum_agree _ _ b n same_below, row_second w (b + 4 * n) k y z fits)

  pub store_new : (f : Option ℕ) → f ≡ find_in w b k n → f ≡ None → (u : List ℕ) → u ≡ put_row w (b + 4 * n) k y z → Stored w b n k y z u (n + 1)
  unfolding second
  store_new f p q u e =
      let s : lookup w b n k ≡ none = lookup_nothing w b k n (sym p ∙ q) in
      rw e (record {
        says = λ j. rw add-one (lookup_append j);
        sum = rw (add-one n, s, sum_append) (omega arith);
        least = omega arith;
        most = omega arith;
        front = front_row (4 * b) w (b + 4 * n) k y z (omega arith);
        size = length_row w (b + 4 * n) k y z;
      })

-- ---- the values of a row put anew

twice : (t : Bool) (a b c : Slot) → cond t a c ≡ cond t a (cond t b c)
twice true a b c = refl
twice false a b c = refl

swap : (a k j : ℕ) → (a ≡ k → ⊥) → (x y c : Slot) → cond (eqb a j) x (cond (eqb k j) y c) ≡ cond (eqb k j) y (cond (eqb a j) x c)
swap a k j ne x y c = go (eqb a j) (eqb k j) refl refl where
  go : (s t : Bool) → eqb a j ≡ s → eqb k j ≡ t → cond s x (cond t y c) ≡ cond t y (cond s x c)
  go true true p q = absurd (ne (eqb-true a j p ∙ sym (eqb-true k j q)))
  go true false p q = refl
  go false true p q = refl
  go false false p q = refl

-- rows that say the same
rows_agree : (w u : List ℕ) (b n j : ℕ) → ((i : ℕ) → i < n → long u (b + 4 * i) ≡ long w (b + 4 * i)) →
    ((i : ℕ) → i < n → word u (b + 4 * i + 2) ≡ word w (b + 4 * i + 2)) → ((i : ℕ) → i < n → word u (b + 4 * i + 3) ≡ word w (b + 4 * i + 3)) → lookup u b n j ≡ lookup w b n j
unfolding lookup
rows_agree w u b zero j k f s = refl
rows_agree w u b (suc n) j k f s =
    rw (k n (omega arith), f n (omega arith), s n (omega arith), rows_agree w u b n j (λ i l. k i (omega arith)) (λ i l. f i (omega arith)) (λ i l. s i (omega arith)))

refilled_less : (w u : List ℕ) (b n i y z : ℕ) → Refilled w b (suc n) i y z u → Refilled w b n i y z u
refilled_less w u b n i y z r = record {
  keys = λ j l. r.keys j (omega arith);
  first = r.first;
  last = r.last;
  firsts = λ j l. r.firsts j (omega arith);
  lasts = λ j l. r.lasts j (omega arith);
}

pub lookup_refilled : (w u : List ℕ) (b k n i y z : ℕ) → find_in w b k n ≡ Some i → Refilled w b n i y z u → (j : ℕ) → lookup u b n j ≡ upd (lookup w b n) k (some y z) j
unfolding find_in lookup upd
lookup_refilled w u b k zero i y z e r j = let q : ◌≡◌ {A = ℕ} 0 1 = cc in absurd (omega arith)
lookup_refilled w u b k (suc n) i y z e r j =
    go (eqb (long w (b + 4 * n)) k) refl e (λ f. lookup_refilled w u b k n i y z f (refilled_less w u b n i y z r) j) where
      go :
          (t : Bool) → eqb (long w (b + 4 * n)) k ≡ t → cond t (Some n) (find_in w b k n) ≡ Some i →
          (find_in w b k n ≡ Some i → lookup u b n j ≡ upd (lookup w b n) k (some y z) j) →
          lookup u b (suc n) j ≡ upd (lookup w b (suc n)) k (some y z) j
      go true q p ih =
          let m : n ≡ i = cc in
          let same : lookup u b n j ≡ lookup w b n j =
          rows_agree w u b n j (λ a l. r.keys a (omega arith)) (λ a l. r.firsts a (omega arith) (λ d. omega arith)) (λ a l. r.lasts a (omega arith) (λ d. omega arith)) in
          rw (same, r.keys n (omega arith), eqb-true (long w (b + 4 * n)) k q, rw (← m) at r.first, rw (← m) at r.last) (twice (eqb k j) _ _ _)
      go false q p ih =
          let l : i < n = find_below w b k n i p in
          rw (r.keys n (omega arith), r.firsts n (omega arith) (λ d. omega arith), r.lasts n (omega arith) (λ d. omega arith), ih p)
          (swap (long w (b + 4 * n)) k j (eqb-false _ _ q) _ _ _)

lasts_agree : (w u : List ℕ) (b n : ℕ) → ((i : ℕ) → i < n → word u (b + 4 * i + 3) ≡ word w (b + 4 * i + 3)) → sum_of u b n ≡ sum_of w b n
unfolding sum_of
lasts_agree w u b zero s = refl
lasts_agree w u b (suc n) s = rw (s n (omega arith), lasts_agree w u b n (λ i l. s i (omega arith)))

lt_of : (a c : ℕ) → a < suc c → (a ≡ c → ⊥) → a < c
lt_of a c p q = split≤ (suc a) c (λ h. omega arith) (λ h. absurd (q (omega arith)))

pub sum_refilled : (w u : List ℕ) (b n i y z : ℕ) → i < n → Refilled w b n i y z u → sum_of u b n + word w (b + 4 * i + 3) ≡ sum_of w b n + z
unfolding sum_of
sum_refilled w u b zero i y z h r = absurd (omega arith)
sum_refilled w u b (suc n) i y z h r =
    split≡ i n
    (λ m. rw (m, lasts_agree w u b n (λ a l. r.lasts a (omega arith) (λ d. omega arith)), rw m at r.last) (omega arith))
    (λ m. rw (r.lasts n (omega arith) (λ d. m (sym d))) (omega (arith, sum_refilled w u b n i y z (lt_of i n h m) (refilled_less w u b n i y z r))))

-- the row of a key put anew
pub store_old : (w u : List ℕ) (b n k i y z : ℕ) → find_in w b k n ≡ Some i → Refilled w b n i y z u → Front (4 * b) u w → length u ≡ length w → Stored w b n k y z u n
unfolding second
store_old w u b n k i y z e r f l = record {
  says = lookup_refilled w u b k n i y z e r;
  sum = rw (lookup_found w b k n i e) (sum_refilled w u b n i y z (find_below w b k n i e) r);
  least = omega arith;
  most = omega arith;
  front = f;
  size = l;
}
