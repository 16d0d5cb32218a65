-- The row of a key, found or made, and its values stored: the laws that callers of seat go by.
use Rattle.std.specs.Prelude.{Option, Some, None}
use mathlib.Core.Path.{◌≡◌, refl, sym, ◌∙◌}
use mathlib.Core.List.{List}
use Prim.Native.Nat.{ℕ, ◌+◌, ◌*◌, ◌<◌, ◌≤◌}
use native.Mathlib.Omega.{arith}
use lib.ListN.{length}
use borrow.Author.Tests.{eq-eqb, ne_eqb}
use Rattle.laws.proofs.Choice.{split≡}
use Rattle.words.specs.Words.{word, put_word}
use Rattle.words.proofs.Words.{length_put, word_put_same, word_put_other}
use Rattle.words.specs.Front.{Front}
use Rattle.words.proofs.Front.{front_then, front_put, front_refl}
use Rattle.table.specs.Table.{find_in, Slot, none, some, lookup, upd, second, sum_of, Stored}
use Rattle.table.proofs.Table.{find_below, lookup_found, lookup_nothing, long_agree, store_old}
use Rattle.tree.specs.Tree.{Indexed, SeekPre, EnterPre, Entered, Added, SpotIs, put_new, key_at}
use Rattle.tree.proofs.Index.{find_agree, indexed_agree, stands_less, stands_same, enter_new}
use Rattle.tree.specs.Seats.{seat_of, Seated, Nearby}
use Rattle.table.specs.declared.Row.{Row}
use Rattle.tree.specs.declared.Table.{Table}
use Rattle.tree.specs.declared.Seating.{Seating}
use Rattle.tree.specs.declared.Spot.{Spot}
use Rattle.tree.specs.declared.Spot.TheVariants.{Taken, Free}

no_row : {A : Type 0} (r : Option ℕ) (i : ℕ) → r ≡ None → r ≡ Some i → A
no_row r i p q = let z : ◌≡◌ {A = ℕ} 0 1 = cc in absurd (omega arith)

pub split_row : {G : Type 0} (r : Option ℕ) → ((i : ℕ) → r ≡ Some i → G) → (r ≡ None → G) → G
split_row (Some i) f g = f i refl
split_row None f g = g refl

pub same_row : (r : Option ℕ) (i j : ℕ) → r ≡ Some i → r ≡ Some j → i ≡ j
same_row r i j p q = cc

-- ---- the row of a key

module _ (s : ℕ → Slot) (k y z : ℕ) where
  says_old : (a b : ℕ) → s k ≡ some a b → (j : ℕ) → s j ≡ upd s k (seat_of y z (s k)) j
  unfolding upd seat_of
  says_old a b e j = split≡ k j (λ q. rw (eq-eqb k j q, e) (rw q at e)) (λ q. rw (ne_eqb k j q))

  says_new : s k ≡ none → (j : ℕ) → upd s k (some y z) j ≡ upd s k (seat_of y z (s k)) j
  unfolding seat_of
  says_new e j = rw e

module _ (w : List ℕ) (t : Table) (row : Row) (p : EnterPre w t) where
  seated_known : (i : ℕ) → find_in w t.at.rows row.key t.count ≡ Some i → Seated w t row w (record { rows = t.count; at = i })
  seated_known i e = record {
    known = λ j f. (refl, (refl, same_row (find_in w t.at.rows row.key t.count) i j e f));
    fresh = λ f. no_row (find_in w t.at.rows row.key t.count) i f e;
    own = e;
    others = λ j q. refl;
    few = find_below w t.at.rows row.key t.count i e;
    says = says_old (lookup w t.at.rows t.count) row.key row.a row.b (word w (t.at.rows + 4 * i + 2)) (word w (t.at.rows + 4 * i + 3)) (lookup_found w t.at.rows row.key t.count i e);
    indexed = p.indexed;
    least = omega arith;
    most = omega arith;
    front = front_refl (4 * t.at.rows) w;
    size = refl;
    between = λ j a b. refl;
    beyond = λ j a. refl;
  }

  seated_added : find_in w t.at.rows row.key t.count ≡ None → (u : List ℕ) → Added w t row u → Seated w t row u (record { rows = t.count + 1; at = t.count })
  seated_added e u a = record {
    known = λ j f. no_row (find_in w t.at.rows row.key t.count) j e f;
    fresh = λ f. (a.entered, (refl, refl));
    own = a.last;
    others = a.others;
    few = omega arith;
    says = λ j. a.entered.stored.says j ∙ says_new (lookup w t.at.rows t.count) row.key row.a row.b (lookup_nothing w t.at.rows row.key t.count e) j;
    indexed = a.entered.indexed;
    least = omega arith;
    most = omega arith;
    front = a.entered.stored.front;
    size = a.entered.stored.size;
    between = a.entered.between;
    beyond = a.entered.beyond;
  }

  pub row_taken : (i : ℕ) (r : Spot) → SpotIs w t row.key r → r ≡ Taken i → Seated w t row w (record { rows = t.count; at = i })
  row_taken i r s e = seated_known i (s.taken i e)

  pub row_free : (at : ℕ) (r : Spot) → SpotIs w t row.key r → r ≡ Free at → (v : List ℕ) → v ≡ put_new w t row → (u : List ℕ) → u ≡ put_word v at (t.count + 1) → Seated w t row u (record { rows = t.count + 1; at = t.count })
  row_free at r s e v ev u eu = seated_added (s.free at e).none u (enter_new w t row p v ev at r s e u eu)

  pub seat_near : (i : ℕ) (r : Option ℕ) → Nearby w t row.key r → r ≡ Some i → Seated w t row w (record { rows = t.count; at = i })
  seat_near i r s e = seated_known i (s.has i e)

  pub enter_seek : SeekPre w t
  enter_seek = record { stands = stands_less w t.at (t.count + 1) t.count (omega arith) p.stands; indexed = p.indexed }

-- ---- the values of a row stored

-- row i, which is the key k's, gets the values y and z, and no other word changes
pub record Valued (w : List ℕ) (t : Table) (k i y z : ℕ) (u : List ℕ) : Type 0 where
  pub stored : Stored w t.at.rows t.count k y z u t.count
  pub indexed : Indexed u t.at t.count
  pub finds : (j : ℕ) → find_in u t.at.rows j t.count ≡ find_in w t.at.rows j t.count
  pub others : (j : ℕ) → (t.at.rows + 4 * i + 2 ≡ j → ⊥) → (t.at.rows + 4 * i + 3 ≡ j → ⊥) → word u j ≡ word w j

module _ (w : List ℕ) (t : Table) (k i : ℕ) (p : SeekPre w t) (e : find_in w t.at.rows k t.count ≡ Some i) where
  less : i < t.count
  less = find_below w t.at.rows k t.count i e

  valued : (y z : ℕ) (u : List ℕ) → word u (t.at.rows + 4 * i + 2) ≡ y → word u (t.at.rows + 4 * i + 3) ≡ z →
      ((j : ℕ) → (t.at.rows + 4 * i + 2 ≡ j → ⊥) → (t.at.rows + 4 * i + 3 ≡ j → ⊥) → word u j ≡ word w j) → Front (4 * t.at.rows) u w → length u ≡ length w → Valued w t k i y z u
  valued y z u ey ez o f l = record {
    stored = store_old w u t.at.rows t.count k i y z e (record {
      keys = keys;
      first = ey;
      last = ez;
      firsts = λ j h q. o (t.at.rows + 4 * j + 2) (λ d. q (omega arith)) (λ d. omega arith);
      lasts = λ j h q. o (t.at.rows + 4 * j + 3) (λ d. omega arith) (λ d. q (omega arith));
    }) f l;
    indexed = indexed_agree w t.at t.count p.indexed u keys (λ j a b. o j (λ d. omega (arith, less, p.stands.rows)) (λ d. omega (arith, less, p.stands.rows)));
    finds = λ j. find_agree u w t.at.rows j t.count keys;
    others = o;
  } where
    keys : (j : ℕ) → j < t.count → key_at u t.at j ≡ key_at w t.at j
    keys j h = long_agree u w (t.at.rows + 4 * j) (o (t.at.rows + 4 * j) (λ d. omega arith) (λ d. omega arith)) (o (t.at.rows + 4 * j + 1) (λ d. omega arith) (λ d. omega arith))

  -- the first value
  pub valued_first : (y : ℕ) (u : List ℕ) → u ≡ put_word w (t.at.rows + 4 * i + 2) y → Valued w t k i y (word w (t.at.rows + 4 * i + 3)) u
  valued_first y u eu = rw eu (valued y (word w (t.at.rows + 4 * i + 3)) (put_word w (t.at.rows + 4 * i + 2) y)
      (word_put_same w (t.at.rows + 4 * i + 2) y (omega (arith, less, p.stands.rows, p.stands.room)))
      (word_put_other w (t.at.rows + 4 * i + 2) y (t.at.rows + 4 * i + 3) (λ d. omega arith))
      (λ j a b. word_put_other w (t.at.rows + 4 * i + 2) y j a)
      (front_put (4 * t.at.rows) w (t.at.rows + 4 * i + 2) y (omega arith))
      (length_put w (t.at.rows + 4 * i + 2) y))

  -- both
  pub valued_both : (y z : ℕ) (v u : List ℕ) → v ≡ put_word w (t.at.rows + 4 * i + 2) y → u ≡ put_word v (t.at.rows + 4 * i + 3) z → Valued w t k i y z u
  valued_both y z v u ev eu = rw (eu, ev) (valued y z (put_word m (t.at.rows + 4 * i + 3) z)
      (word_put_other m (t.at.rows + 4 * i + 3) z (t.at.rows + 4 * i + 2) (λ q. omega arith) ∙ word_put_same w (t.at.rows + 4 * i + 2) y (omega (arith, less, p.stands.rows, p.stands.room)))
      (word_put_same m (t.at.rows + 4 * i + 3) z (rw (length_put w (t.at.rows + 4 * i + 2) y) (omega (arith, less, p.stands.rows, p.stands.room))))
      (λ j a b. word_put_other m (t.at.rows + 4 * i + 3) z j b ∙ word_put_other w (t.at.rows + 4 * i + 2) y j a)
      (front_then (4 * t.at.rows) _ m w (front_put (4 * t.at.rows) m (t.at.rows + 4 * i + 3) z (omega arith)) (front_put (4 * t.at.rows) w (t.at.rows + 4 * i + 2) y (omega arith)))
      (length_put m (t.at.rows + 4 * i + 3) z ∙ length_put w (t.at.rows + 4 * i + 2) y)) where
        m : List ℕ
        m = put_word w (t.at.rows + 4 * i + 2) y

-- ---- after seat

module _ (w : List ℕ) (t : Table) (row : Row) (u : List ℕ) (r : Seating) (s : Seated w t row u r) where
  -- what stands in the row
  pub seated_value : some (word u (t.at.rows + 4 * r.at + 2)) (word u (t.at.rows + 4 * r.at + 3)) ≡ seat_of row.a row.b (lookup w t.at.rows t.count row.key)
  unfolding upd
  seated_value = sym (lookup_found u t.at.rows row.key r.rows r.at s.own) ∙ s.says row.key ∙ rw (eq-eqb row.key row.key refl)

  module _ (p : EnterPre w t) where
    pub seated_seek : SeekPre u (record { at = t.at; count = r.rows })
    seated_seek = record { stands = stands_less u t.at (t.count + 1) r.rows s.most (stands_same u w t.at (t.count + 1) s.size p.stands); indexed = s.indexed }

    seated_sum : sum_of u t.at.rows r.rows + second (lookup w t.at.rows t.count row.key) ≡ sum_of w t.at.rows t.count + second (lookup u t.at.rows r.rows row.key)
    unfolding upd second
    seated_sum = split_row (find_in w t.at.rows row.key t.count)
        (λ i e. let q : (u ≡ w) × ((r.rows ≡ t.count) × (r.at ≡ i)) = s.known i e in rw (q.0, q.1.0))
        (λ e. let q : Entered w t row u (t.count + 1) × ((r.rows ≡ t.count + 1) × (r.at ≡ t.count)) = s.fresh e in
        rw (q.1.0, last q.0.stored) q.0.stored.sum) where
          last : Stored w t.at.rows t.count row.key row.a row.b u (t.count + 1) → second (lookup u t.at.rows (t.count + 1) row.key) ≡ row.b
          last e = rw (e.says row.key, eq-eqb row.key row.key refl)

    -- and values put there
    pub seated_valued : (y z : ℕ) (v : List ℕ) → Valued u (record { at = t.at; count = r.rows }) row.key r.at y z v → Entered w t (record { key = row.key; a = y; b = z }) v r.rows
    unfolding upd
    seated_valued y z v c = record {
      stored = record {
        says = λ j. c.stored.says j ∙ split≡ row.key j (λ q. rw (eq-eqb row.key j q)) (λ q. rw (ne_eqb row.key j q) (s.says j ∙ rw (ne_eqb row.key j q)));
        sum = omega (arith, c.stored.sum, seated_sum);
        least = s.least;
        most = s.most;
        front = front_then (4 * t.at.rows) v u w c.stored.front s.front;
        size = c.stored.size ∙ s.size;
      };
      indexed = c.indexed;
      between = λ j l h. other j l ∙ s.between j l h;
      beyond = λ j l. other j (omega (arith, p.stands.rows)) ∙ s.beyond j l;
    } where
      other : (j : ℕ) → t.at.rows + 4 * (t.count + 1) ≤ j → word v j ≡ word u j
      other j l = c.others j (λ q. omega (arith, s.few, s.most)) (λ q. omega (arith, s.few, s.most))

    pub seat_first : (y : ℕ) (v : List ℕ) → v ≡ put_word u (t.at.rows + 4 * r.at + 2) y → Entered w t (record { key = row.key; a = y; b = word u (t.at.rows + 4 * r.at + 3) }) v r.rows
    seat_first y v e = seated_valued y (word u (t.at.rows + 4 * r.at + 3)) v (valued_first u (record { at = t.at; count = r.rows }) row.key r.at seated_seek s.own y v e)

    pub seat_both : (y z : ℕ) (m v : List ℕ) → m ≡ put_word u (t.at.rows + 4 * r.at + 2) y → v ≡ put_word m (t.at.rows + 4 * r.at + 3) z → Entered w t (record { key = row.key; a = y; b = z }) v r.rows
    seat_both y z m v em ev = seated_valued y z v (valued_both u (record { at = t.at; count = r.rows }) row.key r.at seated_seek s.own y z m v em ev)
