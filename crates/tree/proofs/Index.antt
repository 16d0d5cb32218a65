-- Laws of specs/Tree: the search, one row more, an index that begins.
use Rattle.std.specs.Prelude.{Option, Some, None, SomeIff}
use mathlib.Core.Path.{◌≡◌, refl, sym, ap, ◌∙◌}
use mathlib.Core.List.{List}
use mathlib.Core.Logic.{inl, inr, ∥∥₁_elim, ∥∥₁_map}
use mathlib.Core.HLevel.{⊥_prop}
use Prim.Native.Nat.{ℕ, zero, suc, ◌+◌, ◌-◌, ◌*◌, ◌/◌, ◌%◌, ◌<◌, ◌≤◌}
use native.Mathlib.Omega.{arith}
use native.Mathlib.Numerals.{add-one}
use native.Mathlib.Nat.{div-lt_iff_lt-mul, mul-lt-mul_of_pos_right}
use lib.ListN.{length}
use borrow.Author.Tests.{eq-eqb, ne_eqb}
use Rattle.laws.proofs.Choice.{split≡, split≤}
use Rattle.words.specs.Words.{word, long, put_word}
use Rattle.words.proofs.Words.{length_put, word_put_same, word_put_other}
use Rattle.words.specs.Front.{Front}
use Rattle.words.proofs.Front.{front_then, front_put}
use Rattle.table.specs.Table.{find_in, put_row, Stored, Agree}
use Rattle.table.specs.Chain.{Filled}
use Rattle.table.proofs.Table.{row_outside, row_key, length_row, long_agree, lookup_agree, sum_agree, store_new}
use Rattle.tree.specs.Paths.{node_at, rest_at, Keeps}
use Rattle.tree.specs.Tree.{mix_of, tree_of, key_at, links_in, root_in, path_to, Leads, Indexed, Stands, SeekPre, EnterPre, Added, Cleared, ClearPre, TreeIs, Vacant, SpotIs, Seeking, NewPre, put_new}
use Rattle.table.specs.declared.Row.{Row}
use Rattle.tree.specs.declared.Tree.{Tree}
use Rattle.tree.specs.declared.Table.{Table}
use Rattle.tree.specs.declared.Spot.{Spot}
use Rattle.tree.specs.declared.Spot.TheVariants.{Free}
use Rattle.tree.proofs.Paths.{node_step, node_past, node_below, node_kept, Grew, grew_keeps, grew_slots, grew_apart, slots_agree, apart_agree}

pub stands_less : (w : List ℕ) (x : Tree) (n m : ℕ) → m ≤ n → Stands w x n → Stands w x m
stands_less w x n m h s = record { rows = omega (arith, s.rows); room = omega (arith, s.room); few = omega (arith, s.few) }

pub stands_same : (u w : List ℕ) (x : Tree) (n : ℕ) → length u ≡ length w → Stands w x n → Stands u x n
stands_same u w x n e s = record { rows = s.rows; room = rw e s.room; few = s.few }

-- ---- the tree of a key

part_less : (a m : ℕ) → a < 4294967296 → 0 < m → a * m / 4294967296 < m
part_less a m h o =
    let s : 0 < 4294967296 = omega arith in
    let l : a * m < 4294967296 * m = mul-lt-mul_of_pos_right h o in
    (div-lt_iff_lt-mul s).1 (omega (arith, l))

pub tree_less : (m n : ℕ) → 0 < m → tree_of m n < m
unfolding tree_of
tree_less m n o = part_less (((n % 4294967296) * 2654435769) % 4294967296) m (omega arith) o

pub tree_is : (n m : ℕ) → (0 < m) × (m ≤ 1048576) → TreeIs n m (n % 4294967296 * 2654435769 % 4294967296 * m / 4294967296)
unfolding tree_of
tree_is n m h = record { is = refl; few = part_less (n % 4294967296 * 2654435769 % 4294967296) m (omega arith) h.0 }

-- ---- the search by rows

no_zero : {A : Type 0} (a : ℕ) → 0 ≡ suc a → A
no_zero a e = absurd (omega (arith, e))

other_row : {A : Type 0} (i : ℕ) → None ≡ Some i → A
other_row i e = let z : ◌≡◌ {A = ℕ} 0 1 = cc in absurd (omega arith)

earlier : (i n : ℕ) → i < n + 1 → (i ≡ n → ⊥) → i < n
earlier i n l q = split≤ n i (λ h. absurd (q (omega arith))) (λ h. h)

find_no : (w : List ℕ) (b k n : ℕ) → ((i : ℕ) → i < n → long w (b + 4 * i) ≡ k → ⊥) → find_in w b k n ≡ None
unfolding find_in
find_no w b k zero h = refl
find_no w b k (suc n) h = rw (ne_eqb (long w (b + 4 * n)) k (h n (omega arith))) (find_no w b k n (λ i l. h i (omega arith)))

pub find_agree : (u w : List ℕ) (b k n : ℕ) → ((i : ℕ) → i < n → long u (b + 4 * i) ≡ long w (b + 4 * i)) → find_in u b k n ≡ find_in w b k n
unfolding find_in
find_agree u w b k zero h = refl
find_agree u w b k (suc n) h = rw (h n (omega arith), find_agree u w b k n (λ i l. h i (omega arith)))

find_more : (u : List ℕ) (b k n : ℕ) → (long u (b + 4 * n) ≡ k → ⊥) → find_in u b k (n + 1) ≡ find_in u b k n
unfolding find_in
find_more u b k n h = rw (add-one n, ne_eqb (long u (b + 4 * n)) k h)

find_last : (u : List ℕ) (b k n : ℕ) → long u (b + 4 * n) ≡ k → find_in u b k (n + 1) ≡ Some n
unfolding find_in
find_last u b k n h = rw (add-one n, eq-eqb (long u (b + 4 * n)) k h)

-- the row of a key that is there
pub found_key : (w : List ℕ) (b k n i : ℕ) → find_in w b k n ≡ Some i → long w (b + 4 * i) ≡ k
unfolding find_in
found_key w b k zero i e = other_row i e
found_key w b k (suc n) i e =
    split≡ (long w (b + 4 * n)) k
    (λ q. let z : n ≡ i = go (rw (eq-eqb (long w (b + 4 * n)) k q) at e) in rw (← z) q)
    (λ q. found_key w b k n i (rw (ne_eqb (long w (b + 4 * n)) k q) at e)) where
      go : Some n ≡ Some i → n ≡ i
      go e = cc

-- ---- the search along the bits

module _ (w : List ℕ) (t : Table) (k : ℕ) (p : SeekPre w t) where
  s : Indexed w t.at t.count
  s = p.indexed

  pub seeking_start : (f h : ℕ) → f ≡ mix_of k → TreeIs f t.at.roots h → Seeking w t k (t.at.links + h) f
  unfolding node_at rest_at
  seeking_start f h e i = record {
    low = omega arith;
    high = omega (arith, i.few);
    depth = 0;
    reads = λ u a. ap (λ (j : ℕ). word u (t.at.links + j)) (sym (i.is ∙ rw e));
    bits = e;
    met = λ e l. absurd (omega arith);
    others = λ e j l. absurd (omega arith);
  }

  module _ (at rest : ℕ) (q : Seeking w t k at rest) (c v : ℕ) (ec : c ≡ word w at) (ev : v ≡ c) where
    here : path_to w t.at k q.depth ≡ v
    here = q.reads w (record { same = λ at a b o. refl }) ∙ sym (ev ∙ ec)

    seeking_end : v ≡ 0 → SpotIs w t k (Free at)
    seeking_end z = record {
      taken = λ a f. let h : ◌≡◌ {A = ℕ} 0 1 = cc in absurd (omega arith);
      free = λ a f. let h : at ≡ a = cc in rw (← h) vacant;
    } where
      gone : (r : ℕ) → r < t.count → key_at w t.at r ≡ k → ⊥
      gone r l h =
          ∥∥₁_elim (s.path r l) ⊥_prop (λ m.
          let g : path_to w t.at k m.0 ≡ suc r = rw h at m.1 in
          split≤ q.depth m.0
          (λ a. no_zero r (sym (node_past w (links_in t.at) (root_in t.at k) (rest_at (mix_of k)) q.depth m.0 a (here ∙ z)) ∙ g))
          (λ a. q.others m.0 r a g h))

      vacant : Vacant w t k at
      vacant = record { none = find_no w t.at.rows k t.count gone; low = q.low; high = q.high; empty = sym (ev ∙ ec) ∙ z; depth = q.depth; reads = q.reads }

    module _ (o : Option ℕ) (eo : SomeIff o (1 ≤ v) (v - 1)) where
      pub seeking_none : o ≡ None → SpotIs w t k (Free at)
      seeking_none e = seeking_end (split≡ v 0 (λ h. h) (λ h. absurd ((rw e at eo) (omega arith))))

      module _ (i : ℕ) (ei : o ≡ Some i) where
        row : suc i ≡ v
        row = let h : (1 ≤ v) × (i ≡ v - 1) = rw ei at eo in omega (arith, h.0, h.1)

        some : 0 < v
        some = omega (arith, row)

        pub seeking_row : i < t.count
        seeking_row = omega (arith, row, ec, ev, s.slots.below at q.low q.high)

        module _ (y : ℕ) (e : y ≡ long w (t.at.rows + 4 * i)) where
          module _ (d : y ≡ k → ⊥) (bit : ℕ) (eb : bit ≡ rest % 2) where
            pub seeking_turn : Seeking w t k (links_in t.at + 2 * i + bit) (rest / 2)
            unfolding rest_at
            seeking_turn = record {
              low = omega arith;
              high = omega (arith, eb, seeking_row, some);
              depth = suc q.depth;
              reads = λ u a. node_step u (links_in t.at) (root_in t.at k) (rest_at (mix_of k)) q.depth i (leads u a) ∙ rw (eb, q.bits);
              bits = rw q.bits;
              met = λ a l. split≡ a q.depth (λ o. rw (o, here) some) (λ o. q.met a (earlier a q.depth (omega arith) o));
              others = passed;
            } where
              leads : (u : List ℕ) → Keeps w t.at.links (links_in t.at) t.count u → path_to u t.at k q.depth ≡ suc i
              leads u a = q.reads u a ∙ a.same at q.low q.high (omega (arith, ec, ev, some)) ∙ sym (ev ∙ ec) ∙ sym row

              passed : (a r : ℕ) → a < suc q.depth → path_to w t.at k a ≡ suc r → key_at w t.at r ≡ k → ⊥
              passed a r l h z =
                  split≡ a q.depth
                  (λ o. let g : suc r ≡ v = sym h ∙ rw o here in let f : r ≡ i = omega (arith, g, row) in d (e ∙ rw f at z))
                  (λ o. q.others a r (earlier a q.depth (omega arith) o) h z)

module _ (w : List ℕ) (t : Table) (k : ℕ) where
  pub seek_none : t.count ≡ 0 → None ≡ find_in w t.at.rows k t.count
  unfolding find_in
  seek_none e = rw e

  pub seek_free : (r : Spot) → SpotIs w t k r → (at : ℕ) → r ≡ Free at → None ≡ find_in w t.at.rows k t.count
  seek_free r s at e = sym (s.free at e).none

-- ---- an empty table

indexed_none : (w : List ℕ) (x : Tree) → ClearPre w x → ((j : ℕ) → x.links ≤ j → j < links_in x → word w j ≡ 0) → Indexed w x 0
indexed_none w x p e = record {
  some = p.some;
  many = p.many;
  slots = record { below = λ at a b. omega (arith, e at a (omega arith)); later = λ at a b c. absurd (omega (arith, e at a (omega arith))) };
  apart = record { one = λ p q a b c d s. absurd (omega (arith, e p a (omega arith))) };
  path = λ i l. absurd (omega arith);
  own = λ i l. absurd (omega arith);
}

pub cleared : (w : List ℕ) (x : Tree) → ClearPre w x → (u : List ℕ) → Filled w x.links x.roots 0 u → Cleared w x u
cleared w x p u f = record {
  indexed = indexed_none u x (record { some = p.some; many = p.many; room = rw f.size p.room })
      (λ j a b. let e : x.links + (j - x.links) ≡ j = omega arith in rw e at (f.is (j - x.links) (omega arith)));
  front = f.front;
  beyond = f.beyond;
  size = f.size;
}

-- ---- an index does not see what is written elsewhere

pub root_low : (w : List ℕ) (x : Tree) (n k : ℕ) → Indexed w x n → root_in x k < links_in x
root_low w x n k s = omega (arith, tree_less x.roots (mix_of k) s.some)

module _ (w : List ℕ) (x : Tree) (n : ℕ) (s : Indexed w x n) where
  -- a path that leads to a row stays
  path_kept : (u : List ℕ) → Keeps w x.links (links_in x) n u → (k d i : ℕ) → path_to w x k d ≡ suc i → path_to u x k d ≡ suc i
  path_kept u a k d i e = node_kept w (links_in x) (root_in x k) (rest_at (mix_of k)) x.links n s.slots (omega arith) (root_low w x n k s) (omega arith) u a d i e

  pub path_below : (k d : ℕ) → path_to w x k d ≤ n
  path_below k d = node_below w (links_in x) (root_in x k) (rest_at (mix_of k)) x.links n s.slots (omega arith) (root_low w x n k s) (omega arith) d

  pub indexed_agree : (u : List ℕ) → ((j : ℕ) → j < n → key_at u x j ≡ key_at w x j) →
      ((j : ℕ) → x.links ≤ j → j < x.links + x.roots + 2 * n → word u j ≡ word w j) → Indexed u x n
  indexed_agree u e g = record {
    some = s.some;
    many = s.many;
    slots = slots_agree u w x.links (links_in x) n g s.slots;
    apart = apart_agree u w x.links (links_in x) n g s.apart;
    path = λ i l. ∥∥₁_map (s.path i l) (λ m. (m.0, rw (e i l) (path_kept u (record { same = λ at a b o. g at a b }) (key_at w x i) m.0 i m.1)));
    own = λ i l. rw (e i l) (find_agree u w x.rows (key_at w x i) n e ∙ s.own i l);
  }

-- ---- one row more

pub new_put : (w : List ℕ) (t : Table) (row : Row) → (v : List ℕ) → v ≡ put_row w (t.at.rows + 4 * t.count) row.key row.a row.b →
    (m : List ℕ) → m ≡ put_word v (t.at.links + t.at.roots + 2 * t.count) 0 →
    (u : List ℕ) → u ≡ put_word m (t.at.links + t.at.roots + 2 * t.count + 1) 0 → u ≡ put_new w t row
unfolding put_new
new_put w t row v ev m em u eu = rw (eu, em, ev)

stored_agree : (w v u : List ℕ) (b n k y z r : ℕ) → Agree b (b + 4 * r) u v → Front (4 * b) u v → length u ≡ length v →
    Stored w b n k y z v r → Stored w b n k y z u r
stored_agree w v u b n k y z r a f l s = record {
  says = λ j. lookup_agree u v b r j a ∙ s.says j;
  sum = rw (sum_agree u v b r a) s.sum;
  least = s.least;
  most = s.most;
  front = front_then (4 * b) u v w f s.front;
  size = l ∙ s.size;
}

module _ (w : List ℕ) (t : Table) (row : Row) (p : EnterPre w t) where
  pub enter_fits : NewPre w t
  enter_fits = record { rows = omega (arith, p.stands.rows); room = omega (arith, p.stands.room); few = omega (arith, p.stands.few) }

  -- the row written, before its links are; where they are
  abbrev rowed : List ℕ
  rowed = put_row w (t.at.rows + 4 * t.count) row.key row.a row.b

  abbrev first : ℕ
  first = t.at.links + t.at.roots + 2 * t.count

  module _ (v : List ℕ) (ev : v ≡ put_new w t row) where
    room : 4 * (t.at.rows + 4 * t.count) + 16 ≤ length w
    room = omega (arith, p.stands.rows, p.stands.room)

    rowed_long : length rowed ≡ length w
    rowed_long = length_row w (t.at.rows + 4 * t.count) row.key row.a row.b

    v_off : (j : ℕ) → (first ≡ j → ⊥) → (first + 1 ≡ j → ⊥) → word v j ≡ word rowed j
    unfolding put_new
    v_off j a b = rw ev (word_put_other (put_word rowed first 0) (first + 1) 0 j b ∙ word_put_other rowed first 0 j a)

    v_long : length v ≡ length w
    unfolding put_new
    v_long = rw ev (length_put (put_word rowed first 0) (first + 1) 0 ∙ length_put rowed first 0 ∙ rowed_long)

    v_front : Front (4 * t.at.rows) v rowed
    unfolding put_new
    v_front =
        rw ev
        (front_then (4 * t.at.rows) _ _ _
        (front_put (4 * t.at.rows) _ (first + 1) 0 (omega (arith, p.stands.rows)))
        (front_put (4 * t.at.rows) _ first 0 (omega (arith, p.stands.rows))))

    v_left : word v first ≡ 0
    unfolding put_new
    v_left = let h : first + 1 ≡ first → ⊥ = λ e. omega arith in
        rw ev
        (word_put_other (put_word rowed first 0) (first + 1) 0 first h
        ∙ word_put_same rowed first 0 (rw rowed_long (omega (arith, p.stands.room))))

    v_right : word v (first + 1) ≡ 0
    unfolding put_new
    v_right =
        rw ev
        (word_put_same (put_word rowed first 0) (first + 1) 0 (rw (length_put rowed first 0, rowed_long) (omega (arith, p.stands.room))))

    v_ends : (j : ℕ) → links_in t.at + 2 * t.count ≤ j → j < links_in t.at + 2 * (t.count + 1) → word v j ≡ 0
    v_ends j a b = split≡ j first
        (λ e. rw e v_left)
        (λ e. let h : j ≡ first + 1 = last j e a b in rw h v_right) where
          last : (j : ℕ) → (j ≡ links_in t.at + 2 * t.count → ⊥) → links_in t.at + 2 * t.count ≤ j → j < links_in t.at + 2 * (t.count + 1) → j ≡ first + 1
          last j e a b = split≤ j first (λ c. absurd (e (omega arith))) (λ c. omega arith)

    pub enter_link : (at : ℕ) (r : Spot) → SpotIs w t row.key r → r ≡ Free at → 4 * at + 4 ≤ length v
    enter_link at r es er = let c : Vacant w t row.key at = es.free at er in omega (arith, c.high, p.stands.room, v_long)

    pub enter_new : (at : ℕ) (r : Spot) → SpotIs w t row.key r → r ≡ Free at → (u : List ℕ) → u ≡ put_word v at (t.count + 1) → Added w t row u
    enter_new at r es er u eu = record {
      entered = record {
        stored = stored_agree w rowed u t.at.rows t.count row.key row.a row.b (t.count + 1) (λ j a b. low j (omega (arith, p.stands.rows)))
            (front_then (4 * t.at.rows) u v rowed front v_front)
            (size ∙ v_long ∙ sym rowed_long)
            (store_new w t.at.rows t.count row.key row.a row.b room None (sym c.none) refl rowed refl);
        indexed = record {
          some = s.some;
          many = s.many;
          slots = grew_slots w t.at.links (links_in t.at) t.count s.slots u grew;
          apart = grew_apart w t.at.links (links_in t.at) t.count s.slots u grew at (λ j a b e. other j e ∙ old j a b) here s.apart;
          path = path_row;
          own = own_row;
        };
        between = λ j a b. low j b ∙ row_outside w (t.at.rows + 4 * t.count) row.key row.a row.b j (inr (omega arith));
        beyond = λ j a.
            other j (λ e. omega (arith, c.high)) ∙ v_off j (λ e. omega arith) (λ e. omega arith)
            ∙ row_outside w (t.at.rows + 4 * t.count) row.key row.a row.b j (inr (omega (arith, p.stands.rows)));
      };
      last = find_last u t.at.rows row.key t.count new_key;
      others = λ j q. find_more u t.at.rows j t.count (λ e. q (sym new_key ∙ e)) ∙ find_agree u w t.at.rows j t.count new_keys;
    } where
      s : Indexed w t.at t.count
      s = p.indexed

      c : Vacant w t row.key at
      c = es.free at er

      other : (j : ℕ) → (at ≡ j → ⊥) → word u j ≡ word v j
      other j h = rw eu (word_put_other v at (t.count + 1) j h)

      here : word u at ≡ suc t.count
      here = rw (eu, ← add-one t.count) (word_put_same v at (t.count + 1) (enter_link at r es er))

      size : length u ≡ length v
      size = rw eu (length_put v at (t.count + 1))

      front : Front (4 * t.at.rows) u v
      front = rw eu (front_put (4 * t.at.rows) v at (t.count + 1) (omega (arith, c.low, p.stands.rows)))

      -- the words before the index, and those of it that there were
      low : (j : ℕ) → j < t.at.links → word u j ≡ word rowed j
      low j h = other j (λ e. omega (arith, c.low)) ∙ v_off j (λ e. omega arith) (λ e. omega arith)

      old : (j : ℕ) → t.at.links ≤ j → j < links_in t.at + 2 * t.count → word v j ≡ word w j
      old j a b = v_off j (λ e. omega arith) (λ e. omega arith) ∙ row_outside w (t.at.rows + 4 * t.count) row.key row.a row.b j (inr (omega (arith, p.stands.rows)))

      grew : Grew w t.at.links (links_in t.at) t.count u
      grew = record {
        ends = λ j a b. other j (λ e. omega (arith, c.high)) ∙ v_ends j a b;
        slots = λ j a b. split≡ at j
            (λ e. inr (rw e at c.empty, rw e at here))
            (λ e. inl (other j e ∙ old j a b));
      }

      keeps : Keeps w t.at.links (links_in t.at) t.count u
      keeps = grew_keeps w t.at.links (links_in t.at) t.count s.slots u grew

      new_keys : (i : ℕ) → i < t.count → key_at u t.at i ≡ key_at w t.at i
      new_keys i l = long_agree u w (t.at.rows + 4 * i)
          (low (t.at.rows + 4 * i) (omega (arith, p.stands.rows)) ∙ row_outside w (t.at.rows + 4 * t.count) row.key row.a row.b (t.at.rows + 4 * i) (inl (omega arith)))
          (low (t.at.rows + 4 * i + 1) (omega (arith, p.stands.rows)) ∙ row_outside w (t.at.rows + 4 * t.count) row.key row.a row.b (t.at.rows + 4 * i + 1) (inl (omega arith)))

      new_key : key_at u t.at t.count ≡ row.key
      new_key =
          long_agree u rowed (t.at.rows + 4 * t.count)
          (low (t.at.rows + 4 * t.count) (omega (arith, p.stands.rows)))
          (low (t.at.rows + 4 * t.count + 1) (omega (arith, p.stands.rows)))
          ∙ row_key w (t.at.rows + 4 * t.count) row.key row.a row.b room

      differ : (i : ℕ) → i < t.count → row.key ≡ key_at w t.at i → ⊥
      differ i l e = other_row i (sym c.none ∙ rw (← e) at (s.own i l))

      own_row : (i : ℕ) → i < t.count + 1 → find_in u t.at.rows (key_at u t.at i) (t.count + 1) ≡ Some i
      own_row i l =
          split≡ i t.count
          (λ q. rw q (find_last u t.at.rows (key_at u t.at t.count) t.count refl))
          (λ q. let h : i < t.count = earlier i t.count l q in
          rw (new_keys i h) (find_more u t.at.rows (key_at w t.at i) t.count (λ d. differ i h (sym new_key ∙ d)) ∙ find_agree u w t.at.rows (key_at w t.at i) t.count new_keys ∙ s.own i h))

      path_row : (i : ℕ) → i < t.count + 1 → Leads u t.at (key_at u t.at i) i
      path_row i l =
          split≡ i t.count
          (λ q. ∣ (c.depth, rw (q, new_key) (c.reads u keeps ∙ here)) ∣₁)
          (λ q. let h : i < t.count = earlier i t.count l q in
          ∥∥₁_map (s.path i h) (λ m. (m.0, rw (new_keys i h) (path_kept w t.at t.count s u keeps (key_at w t.at i) m.0 i m.1))))
