-- The walk that lists the open stretches in words, and that they are those of the definition.
use Prim.Native.Nat.{ℕ, zero, suc, ◌+◌, ◌*◌, ◌/◌, ◌%◌, ◌<◌, ◌≤◌}
use mathlib.Core.Path.{◌≡◌, refl, sym, ◌∙◌}
use mathlib.Core.Bool.{Bool, true, false, cond, not, ◌&&◌}
use mathlib.Core.List.{List, [], ◌∷◌, ◌++◌, append-nil}
use native.Mathlib.Omega.{arith}
use native.Mathlib.Numerals.{add-one}
use lib.ListN.{length}
use lib.Dec.{eqb, ltb}
use borrow.Author.Tests.{eq-eqb, ne_eqb, lt-ltb}
use Rattle.laws.proofs.Choice.{split_b, split≡, no_way}
use Rattle.laws.specs.Keys.{Key, eq_k}
use Rattle.laws.proofs.Keys.{split_k, eq_eq_k, ne_eq_k}
use Rattle.laws.specs.Count.{mem}
use Rattle.words.specs.Words.{word, put_word}
use Rattle.words.specs.Rows.{put_words}
use Rattle.words.proofs.Rows.{length_puts, puts_below, puts_above, word_puts}
use Rattle.words.proofs.Front.{front_word}
use Rattle.std.specs.Prelude.{Option, None, Some}
use Rattle.std.specs.Option.{is_some}
use Rattle.split.specs.Walks.{Chained, Earlier, one_more}
use Rattle.split.proofs.Fronts.{laid_lying}
use Rattle.split.specs.Rows.{dlci_at, tail_at, key_at, held_in, newest_of}
use Rattle.measuring.specs.Counting.{keys_to}
use Rattle.split.proofs.Steps.{own_key}
use Rattle.split.specs.declared.Plan.{Plan}
use Rattle.stretches.specs.Open.{firsts, stretch_of, open_of}
use Rattle.stretches.specs.Filled.{stretch_at, stretches_to}
use Rattle.stretches.specs.Listing.{SpreadPre, Spread, is_open, row_stretch, words_of, added, AddPre, Above, Added, open_to, SpreadListed, OpenListed}
use Rattle.stretches.specs.declared.Stretch.{Stretch}
use Rattle.stretches.proofs.Opening.{mem_snoc, firsts_snoc, open_append, open_none, open_one}
use Rattle.stretches.proofs.Spreading.{linked_same, list_room}
use Rattle.stretches.proofs.Ends.{open_by_words}

-- ---- one piece

module _ (w : List ℕ) (p : Plan) (i : ℕ) where
  pub open_other : (x : ℕ) → x ≡ word w (p.rows + 8 * i) → (x ≡ p.dlci → ⊥) → false ≡ is_open w p i
  unfolding is_open
  open_other x e n = rw (← e, ne_eqb x p.dlci n)

  module _ (c : Chained w p) (h : i < p.n) (x : ℕ) (ex : x ≡ word w (p.rows + 8 * i)) (e : x ≡ p.dlci) (o : Option ℕ) (g : Earlier w p i (one_more o)) where
    chain_is : word w (p.chain + i) ≡ one_more o
    chain_is = c.linked.before i h ∙ sym g.newest

    module _ (t : Bool) (et : t ≡ is_some o) where
      pub open_later : t ≡ true → false ≡ is_open w p i
      unfolding is_open one_more
      open_later z = rw (← ex, chain_is, eq-eqb x p.dlci e) (later o (sym et ∙ z)) where
        later : (o : Option ℕ) → is_some o ≡ true → false ≡ (eqb (one_more o) 0 && ltb 0 (word w (p.held + i)))
        later None q = no_way q refl
        later (Some j) q = rw (ne_eqb (suc j) 0 (λ z. omega arith))

      pub open_first : t ≡ false → (y : ℕ) → y ≡ word w (p.held + i) → ltb 0 y ≡ is_open w p i
      unfolding is_open one_more
      open_first z y ey = rw (← ex, chain_is, ← ey, eq-eqb x p.dlci e) (first o (sym et ∙ z)) where
        first : (o : Option ℕ) → is_some o ≡ false → ltb 0 y ≡ (eqb (one_more o) 0 && ltb 0 y)
        first None q = refl
        first (Some j) q = no_way {b = true} refl q

  pub stretch_is :
      (counts way cid dlci held : ℕ) →
      counts ≡ word w (p.rows + 8 * i + 3) → way ≡ word w (p.rows + 8 * i + 1) → cid ≡ word w (p.rows + 8 * i + 2) → dlci ≡ word w (p.rows + 8 * i) →
      held ≡ word w (p.held + i) →
      record { way = way; cid = cid; dlci = dlci; sessions = counts % 65536; links = counts / 65536; held = held } ≡ row_stretch w p i
  unfolding row_stretch
  stretch_is counts way cid dlci held a b c d e = rw (a, b, c, d, e)

pub put_is :
    (w : List ℕ) (at : ℕ) (s : Stretch) (a b c d e u : List ℕ) →
    a ≡ put_word w at s.way → b ≡ put_word a (at + 1) s.cid → c ≡ put_word b (at + 2) s.dlci →
    d ≡ put_word c (at + 3) s.sessions → e ≡ put_word d (at + 4) s.links → u ≡ put_word e (at + 5) s.held →
    u ≡ put_words w at (words_of s)
unfolding put_words words_of
put_is w at s a b c d e u pa pb pc pd pe pu =
    let k1 : at + 1 ≡ suc at = omega arith in
    let k2 : at + 2 ≡ suc (suc at) = omega arith in
    let k3 : at + 3 ≡ suc (suc (suc at)) = omega arith in
    let k4 : at + 4 ≡ suc (suc (suc (suc at))) = omega arith in
    let k5 : at + 5 ≡ suc (suc (suc (suc (suc at)))) = omega arith in
    pu ∙ rw (pe, pd, pc, pb, pa, k1, k2, k3, k4, k5)

-- ---- one stretch more

module _ (w : List ℕ) (at k : ℕ) (s : Stretch) (o : at ≡ 6 * k) (r : 4 * at + 24 ≤ length w) where
  abbrev more : List ℕ
  more = put_words w at (words_of s)

  more_long : length more ≡ length w
  more_long = length_puts (words_of s) w at

  six : length (words_of s) ≡ 6
  unfolding words_of
  six = refl

  at_new : stretch_at more k ≡ s
  unfolding stretch_at words_of
  at_new =
      let z : 6 * k ≡ at + 0 = omega arith in
      rw (
        lt-ltb k (length more / 24) (omega (arith, more_long)),
        ← o,
        word_puts (words_of s) w at 1 (omega (arith, six)) (omega (arith, six)),
        word_puts (words_of s) w at 2 (omega (arith, six)) (omega (arith, six)),
        word_puts (words_of s) w at 3 (omega (arith, six)) (omega (arith, six)),
        word_puts (words_of s) w at 4 (omega (arith, six)) (omega (arith, six)),
        word_puts (words_of s) w at 5 (omega (arith, six)) (omega (arith, six)),
        first,
      ) where
        first : word more at ≡ s.way
        first = let z : at + 0 ≡ at = omega arith in rw z at (word_puts (words_of s) w at 0 (omega (arith, six)) (omega (arith, six)))

  at_old : (j : ℕ) → j < k → stretch_at more j ≡ stretch_at w j
  unfolding stretch_at
  at_old j h =
      rw (
        more_long,
        puts_below (words_of s) w at (6 * j) (omega arith),
        puts_below (words_of s) w at (6 * j + 1) (omega arith),
        puts_below (words_of s) w at (6 * j + 2) (omega arith),
        puts_below (words_of s) w at (6 * j + 3) (omega arith),
        puts_below (words_of s) w at (6 * j + 4) (omega arith),
        puts_below (words_of s) w at (6 * j + 5) (omega arith),
      )

  old : (j : ℕ) → j ≤ k → stretches_to more j ≡ stretches_to w j
  unfolding stretches_to
  old zero h = refl
  old (suc j) h = rw (old j (omega arith), at_old j (omega arith))

  listed_more : stretches_to more (k + 1) ≡ stretches_to w k ++ (s ∷ [])
  unfolding stretches_to
  listed_more = rw (add-one k, old k (omega arith), at_new)

module _ (w : List ℕ) (p : Plan) (i k : ℕ) (g : AddPre w p i k) where
  pub add_room : 4 * (6 * k) + 24 ≤ length w
  add_room = omega (arith, g.fewer, g.row, g.pre.room.low, g.pre.room.rows, g.pre.room.ends, g.pre.room.words)

  pub adds :
      (b : Bool) → b ≡ is_open w p i → b ≡ true → (s : Stretch) → s ≡ row_stretch w p i → (u : List ℕ) → u ≡ put_words w (6 * k) (words_of s) →
      Added w p i k u (k + 1)
  unfolding added
  adds b eb t s es u eu = record {
    list = rw (eu, ← eb, t, ← es) (listed_more w (6 * k) k s refl add_room);
    above = λ j h. rw eu (puts_above (words_of s) w (6 * k) j (omega (arith, six w (6 * k) k s refl add_room, g.fewer, g.row, g.pre.room.low)));
    fewer = omega (arith, g.fewer);
  }

  pub adds_none : (b : Bool) → b ≡ is_open w p i → b ≡ false → Added w p i k w k
  unfolding added
  adds_none b eb t = record { list = rw (← eb, t, append-nil); above = λ j h. refl; fewer = omega (arith, g.fewer) }

-- ---- all pieces

pub record Listing (w₀ : List ℕ) (p : Plan) (w : List ℕ) (i k : ℕ) : Type 0 where
  pub pre : SpreadPre w₀ p
  pub within : i ≤ p.n
  pub size : length w ≡ length w₀
  pub above : Above p w w₀
  pub list : stretches_to w k ≡ open_to w₀ p i
  pub fewer : k ≤ i

pub listing_start : (w : List ℕ) (p : Plan) → SpreadPre w p → Listing w p w 0 0
unfolding stretches_to open_to
listing_start w p g = record { pre = g; within = omega arith; size = refl; above = λ j h. refl; list = refl; fewer = omega arith }

module _ (w₀ : List ℕ) (p : Plan) (w : List ℕ) (i k : ℕ) (v : Listing w₀ p w i k) where
  pub listing_pre : i < p.n → AddPre w p i k
  listing_pre h =
      let s : (j : ℕ) → p.rows ≤ j → j < p.held → word w j ≡ word w₀ j = λ j a b. v.above j a in
      record { pre = record { room = list_room w w₀ p v.pre.room s v.size; linked = linked_same w w₀ p v.pre.room s v.pre.linked }; row = h; fewer = v.fewer }

  added_same : added w p i ≡ added w₀ p i
  unfolding added is_open row_stretch
  added_same =
      rw (
        v.above (p.rows + 8 * i) (omega arith),
        v.above (p.chain + i) (omega (arith, v.pre.room.after)),
        v.above (p.held + i) (omega (arith, v.pre.room.rows)),
        v.above (p.rows + 8 * i + 1) (omega arith),
        v.above (p.rows + 8 * i + 2) (omega arith),
        v.above (p.rows + 8 * i + 3) (omega arith),
      )

  pub listing_turn : i < p.n → (u : List ℕ) (r : ℕ) → Added w p i k u r → length u ≡ length w → Listing w₀ p u (i + 1) r
  unfolding open_to
  listing_turn h u r a l = record {
    pre = v.pre;
    within = omega arith;
    size = l ∙ v.size;
    above = λ j o. a.above j o ∙ v.above j o;
    list = rw (add-one i) (a.list ∙ rw (v.list, added_same));
    fewer = a.fewer;
  }

-- ---- the list is that of the definition

halves : (a : ℕ) → 2 * (a / 2) + a % 2 ≡ a
halves a = omega arith

-- a piece has none before it exactly where its key did not come before
first_is : (w : List ℕ) (p : Plan) (k : Key) (i : ℕ) → eqb (newest_of (λ j. key_at w p j) (p.dlci ∷ k) i) 0 ≡ not (mem k (keys_to w p i))
unfolding newest_of keys_to key_at eq_k mem
first_is w p k zero = refl
first_is w p k (suc i) =
    let ih : eqb (newest_of (λ j. key_at w p j) (p.dlci ∷ k) i) 0 ≡ not (mem k (keys_to w p i)) = first_is w p k i in
    let s = mem_snoc k (keys_to w p i) (tail_at w p i) in
    split_b (eqb (dlci_at w p i) p.dlci)
    (λ d. split_k (tail_at w p i) k
    (λ e. rw (d, eq_eq_k (tail_at w p i) k e, s, eq_eq_k k (tail_at w p i) (sym e))
    (ne_eqb (suc i) 0 (λ z. omega arith) ∙ split_b (mem k (keys_to w p i)) (λ m. rw m) (λ m. rw m)))
    (λ n. rw (d, ne_eq_k (tail_at w p i) k n, s, ne_eq_k k (tail_at w p i) (λ z. n (sym z)))
    (ih ∙ split_b (mem k (keys_to w p i)) (λ m. rw m) (λ m. rw m))))
    (λ d. rw d ih)

module _ (w : List ℕ) (p : Plan) (g : SpreadPre w p) (v : List ℕ) (s : Spread w p v) where
  abbrev ends : Key → ℕ
  ends k = held_in w p p.n (p.dlci ∷ k)

  module _ (i : ℕ) (h : i < p.n) where
    row_same : (j : ℕ) → j < 8 → word v (p.rows + 8 * i + j) ≡ word w (p.rows + 8 * i + j)
    row_same j o = front_word (4 * p.held) v w (p.rows + 8 * i + j) (omega (arith, g.room.rows)) s.front

    dlci_same : dlci_at v p i ≡ dlci_at w p i
    dlci_same = front_word (4 * p.held) v w (p.rows + 8 * i) (omega (arith, g.room.rows)) s.front

    chain_same : word v (p.chain + i) ≡ newest_of (λ j. key_at w p j) (key_at w p i) i
    chain_same = front_word (4 * p.held) v w (p.chain + i) (omega (arith, g.room.chain)) s.front ∙ g.linked.before i h

    added_other : (dlci_at w p i ≡ p.dlci → ⊥) → added v p i ≡ []
    unfolding added is_open
    added_other n = rw (dlci_same, ne_eqb (dlci_at w p i) p.dlci n)

    module _ (d : dlci_at w p i ≡ p.dlci) where
      row_is : row_stretch v p i ≡ stretch_of p.dlci (tail_at w p i) (ends (tail_at w p i))
      unfolding row_stretch stretch_of tail_at
      row_is =
          rw (
            row_same 1 (omega arith),
            row_same 2 (omega arith),
            row_same 3 (omega arith),
            dlci_same,
            s.last i h,
            own_key w p i d,
            d,
            halves (word w (p.rows + 8 * i + 1)),
          )

      open_is : is_open v p i ≡ not (mem (tail_at w p i) (keys_to w p i)) && ltb 0 (ends (tail_at w p i))
      unfolding is_open
      open_is = rw (dlci_same, eq-eqb (dlci_at w p i) p.dlci d, chain_same, s.last i h, own_key w p i d, first_is w p (tail_at w p i) i)

      added_own : added v p i ≡ open_of p.dlci ends (cond (mem (tail_at w p i) (keys_to w p i)) [] (tail_at w p i ∷ []))
      unfolding added
      added_own =
          rw (open_is, row_is)
          (split_b (mem (tail_at w p i) (keys_to w p i))
          (λ m. rw m (sym (open_none p.dlci ends)))
          (λ m. rw m (sym (open_one p.dlci ends (tail_at w p i)))))

  open_to_law : (i : ℕ) → i ≤ p.n → open_to v p i ≡ open_of p.dlci ends (firsts (keys_to w p i))
  unfolding open_to keys_to firsts
  open_to_law zero h = sym (open_none p.dlci ends)
  open_to_law (suc i) h =
      let ih : open_to v p i ≡ open_of p.dlci ends (firsts (keys_to w p i)) = open_to_law i (omega arith) in
      let fresh : List Key = cond (mem (tail_at w p i) (keys_to w p i)) [] (tail_at w p i ∷ []) in
      split≡ (dlci_at w p i) p.dlci
      (λ d. rw (
        eq-eqb (dlci_at w p i) p.dlci d,
        firsts_snoc (keys_to w p i) (tail_at w p i),
        open_append p.dlci ends (firsts (keys_to w p i)) fresh,
        ih,
        added_own i (omega arith) d,
      ))
      (λ n. rw (ne_eqb (dlci_at w p i) p.dlci n, ih, added_other i (omega arith) n, append-nil))

  pub open_listed : (u : List ℕ) (r : ℕ) → SpreadListed v p u r → OpenListed w p u r
  open_listed u r t = record {
    list = λ f l a. t.list ∙ open_to_law p.n (omega arith) ∙ sym (open_by_words f w p (laid_lying f w p l) a);
    few = t.few;
  }
