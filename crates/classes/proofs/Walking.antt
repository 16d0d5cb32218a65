-- The walk along the bits of a key, and one row more in the trees.
use Rattle.std.specs.Prelude.{Option, None, Some, SomeIff}
use mathlib.Core.Path.{◌≡◌, refl, sym, ap, ◌∙◌}
use mathlib.Core.List.{List}
use mathlib.Core.Logic.{inl, inr, ⊎_elim}
use mathlib.Core.Bool.{Bool, true, false, cond}
use Prim.Native.Nat.{ℕ, zero, suc, ◌+◌, ◌-◌, ◌*◌, ◌/◌, ◌%◌, ◌<◌, ◌≤◌}
use native.Mathlib.Omega.{arith}
use lib.ListN.{length}
use lib.Dec.{eqb}
use borrow.Author.Tests.{eq-eqb, ne_eqb}
use Rattle.laws.proofs.Choice.{split≡, split≤, no_way}
use Rattle.laws.specs.Keys.{Key, eq_k}
use Rattle.laws.proofs.Keys.{eq_k_true, eq_eq_k}
use Rattle.words.specs.Words.{word, put_word}
use Rattle.words.proofs.Words.{length_put, word_put_same, word_put_other}
use Rattle.words.proofs.Front.{front_put, front_refl}
use Rattle.tree.specs.Paths.{next_of, node_at, Keeps}
use Rattle.tree.proofs.Paths.{node_step, node_past, node_below, node_kept, Grew, grew_keeps, grew_slots, slots_agree}
use Rattle.classes.specs.First.{class_of}
use Rattle.classes.proofs.First.{class_key, class_most, class_new}
use Rattle.classes.specs.Bits.{first_of, roots_of, turn_of, bits_of, Roots, TreeIs}
use Rattle.classes.specs.Classes.{key_at, links_in, root_in, path_of, RowPre, MetAt, FreeAt, SpotIs, NotePre, Classes, Known, Noted}
use Rattle.classes.specs.declared.Rows.{Rows}
use Rattle.tree.specs.declared.Spot.{Spot}
use Rattle.tree.specs.declared.Spot.TheVariants.{Taken, Free}
use Rattle.classes.proofs.Bits.{root_few}

no_zero : {A : Type 0} (a : ℕ) → 0 ≡ suc a → A
no_zero a e = absurd (omega (arith, e))

earlier : (j i : ℕ) → j < i + 1 → (j ≡ i → ⊥) → j < i
earlier j i l q = split≤ i j (λ h. absurd (q (omega arith))) (λ h. h)

-- ---- the walk

module _ (w : List ℕ) (x : Rows) (i : ℕ) where
  -- the path of the key of row i has come to the word at, and the bits are left
  pub record Seeking (at bits : ℕ) : Type 0 where
    pub low : x.links ≤ at
    pub high : at < links_in x + 2 * i
    pub depth : ℕ
    pub reads : (u : List ℕ) → Keeps w x.links (links_in x) i u → path_of u x (key_at w x i) depth ≡ word u at
    pub now : bits ≡ bits_of (roots_of x.n) (key_at w x i) depth
    pub others : (e r : ℕ) → e < depth → path_of w x (key_at w x i) e ≡ suc r → key_at w x r ≡ key_at w x i → ⊥

  module _ (p : RowPre w x i) where
    pub seeking_start : (k : Key) → k ≡ key_at w x i → (first m t bits : ℕ) → first ≡ first_of k → Roots x.n m → TreeIs first m t → bits ≡ first / m → Seeking (x.links + t) bits
    unfolding node_at bits_of
    seeking_start k ek first m t bits ef o h eb = record {
      low = omega arith;
      high = omega (arith, o.is, h.few);
      depth = 0;
      reads = λ u g. ap (word u) (rw (h.is, o.is, ef, ek));
      now = eb ∙ rw (o.is, ef, ek);
      others = λ e r l. absurd (omega arith);
    }

    module _ (at bits : ℕ) (q : Seeking at bits) (c v : ℕ) (ec : c ≡ word w at) (ev : v ≡ c) where
      here : path_of w x (key_at w x i) q.depth ≡ v
      here = q.reads w (record { same = λ at a b o. refl }) ∙ sym (ev ∙ ec)

      seeking_end : v ≡ 0 → SpotIs w x i (Free at)
      seeking_end z = record {
        met = λ k e. let h : ◌≡◌ {A = ℕ} 0 1 = cc in absurd (omega arith);
        free = λ a e. let h : at ≡ a = cc in rw (← h) vacant;
      } where
        gone : (e r : ℕ) → path_of w x (key_at w x i) e ≡ suc r → key_at w x r ≡ key_at w x i → ⊥
        gone e r g h =
            split≤ q.depth e
            (λ a. no_zero r (sym (node_past w (links_in x) (root_in x (key_at w x i)) (bits_of (roots_of x.n) (key_at w x i)) q.depth e a (here ∙ z)) ∙ g))
            (λ a. q.others e r a g h)

        vacant : FreeAt w x i at
        vacant = record { low = q.low; high = q.high; empty = sym (ev ∙ ec) ∙ z; depth = q.depth; reads = q.reads; others = gone }

      module _ (a : Option ℕ) (ea : SomeIff a (1 ≤ v) (v - 1)) where
        pub seeking_none : a ≡ None → SpotIs w x i (Free at)
        seeking_none e = seeking_end (split≡ v 0 (λ h. h) (λ h. absurd ((rw e at ea) (omega arith))))

        module _ (j : ℕ) (ej : a ≡ Some j) where
          row : suc j ≡ v
          row = let h : (1 ≤ v) × (j ≡ v - 1) = rw ej at ea in omega (arith, h.0, h.1)

          some : 0 < v
          some = omega (arith, row)

          pub seeking_row : j < i
          seeking_row = omega (arith, row, ec, ev, p.slots.below at q.low q.high)

          module _ (k : Key) (ek : k ≡ key_at w x i) (t : Bool) (et : t ≡ eq_k (key_at w x j) k) where
            pub seeking_hit : t ≡ true → SpotIs w x i (Taken j)
            seeking_hit h = record {
              met = λ n e. let y : j ≡ n = cc in rw (← y) (record { depth = q.depth; path = here ∙ sym row; few = omega (arith, seeking_row, some); same = eq_k_true _ _ (sym et ∙ h) ∙ ek });
              free = λ a e. let y : ◌≡◌ {A = ℕ} 0 1 = cc in absurd (omega arith);
            }

            module _ (d : t ≡ false) (l : ℕ) (o : Roots x.n l) (bit : ℕ) (eb : bit ≡ bits % 2) where
              el : l ≡ roots_of x.n
              el = o.is

              pub seeking_turn : (b : ℕ) → b ≡ turn_of k bits → Seeking (x.links + l + 2 * j + bit) b
              unfolding bits_of
              seeking_turn b e = record {
                low = omega arith;
                high = omega (arith, el, eb, seeking_row, some);
                depth = suc q.depth;
                reads = λ u g. node_step u (links_in x) (root_in x (key_at w x i)) (bits_of (roots_of x.n) (key_at w x i)) q.depth j (leads u g) ∙ rw (el, eb, q.now);
                now = e ∙ rw (ek, q.now);
                others = passed;
              } where
                leads : (u : List ℕ) → Keeps w x.links (links_in x) i u → path_of u x (key_at w x i) q.depth ≡ suc j
                leads u g = q.reads u g ∙ g.same at q.low q.high (omega (arith, ec, ev, some)) ∙ sym (ev ∙ ec) ∙ sym row

                passed : (e r : ℕ) → e < suc q.depth → path_of w x (key_at w x i) e ≡ suc r → key_at w x r ≡ key_at w x i → ⊥
                passed e r m h y =
                    split≡ e q.depth
                    (λ o. let g : suc r ≡ v = sym h ∙ rw o here in let f : r ≡ j = omega (arith, g, row) in no_way (eq_eq_k _ _ (rw f at y ∙ sym ek)) (sym et ∙ d))
                    (λ o. q.others e r (earlier e q.depth (omega arith) o) h y)

-- ---- one row more

module _ (κ : ℕ → Key) (w : List ℕ) (x : Rows) (i : ℕ) (s : Classes κ w x i) where
  -- where a path leads is the first row of its class
  node_first : (k : Key) (d j : ℕ) → path_of w x k d ≡ suc j → class_of κ x.n (κ j) ≡ j
  unfolding node_at next_of
  node_first k zero j e = s.firsts (root_in x k) j (omega arith) (omega (arith, root_few x.n (first_of k))) e
  node_first k (suc d) j e = go (path_of w x k d) (node_below w (links_in x) (root_in x k) (bits_of (roots_of x.n) k) x.links i s.slots (omega arith) (omega (arith, root_few x.n (first_of k))) (omega arith) d) e where
    go : (a : ℕ) → a ≤ i → next_of w (links_in x) a (bits_of (roots_of x.n) k d % 2) ≡ suc j → class_of κ x.n (κ j) ≡ j
    go zero h z = no_zero j z
    go (suc a) h z = s.firsts (links_in x + 2 * a + bits_of (roots_of x.n) k d % 2) j (omega arith) (omega arith) z

  kept : (u : List ℕ) → Keeps w x.links (links_in x) i u → (j : ℕ) → j < i → path_of u x (κ j) (s.depth j) ≡ suc (class_of κ x.n (κ j))
  kept u k j l = node_kept w (links_in x) (root_in x (κ j)) (bits_of (roots_of x.n) (κ j)) x.links i s.slots (omega arith) (omega (arith, root_few x.n (first_of (κ j)))) (omega arith) u k (s.depth j) (class_of κ x.n (κ j)) (s.path j l)

  module _ (u : List ℕ) (g : Grew w x.links (links_in x) i u) (new : (at : ℕ) → word u at ≡ suc i → word w at ≡ 0 → class_of κ x.n (κ i) ≡ i) (d : ℕ) (here : path_of u x (κ i) d ≡ suc (class_of κ x.n (κ i))) where
    first_row : (at j : ℕ) → x.links ≤ at → at < links_in x + 2 * (i + 1) → word u at ≡ suc j → class_of κ x.n (κ j) ≡ j
    first_row at j p q e =
        split≤ (links_in x + 2 * i) at
        (λ t. no_zero j (sym (g.ends at t q) ∙ e))
        (λ t. ⊎_elim
        (λ z. s.firsts at j p t (sym z ∙ e))
        (λ z. let y : j ≡ i = omega (arith, sym e ∙ z.1) in rw y (new at z.1 z.0))
        (g.slots at p t))

    path_row : (j : ℕ) → j < i + 1 → path_of u x (κ j) (cond (eqb j i) d (s.depth j)) ≡ suc (class_of κ x.n (κ j))
    path_row j h =
        split≡ j i
        (λ q. rw (eq-eqb j i q, q) here)
        (λ q. rw (ne_eqb j i q) (kept u (grew_keeps w x.links (links_in x) i s.slots u g) j (earlier j i h q)))

    classes_grown : Classes κ u x (i + 1)
    classes_grown = record {
      slots = grew_slots w x.links (links_in x) i s.slots u g;
      firsts = first_row;
      depth = λ j. cond (eqb j i) d (s.depth j);
      path = path_row;
    }

-- the trees do not see what is written elsewhere
pub classes_agree : (κ : ℕ → Key) (u w : List ℕ) (x : Rows) (i : ℕ) → ((at : ℕ) → x.links ≤ at → at < links_in x + 2 * i → word u at ≡ word w at) → Classes κ w x i → Classes κ u x i
classes_agree κ u w x i e s = record {
  slots = slots_agree u w x.links (links_in x) i e s.slots;
  firsts = λ at j p q h. s.firsts at j p q (sym (e at p q) ∙ h);
  depth = s.depth;
  path = kept κ w x i s u (record { same = λ at p q o. e at p q });
}

module _ (w : List ℕ) (x : Rows) (i last : ℕ) (m : NotePre w x i last) where
  p : RowPre w x i
  p = m.pre

  grew_same : Grew w x.links (links_in x) i w
  grew_same = record { ends = m.ends; slots = λ at a b. inl refl }

  -- the row of a class that is there
  record Found (κ : ℕ → Key) (r : ℕ) : Type 0 where
    is : r ≡ class_of κ x.n (κ i)
    depth : ℕ
    path : path_of w x (κ i) depth ≡ suc r

  note_old : (r : ℕ) → r ≤ i → ((κ : ℕ → Key) → Known κ w x i last → Found κ r) → Noted w x i last w r
  note_old r few found = record {
    grows = λ κ s. classes_grown κ w x i s.trees w grew_same (λ at a b. no_zero i (sym b ∙ a)) (found κ s).depth ((found κ s).path ∙ ap suc (found κ s).is);
    class = λ κ s. (found κ s).is;
    less = few;
    front = front_refl (4 * x.links) w;
    beyond = λ j h. refl;
    size = refl;
  }

  -- the class of the row before
  pub note_same : 0 < i → (k : Key) → k ≡ key_at w x i → (t : Bool) → t ≡ eq_k (key_at w x last) k → t ≡ true → Noted w x i last w last
  note_same o k ek t et h = note_old last (omega (arith, m.before)) found where
    found : (κ : ℕ → Key) → Known κ w x i last → Found κ last
    found κ s = record {
      is = sym (s.first o) ∙ ap (class_of κ x.n) same;
      depth = s.trees.depth last;
      path = ap (λ (k : Key). path_of w x k (s.trees.depth last)) (sym same) ∙ s.trees.path last (omega (arith, m.before, o)) ∙ ap suc (s.first o);
    } where
      same : κ last ≡ κ i
      same = s.keys last (omega (arith, p.row, m.before)) ∙ eq_k_true _ _ (sym et ∙ h) ∙ ek ∙ sym (s.keys i p.row)

  module _ (o : Spot) (s : SpotIs w x i o) where
    pub note_met : (j : ℕ) → o ≡ Taken j → Noted w x i last w j
    note_met j e = note_old j (omega (arith, c.few)) found where
      c : MetAt w x i j
      c = s.met j e

      found : (κ : ℕ → Key) → Known κ w x i last → Found κ j
      found κ q =
          let k : κ j ≡ κ i = q.keys j (omega (arith, c.few, p.row)) ∙ c.same ∙ sym (q.keys i p.row) in
          record {
            is = rw k at (sym (node_first κ w x i q.trees (key_at w x i) c.depth j c.path));
            depth = c.depth;
            path = ap (λ (k : Key). path_of w x k c.depth) (q.keys i p.row) ∙ c.path;
          }

    pub note_put : (at : ℕ) → o ≡ Free at → 4 * at + 4 ≤ length w
    note_put at e = let c : FreeAt w x i at = s.free at e in omega (arith, c.high, p.row, p.room)

    pub note_free : (at : ℕ) → o ≡ Free at → (u : List ℕ) → u ≡ put_word w at (i + 1) → Noted w x i last u i
    note_free at eo u eu = record {
      grows = λ κ q. classes_grown κ w x i q.trees u grew (λ a b d. own κ q) c.depth (path κ q ∙ ap suc (sym (own κ q)));
      class = λ κ q. sym (own κ q);
      less = omega arith;
      front = rw eu (front_put (4 * x.links) w at (i + 1) (omega (arith, c.low)));
      beyond = λ j h. other j (λ e. omega (arith, c.high));
      size = rw eu (length_put w at (i + 1));
    } where
      c : FreeAt w x i at
      c = s.free at eo

      other : (j : ℕ) → (at ≡ j → ⊥) → word u j ≡ word w j
      other j h = rw eu (word_put_other w at (i + 1) j h)

      here : word u at ≡ suc i
      here = ap (λ (v : List ℕ). word v at) eu ∙ word_put_same w at (i + 1) (note_put at eo) ∙ (omega arith)

      grew : Grew w x.links (links_in x) i u
      grew = record {
        ends = λ a l h. other a (λ e. omega (arith, c.high)) ∙ m.ends a l h;
        slots = λ a l h. split≡ at a
            (λ e. inr (rw e at c.empty, rw e at here))
            (λ e. inl (other a e));
      }

      path : (κ : ℕ → Key) → Known κ w x i last → path_of u x (κ i) c.depth ≡ suc i
      path κ q = ap (λ (k : Key). path_of u x k c.depth) (q.keys i p.row) ∙ c.reads u (grew_keeps w x.links (links_in x) i p.slots u grew) ∙ here

      own : (κ : ℕ → Key) → Known κ w x i last → class_of κ x.n (κ i) ≡ i
      own κ q = class_new κ x.n i p.row (λ j h z. c.others (q.trees.depth j) (class_of κ x.n (κ j)) (ap (λ (k : Key). path_of w x k (q.trees.depth j)) (sym (z ∙ q.keys i p.row)) ∙ q.trees.path j h) (back j h z)) where
        back : (j : ℕ) → j < i → κ j ≡ κ i → key_at w x (class_of κ x.n (κ j)) ≡ key_at w x i
        back j h z =
            let b : class_of κ x.n (κ j) < x.n = (let g : class_of κ x.n (κ j) ≤ j = class_most κ x.n j (omega (arith, p.row)) in omega (arith, g, p.row)) in
            sym (q.keys (class_of κ x.n (κ j)) b) ∙ class_key κ x.n j (omega (arith, p.row)) ∙ z ∙ q.keys i p.row
