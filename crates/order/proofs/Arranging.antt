-- Laws of placing the names, and of writing them in order.
use mathlib.Core.Path.{◌≡◌, refl, sym, ap, ◌∙◌}
use mathlib.Core.List.{List, [], ◌∷◌, ◌++◌, map, append_assoc, append-nil}
use Prim.Native.Nat.{ℕ, zero, suc, ◌+◌, ◌-◌, ◌*◌, ◌<◌, ◌≤◌}
use native.Mathlib.Nat.{zero-add}
use native.Mathlib.Omega.{arith}
use lib.ListN.{length, take, drop, length-append, length-drop}
use lib.Seq.{sets, sets-eq, drop_at, drop-length, length-take-le}
use Rattle.laws.proofs.Choice.{split_b, split≤}
use Rattle.laws.proofs.Lists.{flat_append}
use Rattle.laws.specs.Numbers.{le32}
use Rattle.laws.specs.Stores.{Writes}
use Rattle.laws.proofs.Stores.{writes_long}
use Rattle.std.specs.Borrow.{Bor}
use Rattle.words.specs.Words.{word, put_word}
use Rattle.words.proofs.Words.{length_put}
use Rattle.words.proofs.Front.{front_sets, front_word}
use Rattle.items.specs.Items.{item, name_item, name_list, name_test}
use Rattle.items.proofs.Writing.{length_item, length_name}
use Rattle.items.specs.Walks.{names_from, Walks}
use Rattle.items.proofs.Walks.{names_end, name_first, name_next}
use Rattle.items.specs.Checked.{names_left, GaveName}
use Rattle.items.specs.declared.lists.Names.{Names}
use Rattle.sorting.specs.Names.{le_name}
use Rattle.sorting.specs.Sort.{insert, isort}
use Rattle.sorting.specs.Steps.{name_at, le_at, words, Sorts}
use Rattle.order.specs.Steps.{Lent, names_at, Placed, Fills}
use Rattle.sorting.proofs.Sorting.{map_isort}
use Rattle.sorting.proofs.Places.{words_same, words_snoc, words_more}

map_append : {A B : Type 0} (f : A → B) (a b : List A) → map f (a ++ b) ≡ map f a ++ map f b
map_append f [] b = refl
map_append f (x ∷ a) b = rw (map_append f a b)

-- ---- the places

-- one place more
names_put : (l : List ℕ) (i : ℕ) (w : List ℕ) (v : ℕ) → 4 * i + 4 ≤ length w → names_at l (i + 1) (put_word w i v) ≡ names_at l i w ++ (name_at l v ∷ [])
unfolding names_at
names_put l i w v h =
    let e : words (put_word w i v) 0 (i + 1) ≡ words w 0 i ++ (v ∷ []) = rw zero-add at (words_more w 0 i v (rw zero-add h)) in
    rw e (map_append (name_at l) (words w 0 i) (v ∷ []))

-- the name that was given stands at the place that is left
name_here : (left m : Names) (x : Bor (List ℕ)) → GaveName left x m → x.now ≡ name_at left.list.now left.at
unfolding name_at
name_here left m x g =
    let h : left.at < length left.list.now = omega (arith, g.next, m.walks.within, ap (λ (b : Bor (List ℕ)). length b.now) g.list) in
    let e = sym g.head ∙ name_first left.list.now left.at left.walks h in
    cc

-- n names are placed, and those that are left begin at a place
pub record Placing (all left : Names) (n : ℕ) (w₀ w : List ℕ) (at : ℕ) : Type 0 where
  pub here : at ≡ left.at
  pub list : left.list ≡ all.list
  pub same : names_at all.list.now n w ++ names_left left ≡ names_left all
  pub long : length w ≡ length w₀
  pub few : 6 * n ≤ at

pub placing_start : (ns : Names) (w : List ℕ) → Lent ns w → Placing ns ns 0 w w ns.at
unfolding names_at
placing_start ns w t = record { here = refl; list = refl; same = refl; long = refl; few = omega arith }

module _ (all left : Names) (n : ℕ) (w₀ w : List ℕ) (at : ℕ) (c : Placing all left n w₀ w at) (t : Lent all w₀) where
  module _ (x : Bor (List ℕ)) (m : Names) (g : GaveName left x m) where
    pub placing_next : at + 6 + length x.now ≤ length w
    placing_next = omega (arith, c.here, g.next, m.walks.within, ap (λ (b : Bor (List ℕ)). length b.now) (g.list ∙ c.list), t.long, c.long)

    pub placing_turn : (w' : List ℕ) → w' ≡ put_word w n at → Placing all m (n + 1) w₀ w' (at + (6 + length x.now))
    placing_turn w' q =
        let room : 4 * n + 4 ≤ length w = omega (arith, c.few, placing_next) in
        let e : name_at all.list.now at ≡ x.now = rw (c.here, ← c.list) (sym (name_here left m x g)) in
        record {
          here = omega (arith, c.here, g.next);
          list = g.list ∙ c.list;
          same =
              rw (q, names_put all.list.now n w at room, e)
              (append_assoc (names_at all.list.now n w) (x.now ∷ []) (names_left m) ∙ (rw g.head at c.same));
          long = rw (q, length_put w n at) c.long;
          few = omega (arith, c.few);
        }

  pub placing_end : names_left left ≡ [] → Placed all n w
  placing_end e = record {
    places = sym (append-nil (names_at all.list.now n w)) ∙ (rw e at c.same);
    few = omega (arith, c.few, c.here, left.walks.within, ap (λ (b : Bor (List ℕ)). length b.now) c.list, t.long, c.long);
  }

-- ---- writing

-- what stands from the place on where a part was stored before the rest
pub put_drop : (w : List ℕ) (to : ℕ) (p : List ℕ) (r : ℕ) (u : List ℕ) (next : ℕ) → Writes w to p r u → to + length p ≡ next → next ≤ length w → drop to u ≡ p ++ drop next w
put_drop w to p r u next v e h =
    rw (v.writes, sets-eq p w to (omega arith), e, append_assoc (take to w) p (drop next w))
    (drop_at (take to w) (p ++ drop next w) to (length-take-le to w (omega arith)))

pub list_append : (a b : List (List ℕ)) → name_list (a ++ b) ≡ name_list a ++ name_list b
unfolding name_list
list_append a b = rw (map_append name_item a b) (flat_append (map name_item a) (map name_item b))

-- what the first i places are written as
abbrev pub front : List ℕ → ℕ → List ℕ → List ℕ
front l i w = name_list (names_at l i w)

front_more : (l : List ℕ) (i : ℕ) (w : List ℕ) → front l (i + 1) w ≡ front l i w ++ name_item (name_at l (word w i))
unfolding names_at name_list
front_more l i w =
    let e : words w 0 (i + 1) ≡ words w 0 i ++ (word w i ∷ []) = rw zero-add at (words_snoc w 0 i) in
    ap (λ (ps : List ℕ). name_list (map (name_at l) ps)) e
    ∙ ap name_list (map_append (name_at l) (words w 0 i) (word w i ∷ []))
    ∙ list_append (map (name_at l) (words w 0 i)) (name_at l (word w i) ∷ [])
    ∙ ap (λ (r : List ℕ). front l i w ++ r) (append-nil (name_item (name_at l (word w i))))

front_long : (l : List ℕ) (i : ℕ) (w : List ℕ) → 6 * i ≤ length (front l i w)
front_long l zero w = omega arith
front_long l (suc i) w =
    let e : suc i ≡ i + 1 = omega arith in
    rw e (omega (arith, front_long l i w, ap length (front_more l i w), length-append (front l i w) (name_item (name_at l (word w i))), length_name (name_at l (word w i))))

front_kept : (l : List ℕ) (i : ℕ) (w u : List ℕ) → words u 0 i ≡ words w 0 i → front l i u ≡ front l i w
unfolding names_at
front_kept l i w u e = ap (λ (ps : List ℕ). name_list (map (name_at l) ps)) e

-- i places are left, and what they are written as ends at to
pub record Writing (l : List ℕ) (n : ℕ) (w₀ w : List ℕ) (i to : ℕ) : Type 0 where
  pub place : to ≡ length (front l i w)
  pub room : to ≤ length w
  pub long : length w ≡ length w₀
  pub done : front l i w ++ drop to w ≡ front l n w₀

pub writing_start : (l : List ℕ) (n : ℕ) (w : List ℕ) → Fills l n w → Writing l n w w n (length w)
writing_start l n w f = record { place = sym f.fills; room = omega arith; long = refl; done = rw (drop-length w) (append-nil (front l n w)) }

module _ (l : List ℕ) (n : ℕ) (w₀ w : List ℕ) (i to : ℕ) (c : Writing l n w₀ w i to) where
  pub writing_room : 6 * i ≤ length w
  writing_room = omega (arith, c.place, c.room, front_long l i w)

  pub writing_end : i ≤ 0 → w ≡ front l n w₀
  unfolding names_at name_list
  writing_end h =
      let e : i ≡ 0 = omega arith in
      let p : to ≡ length (front l 0 w) = rw e at c.place in
      let z : to ≡ 0 = p in
      rw (e, z) at c.done

  module _ (place : ℕ) (name : List ℕ) (less : 0 < i) (at : place ≡ word w (i - 1)) (is : name ≡ name_at l place) where
    split : front l i w ≡ front l (i - 1) w ++ name_item name
    split = let e : i ≡ i - 1 + 1 = omega arith in ap (λ (k : ℕ). front l k w) e ∙ front_more l (i - 1) w ∙ rw (is, at)

    pub writing_left : to ≡ length (front l (i - 1) w) + 6 + length name
    writing_left = omega (arith, c.place, ap length split, length-append (front l (i - 1) w) (name_item name), length_name name)

    pub writing_turn : (to' : ℕ) (w' : List ℕ) → Writes w to' (name_item name) to w' → Writing l n w₀ w' (i - 1) to'
    unfolding name_item
    writing_turn to' w' v =
        let long = length_item 3 name in
        let p : to' ≡ length (front l (i - 1) w) = omega (arith, writing_left, v.next, long) in
        let kept : words w' 0 (i - 1) ≡ words w 0 (i - 1) =
        words_same w w' 0 (i - 1)
        (λ j a b. rw v.writes (front_word to' (sets w to' (item 3 name)) w j (omega (arith, front_long l (i - 1) w)) (front_sets to' (item 3 name) w to' (omega arith)))) in
        let same : front l (i - 1) w' ≡ front l (i - 1) w = front_kept l (i - 1) w w' kept in
        let next : to' + length (item 3 name) ≡ to = omega (arith, v.next) in
        let rest : drop to' w' ≡ item 3 name ++ drop to w = put_drop w to' (item 3 name) to w' to v next c.room in
        record {
          place = rw same p;
          room = omega (arith, writes_long w to' (item 3 name) to w' v);
          long = writes_long w to' (item 3 name) to w' v ∙ c.long;
          done = rw (same, rest, ← append_assoc (front l (i - 1) w) (item 3 name) (drop to w)) (rw split at c.done);
        }

-- ---- all of it

size : List (List ℕ) → ℕ
size ns = length (name_list ns)

size_more : (x : List ℕ) (ns : List (List ℕ)) → size (x ∷ ns) ≡ length (name_item x) + size ns
unfolding size name_list
size_more x ns = length-append (name_item x) (name_list ns)

size_insert : (x : List ℕ) (ns : List (List ℕ)) → size (insert le_name x ns) ≡ size (x ∷ ns)
unfolding insert
size_insert x [] = refl
size_insert x (y ∷ ns) =
    split_b (le_name x y)
    (λ e. rw e)
    (λ e. rw e (omega (arith, size_more y (insert le_name x ns), size_insert x ns, size_more x ns, size_more x (y ∷ ns), size_more y ns)))

-- names in order take as many bytes as before
size_isort : (ns : List (List ℕ)) → size (isort le_name ns) ≡ size ns
unfolding isort
size_isort [] = refl
size_isort (x ∷ ns) = size_insert x (isort le_name ns) ∙ omega (arith, size_more x (isort le_name ns), size_isort ns, size_more x ns)

size_none : (ns : List (List ℕ)) → ns ≡ [] → size ns ≡ 0
unfolding size name_list
size_none ns e = rw e

-- the names of a checked list take all of it
size_by_law : (l : List ℕ) (k at : ℕ) → Walks name_test l at → length l ≤ at + k → at + size (names_from l at) ≡ length l
size_by_law l zero at w h = omega (arith, w.within, size_none (names_from l at) (names_end l at w (omega arith)))
size_by_law l (suc k) at w h =
    split≤ (length l) at
    (λ g. omega (arith, w.within, size_none (names_from l at) (names_end l at w g)))
    (λ g.
    let z = name_next l at w g (le32 l at) refl in
    let b : length (take (le32 l at) (drop (at + 6) l)) ≡ le32 l at = length-take-le (le32 l at) (drop (at + 6) l) (omega (arith, length-drop (at + 6) l, z.within)) in
    let q = size_by_law l k (at + 6 + le32 l at) z (omega arith) in
    rw (name_first l at w g) (omega (arith, size_more (take (le32 l at) (drop (at + 6) l)) (names_from l (at + 6 + le32 l at)), length_name (take (le32 l at) (drop (at + 6) l)))))

-- what is left of a list is as long as its names
pub left_long : (ns : Names) → ns.at + length (name_list (names_left ns)) ≡ length ns.list.now
unfolding size
left_long ns = size_by_law ns.list.now (length ns.list.now) ns.at ns.walks (omega arith)

-- the list that is written, and its length
abbrev pub listed : Names → List ℕ
listed ns = name_list (isort le_name (names_left ns))

pub listed_long : (ns : Names) → ns.at ≡ 0 → length (listed ns) ≡ length ns.list.now
unfolding size
listed_long ns h = omega (arith, size_isort (names_left ns), left_long ns)

module _ (ns : Names) (n : ℕ) (w₀ w u : List ℕ) (t : Lent ns w₀) (p : Placed ns n w) (s : Sorts ns.list.now 0 n n w u) where
  in_order_law : names_at ns.list.now n u ≡ isort le_name (names_left ns)
  unfolding names_at le_at
  in_order_law = ap (map (name_at ns.list.now)) s.sorted ∙ map_isort le_name (name_at ns.list.now) (words w 0 n) ∙ ap (isort le_name) p.places

  pub arranged_fills : length u ≡ length w₀ → Fills ns.list.now n u
  arranged_fills e = record { fills = ap (λ (xs : List (List ℕ)). length (name_list xs)) in_order_law ∙ listed_long ns t.start ∙ sym t.long ∙ sym e }

  pub arranged : (o : List ℕ) → o ≡ name_list (names_at ns.list.now n u) → o ≡ listed ns
  arranged o e = e ∙ ap name_list in_order_law
