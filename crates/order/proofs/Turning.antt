-- Laws of writing a list back to front.
use mathlib.Core.Path.{◌≡◌, refl, ap, ◌∙◌}
use mathlib.Core.List.{List, [], ◌∷◌, ◌++◌, append_assoc, append-nil}
use Prim.Native.Nat.{ℕ, ◌+◌, ◌-◌, ◌≤◌}
use native.Mathlib.Omega.{arith}
use lib.ListN.{length, drop}
use lib.Seq.{drop-length}
use Rattle.laws.specs.Stores.{Writes}
use Rattle.laws.proofs.Stores.{writes_long}
use Rattle.std.specs.Borrow.{Bor}
use Rattle.items.specs.Items.{item, name_item, name_list}
use Rattle.items.proofs.Writing.{length_item}
use Rattle.items.specs.Checked.{names_left, GaveName}
use Rattle.items.specs.declared.lists.Names.{Names}
use Rattle.sorting.specs.Chains.{back}
use Rattle.order.specs.Steps.{Lent}
use Rattle.order.proofs.Arranging.{put_drop, list_append, left_long}

-- the item of a name, which ends at a place
pub put_ends : (w : List ℕ) (to : ℕ) (name : List ℕ) (r : ℕ) (u : List ℕ) → 6 + length name ≤ to → Writes w (to - 6 - length name) (item 3 name) r u → Writes w (to - 6 - length name) (name_item name) to u
unfolding name_item
put_ends w to name r u h v = record { next = omega (arith, length_item 3 name); writes = v.writes }

-- some names are left, and what is written begins at to
pub record Backing (all left : Names) (w₀ w : List ℕ) (to : ℕ) : Type 0 where
  pub list : left.list ≡ all.list
  pub place : left.at + to ≡ length all.list.now
  pub fits : length w ≡ length all.list.now
  pub done : name_list (back (names_left left)) ++ drop to w ≡ name_list (back (names_left all))

pub backing_start : (ns : Names) (w : List ℕ) → Lent ns w → Backing ns ns w w (length w)
backing_start ns w t = record {
  list = refl;
  place = omega (arith, t.start, t.long);
  fits = t.long;
  done = rw (drop-length w) (append-nil (name_list (back (names_left ns))));
}

module _ (all left : Names) (w₀ w : List ℕ) (to : ℕ) (c : Backing all left w₀ w to) where
  pub backing_end : names_left left ≡ [] → w ≡ name_list (back (names_left all))
  unfolding back name_list
  backing_end e =
      let long : length (name_list (names_left left)) ≡ 0 = ap (λ (ns : List (List ℕ)). length (name_list ns)) e in
      let z : to ≡ 0 = omega (arith, c.place, left_long left, ap (λ (b : Bor (List ℕ)). length b.now) c.list) in
      rw (z, e) at c.done

  module _ (x : Bor (List ℕ)) (m : Names) (g : GaveName left x m) where
    pub backing_room : 6 + length x.now ≤ to
    backing_room = omega (arith, c.place, g.next, m.walks.within, ap (λ (b : Bor (List ℕ)). length b.now) (g.list ∙ c.list))

    front_back : name_list (back (names_left left)) ≡ name_list (back (names_left m)) ++ item 3 x.now
    unfolding back name_item name_list
    front_back =
        rw g.head
        (list_append (back (names_left m)) (x.now ∷ [])
        ∙ ap (λ (r : List ℕ). name_list (back (names_left m)) ++ r) (append-nil (item 3 x.now)))

    pub backing_turn : (to' : ℕ) (w' : List ℕ) → Writes w to' (name_item x.now) to w' → Backing all m w₀ w' to'
    unfolding name_item
    backing_turn to' w' v =
        let next : to' + length (item 3 x.now) ≡ to = omega (arith, v.next) in
        let rest : drop to' w' ≡ item 3 x.now ++ drop to w = put_drop w to' (item 3 x.now) to w' to v next (omega (arith, c.place, c.fits)) in
        record {
          list = g.list ∙ c.list;
          place = omega (arith, c.place, g.next, v.next, length_item 3 x.now);
          fits = writes_long w to' (item 3 x.now) to w' v ∙ c.fits;
          done = rw (rest, ← append_assoc (name_list (back (names_left m))) (item 3 x.now) (drop to w), ← front_back) c.done;
        }
