-- A checked list is what its names are written as, so one whose names are in order may be written as it stands.
use mathlib.Core.Path.{◌≡◌, refl, sym, ap, ◌∙◌}
use mathlib.Core.List.{List, ◌∷◌, ◌++◌}
use Prim.Native.Nat.{ℕ, zero, suc, ◌+◌, ◌*◌, ◌/◌, ◌%◌, ◌<◌, ◌≤◌}
use native.Mathlib.Omega.{arith}
use lib.ListN.{length, get_or, take, drop, length-drop, take-append-drop}
use lib.Seq.{drop-drop, length-take-le}
use borrow.Author.Tests.{eqb-true}
use Rattle.laws.proofs.Choice.{split≤}
use Rattle.laws.proofs.Lists.{drop_step, drop_end}
use Rattle.laws.specs.Numbers.{le, le16, le32}
use Rattle.items.specs.Items.{item, item_at, name_item, name_list, name_test}
use Rattle.items.specs.Walks.{names_from, Walks}
use Rattle.items.proofs.Walks.{walks_turn, names_end, name_first, name_next}

three : (a b : ℕ) → a < 256 → b < 256 → a + 256 * b ≡ 3 → (a ≡ 3) × (b ≡ 0)
three a b p q e = (omega arith, omega arith)

low : (a x : ℕ) → a < 256 → ((a + 256 * x) % 256 ≡ a) × ((a + 256 * x) / 256 ≡ x)
low a x h = (omega arith, omega arith)

module _ (l : List ℕ) (bytes : (k : ℕ) → get_or l k 0 < 256) where
  module _ (at : ℕ) (fits : at + 6 + le32 l at ≤ length l) (kind : le16 l (at + 4) ≡ 3) where
    head_back : le 4 (le32 l at) ++ (le 2 3 ++ drop (at + 6) l) ≡ drop at l
    unfolding le32 le16
    head_back =
        let b0 = bytes at in
        let b1 = bytes (at + 1) in
        let b2 = bytes (at + 2) in
        let b3 = bytes (at + 3) in
        let n2 : at + 1 + 1 ≡ at + 2 = omega arith in
        let n3 : at + 2 + 1 ≡ at + 3 = omega arith in
        let n4 : at + 3 + 1 ≡ at + 4 = omega arith in
        let n5 : at + 4 + 1 ≡ at + 5 = omega arith in
        let n6 : at + 5 + 1 ≡ at + 6 = omega arith in
        let k = three (get_or l (at + 4) 0) (get_or l (at + 5) 0) (bytes (at + 4)) (bytes (at + 5)) (rw n5 at kind) in
        let v : le32 l at ≡ get_or l at 0 + 256 * (get_or l (at + 1) 0 + 256 * (get_or l (at + 2) 0 + 256 * get_or l (at + 3) 0)) = omega arith in
        let e0 = low (get_or l at 0) (get_or l (at + 1) 0 + 256 * (get_or l (at + 2) 0 + 256 * get_or l (at + 3) 0)) b0 in
        let e1 = low (get_or l (at + 1) 0) (get_or l (at + 2) 0 + 256 * get_or l (at + 3) 0) b1 in
        let e2 = low (get_or l (at + 2) 0) (get_or l (at + 3) 0) b2 in
        let e3 : get_or l (at + 3) 0 % 256 ≡ get_or l (at + 3) 0 = omega arith in
        let d : drop at l ≡ get_or l at 0 ∷ get_or l (at + 1) 0 ∷ get_or l (at + 2) 0 ∷ get_or l (at + 3) 0 ∷ 3 ∷ 0 ∷ drop (at + 6) l =
        rw (drop_step l at (omega arith), drop_step l (at + 1) (omega arith), n2, drop_step l (at + 2) (omega arith), n3, drop_step l (at + 3) (omega arith), n4, drop_step l (at + 4) (omega arith), n5, drop_step l (at + 5) (omega arith), n6, k.0, k.1) in
        rw (v, e0.0, e0.1, e1.0, e1.1, e2.0, e2.1, e3, d)

    item_back : item 3 (take (le32 l at) (drop (at + 6) l)) ++ drop (at + 6 + le32 l at) l ≡ drop at l
    unfolding item
    item_back =
        let body : List ℕ = take (le32 l at) (drop (at + 6) l) in
        let b : length (take (le32 l at) (drop (at + 6) l)) ≡ le32 l at = length-take-le (le32 l at) (drop (at + 6) l) (omega (arith, length-drop (at + 6) l)) in
        let e : take (le32 l at) (drop (at + 6) l) ++ drop (at + 6 + le32 l at) l ≡ drop (at + 6) l =
        ap (λ (r : List ℕ). take (le32 l at) (drop (at + 6) l) ++ r) (sym (drop-drop (le32 l at) (at + 6) l)) ∙ take-append-drop (le32 l at) (drop (at + 6) l) in
        rw (b, e) head_back

  kind_is : (at : ℕ) → Walks name_test l at → at < length l → le16 l (at + 4) ≡ 3
  unfolding name_test item_at
  kind_is at w h = eqb-true (le16 l (at + 4)) 3 (walks_turn name_test l at w h).passes

  whole_by : (k at : ℕ) → Walks name_test l at → length l ≤ at + k → name_list (names_from l at) ≡ drop at l
  unfolding name_list name_item
  whole_by zero at w h = rw (names_end l at w (omega arith), drop_end l at (omega arith))
  whole_by (suc k) at w h =
      split≤ (length l) at
      (λ g. rw (names_end l at w g, drop_end l at g))
      (λ g.
      let z = name_next l at w g (le32 l at) refl in
      let q = whole_by k (at + 6 + le32 l at) z (omega arith) in
      rw (name_first l at w g, q) (item_back at z.within (kind_is at w g)))

  pub names_whole : Walks name_test l 0 → name_list (names_from l 0) ≡ l
  names_whole w = whole_by (length l) 0 w (omega arith)
