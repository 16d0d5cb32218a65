-- Laws of specs/Walks.
use Rattle.std.specs.Prelude.{Result, Ok, Err}
use Prim.Native.Nat.{ℕ, ◌+◌, ◌<◌, ◌≤◌}
use mathlib.Core.Path.{◌≡◌, refl, sym, ap, ◌∙◌}
use mathlib.Core.Bool.{true}
use mathlib.Core.List.{List, [], ◌∷◌}
use native.Mathlib.Omega.{arith}
use lib.Dec.{leb}
use lib.ListN.{length, take, drop}
use borrow.Author.Tests.{leb-true, le-leb, lt-leb}
use Rattle.laws.proofs.Choice.{split_b, no_way}
use Rattle.laws.specs.Numbers.{le32}
use Rattle.items.specs.Items.{Item, item_at, end_at, Test, is_item, Listed, well_formed, ill_formed, more, read_items, span_test, spans_in, name_test, names_in}
use Rattle.items.specs.Reading.{read_from}
use Rattle.items.proofs.Reading.{read_good, read_bad, read_end}
use Rattle.items.specs.Walks.{check_of, held, items_from, spans_from, names_from, Walks, Turn, Good}

pub good_fits : (ok : Test) (l : List ℕ) (at : ℕ) → is_item ok l at ≡ true → end_at l at ≤ length l
unfolding is_item
good_fits ok l at e =
    split_b (leb (end_at l at) (length l))
    (λ h. leb-true (end_at l at) (length l) h)
    (λ h. no_way e (rw h))

pub good_passes : (ok : Test) (l : List ℕ) (at : ℕ) → is_item ok l at ≡ true → ok (item_at l at).kind (item_at l at).body ≡ true
unfolding is_item
good_passes ok l at e = rw (le-leb (end_at l at) (length l) (good_fits ok l at e)) at e

pub end_past : (l : List ℕ) (at : ℕ) → at + 6 ≤ end_at l at
unfolding end_at
end_past l at = omega arith

pub end_is : (l : List ℕ) (at : ℕ) → end_at l at ≡ at + 6 + le32 l at
unfolding end_at
end_is l at = refl

rest_well : (x : Item) (r : Listed Item) (xs : List Item) → more x r ≡ well_formed xs → r ≡ well_formed (held r)
rest_well x (well_formed ys) xs e = refl
rest_well x (ill_formed n) xs e = let z : ◌≡◌ {A = ℕ} 0 1 = cc in absurd (omega arith)

rest_held : (x : Item) (r : Listed Item) (xs : List Item) → more x r ≡ well_formed xs → held (more x r) ≡ x ∷ held r
rest_held x (well_formed ys) xs e = refl
rest_held x (ill_formed n) xs e = let z : ◌≡◌ {A = ℕ} 0 1 = cc in absurd (omega arith)

module _ (ok : Test) (l : List ℕ) (at : ℕ) (w : Walks ok l at) where
  pub walks_turn : at < length l → Turn ok l at
  unfolding items_from
  walks_turn h =
      split_b (is_item ok l at)
      (λ g.
      let e = read_good ok l at h g in
      let q : more (item_at l at) (read_from ok l (end_at l at)) ≡ well_formed (items_from ok l at) = sym e ∙ w.well in
      record {
        past = end_past l at;
        passes = good_passes ok l at g;
        head = rw e (rest_held (item_at l at) (read_from ok l (end_at l at)) (items_from ok l at) q);
        next = record { within = good_fits ok l at g; well = rest_well (item_at l at) (read_from ok l (end_at l at)) (items_from ok l at) q };
      })
      (λ g. let e : ill_formed at ≡ well_formed (items_from ok l at) = sym (read_bad ok l at h g) ∙ w.well in
      let z : ◌≡◌ {A = ℕ} 0 1 = cc in absurd (omega arith))

  pub walks_end : length l ≤ at → items_from ok l at ≡ []
  unfolding items_from
  walks_end h = rw (read_end ok l at h)

-- and back: what stands before a place, from what stands after it
module _ (ok : Test) (l : List ℕ) (at : ℕ) (h : at < length l) (g : is_item ok l at ≡ true) where
  pub walks_back : Walks ok l (end_at l at) → Walks ok l at
  unfolding items_from
  walks_back w =
      let e : read_from ok l at ≡ well_formed (item_at l at ∷ items_from ok l (end_at l at)) = read_good ok l at h g ∙ rw w.well in
      record { within = omega arith; well = e ∙ sym (ap (λ (r : Listed Item). well_formed (held r)) e) }

  pub ill_back : (n : ℕ) → read_from ok l (end_at l at) ≡ ill_formed n → read_from ok l at ≡ ill_formed n
  ill_back n e = read_good ok l at h g ∙ rw e

well_held : {A : Type 0} (r : Listed A) (n : ℕ) → check_of r ≡ Ok n → r ≡ well_formed (held r)
unfolding check_of
well_held (well_formed xs) n e = refl
well_held (ill_formed m) n e = let z : ◌≡◌ {A = ℕ} 0 1 = cc in absurd (omega arith)

well_count : {A : Type 0} (r : Listed A) (n : ℕ) → check_of r ≡ Ok n → n ≡ length (held r)
unfolding check_of
well_count (well_formed xs) n e = cc
well_count (ill_formed m) n e = let z : ◌≡◌ {A = ℕ} 0 1 = cc in absurd (omega arith)

ill_at : {A : Type 0} (r : Listed A) (n : ℕ) → check_of r ≡ Err n → r ≡ ill_formed n
unfolding check_of
ill_at (well_formed xs) n e = let z : ◌≡◌ {A = ℕ} 0 1 = cc in absurd (omega arith)
ill_at (ill_formed m) n e = cc

no_well : {G : Type 0} (m n : ℕ) → check_of {A = Item} (ill_formed m) ≡ Ok n → G
unfolding check_of
no_well m n e = let z : ◌≡◌ {A = ℕ} 0 1 = cc in absurd (omega arith)

module _ (ok : Test) (l : List ℕ) (r : Result ℕ ℕ) (n : ℕ) (c : r ≡ check_of (read_items ok l)) where
  pub checked_good : r ≡ Ok n → Good ok l n
  unfolding read_items read_from items_from
  checked_good e =
      split_b (leb (length l) 16777216)
      (λ h.
      let q : check_of (read_from ok l 0) ≡ Ok n = rw h at (sym c ∙ e) in
      let w = well_held (read_from ok l 0) n q in
      record {
        reads = rw h w;
        walks = record { within = omega arith; well = w };
        count = well_count (read_from ok l 0) n q;
        small = leb-true (length l) 16777216 h;
      })
      (λ h. no_well 0 n (rw h at (sym c ∙ e)))

  pub checked_ill : r ≡ Err n → read_items ok l ≡ ill_formed n
  checked_ill e = ill_at (read_items ok l) n (sym c ∙ e)

-- a list that was walked to its end, or to an item at which it is ill-formed
module _ (ok : Test) (l : List ℕ) (small : length l ≤ 16777216) where
  pub walked_good : Walks ok l 0 → Good ok l (length (items_from ok l 0))
  unfolding read_items read_from items_from
  walked_good w = record { reads = rw (le-leb (length l) 16777216 small) w.well; walks = w; count = refl; small = small }

  pub walked_ill : (n : ℕ) → read_from ok l 0 ≡ ill_formed n → read_items ok l ≡ ill_formed n
  unfolding read_items read_from
  walked_ill n e = rw (le-leb (length l) 16777216 small) e

pub over_ill : (ok : Test) (l : List ℕ) → 16777216 < length l → read_items ok l ≡ ill_formed 0
unfolding read_items
over_ill ok l h = rw (lt-leb (length l) 16777216 h)

-- ---- spans

pub spans_in_law : (l : List ℕ) (n : ℕ) → Good span_test l n → spans_in l ≡ well_formed (spans_from l 0)
unfolding spans_in spans_from
spans_in_law l n g = rw g.reads

pub spans_ill : (l : List ℕ) (n : ℕ) → read_items span_test l ≡ ill_formed n → spans_in l ≡ ill_formed n
unfolding spans_in
spans_ill l n e = rw e

pub spans_end : (l : List ℕ) (at : ℕ) → Walks span_test l at → length l ≤ at → spans_from l at ≡ []
unfolding spans_from
spans_end l at w h = rw (walks_end span_test l at w h)

-- ---- names

pub names_in_law : (l : List ℕ) (n : ℕ) → Good name_test l n → names_in l ≡ well_formed (names_from l 0)
unfolding names_in names_from
names_in_law l n g = rw g.reads

pub names_ill : (l : List ℕ) (n : ℕ) → read_items name_test l ≡ ill_formed n → names_in l ≡ ill_formed n
unfolding names_in
names_ill l n e = rw e

pub names_end : (l : List ℕ) (at : ℕ) → Walks name_test l at → length l ≤ at → names_from l at ≡ []
unfolding names_from
names_end l at w h = rw (walks_end name_test l at w h)

module _ (l : List ℕ) (at : ℕ) (w : Walks name_test l at) (h : at < length l) where
  pub name_next : (size : ℕ) → size ≡ le32 l at → Walks name_test l (at + 6 + size)
  unfolding end_at
  name_next size e = rw e (walks_turn name_test l at w h).next

  pub name_first : names_from l at ≡ take (le32 l at) (drop (at + 6) l) ∷ names_from l (at + 6 + le32 l at)
  unfolding names_from item_at end_at
  name_first = rw (walks_turn name_test l at w h).head
