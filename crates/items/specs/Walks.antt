-- Walking a list in code: the kinds of a list, what a check answers, and, once a list is checked, what stands at each place of it.
use Rattle.std.specs.Prelude.{Result, Ok, Err, ℕ, ◌+◌, ◌≤◌, ◌≡◌, true, cond, List, [], ◌∷◌, map, eqb, length}
use Rattle.items.specs.Items.{Span, Item, item_at, end_at, Test, Listed, well_formed, ill_formed, read_items, span_test, span_of, name_test}
use Rattle.items.specs.Reading.{read_from}
use Rattle.items.specs.declared.Direction.{Direction}
use Rattle.items.specs.declared.Direction.TheVariants.{Rx, Tx}
use Rattle.items.specs.declared.Listing.{Listing}
use Rattle.items.specs.declared.Listing.TheVariants.{Spans, Names, Any}

-- any item may stand in a list
abbrev pub any_item : Test
any_item kind body = true

-- the kinds and bodies of a list
abbrev pub test_of : Listing → Test
test_of Spans = span_test
test_of Names = name_test
test_of Any = any_item

-- the number of items, or the offset at which the list is ill-formed
unfoldable pub check_of : {A : Type 0} → Listed A → Result ℕ ℕ
check_of (well_formed xs) = Ok (length xs)
check_of (ill_formed n) = Err n

-- ---- a list that is well-formed from a place on, and its items from there on

abbrev pub held : {A : Type 0} → Listed A → List A
held (well_formed xs) = xs
held (ill_formed n) = []

unfoldable pub items_from : Test → List ℕ → ℕ → List Item
items_from ok l at = held (read_from ok l at)

unfoldable pub spans_from : List ℕ → ℕ → List Span
spans_from l at = map span_of (items_from span_test l at)

unfoldable pub names_from : List ℕ → ℕ → List (List ℕ)
names_from l at = map (λ (x : Item). x.body) (items_from name_test l at)

pub record Walks (ok : Test) (l : List ℕ) (at : ℕ) : Type 0 where
  pub within : at ≤ length l
  pub well : read_from ok l at ≡ well_formed (items_from ok l at)

-- a turn of a walk: the item at a place is the first of those from there on, and the rest are those from its end on
pub record Turn (ok : Test) (l : List ℕ) (at : ℕ) : Type 0 where
  pub past : at + 6 ≤ end_at l at
  pub passes : ok (item_at l at).kind (item_at l at).body ≡ true
  pub head : items_from ok l at ≡ item_at l at ∷ items_from ok l (end_at l at)
  pub next : Walks ok l (end_at l at)

-- ---- what a check says

-- a list that passed, with so many items
pub record Good (ok : Test) (l : List ℕ) (n : ℕ) : Type 0 where
  pub reads : read_items ok l ≡ well_formed (items_from ok l 0)
  pub walks : Walks ok l 0
  pub count : n ≡ length (items_from ok l 0)
  pub small : length l ≤ 16777216

-- kind 1 is Rx and 2 is Tx
unfoldable pub direction_of : ℕ → Direction
direction_of kind = cond (eqb kind 1) Rx Tx
