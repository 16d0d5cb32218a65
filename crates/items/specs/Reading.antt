-- Laws of reading a list: one item after another, and back what was written.
use Rattle.std.specs.Prelude.{ℕ, ◌<◌, ◌≤◌, ◌≡◌, true, List, map, drop}
use Rattle.laws.specs.Lists.{flat}
use Rattle.items.specs.Items.{item, Span, Item, Test, Listed, passing}

-- ---- one item after another

-- the items of a list from a place on
unfoldable pub read_from : Test → List ℕ → ℕ → Listed Item
read_from ok l at = passing ok 0 at (drop at l)

-- an item that may stand in a list
pub record Fits (ok : Test) (x : Item) : Type 0 where
  pub kind : x.kind < 65536
  pub passes : ok x.kind x.body ≡ true

abbrev pub bytes_of : Item → List ℕ
bytes_of x = item x.kind x.body

abbrev pub item_list : List Item → List ℕ
item_list xs = flat (map bytes_of xs)

-- a span that a list can hold
pub record Spanned (s : Span) : Type 0 where
  pub rx : s.rx ≤ 1
  pub time : s.time < 18446744073709551616
