-- The row of a key, found or made: what seat promises.
use Rattle.std.specs.Prelude.{◌≡◌, List, ℕ, ◌+◌, ◌*◌, ◌<◌, ◌≤◌, Bool, true, length, Option, Some, None}
use Rattle.words.specs.Words.{word}
use Rattle.words.specs.Front.{Front}
use Rattle.table.specs.Table.{find_in, Slot, none, some, lookup, upd}
use Rattle.tree.specs.Tree.{Indexed, Entered}
use Rattle.table.specs.declared.Row.{Row}
use Rattle.tree.specs.declared.Table.{Table}
use Rattle.tree.specs.declared.Seating.{Seating}

-- what seat makes of what a table says of a key
unfoldable pub seat_of : ℕ → ℕ → Slot → Slot
seat_of y z none = some y z
seat_of y z (some a b) = some a b

-- The row of the key: the one that there is, and nothing changes, or the new one.
pub record Seated (w : List ℕ) (t : Table) (row : Row) (u : List ℕ) (r : Seating) : Type 0 where
  pub known : (i : ℕ) → find_in w t.at.rows row.key t.count ≡ Some i → (u ≡ w) × ((r.rows ≡ t.count) × (r.at ≡ i))
  pub fresh : find_in w t.at.rows row.key t.count ≡ None → Entered w t row u (t.count + 1) × ((r.rows ≡ t.count + 1) × (r.at ≡ t.count))
  pub own : find_in u t.at.rows row.key r.rows ≡ Some r.at
  pub others : (j : ℕ) → (row.key ≡ j → ⊥) → find_in u t.at.rows j r.rows ≡ find_in w t.at.rows j t.count
  pub few : r.at < r.rows
  pub says : (j : ℕ) → lookup u t.at.rows r.rows j ≡ upd (lookup w t.at.rows t.count) row.key (seat_of row.a row.b (lookup w t.at.rows t.count row.key)) j
  pub indexed : Indexed u t.at r.rows
  pub least : t.count ≤ r.rows
  pub most : r.rows ≤ t.count + 1
  pub front : Front (4 * t.at.rows) u w
  pub size : length u ≡ length w
  pub between : (j : ℕ) → t.at.rows + 4 * (t.count + 1) ≤ j → j < t.at.links → word u j ≡ word w j
  pub beyond : (j : ℕ) → t.at.links + t.at.roots + 2 * (t.count + 1) ≤ j → word u j ≡ word w j

-- whether row i is the key's
pub record Sits (w : List ℕ) (t : Table) (k i : ℕ) (r : Bool) : Type 0 where
  pub own : r ≡ true → find_in w t.at.rows k t.count ≡ Some i

-- an answer is the key's row
pub record Nearby (w : List ℕ) (t : Table) (k : ℕ) (r : Option ℕ) : Type 0 where
  pub has : (i : ℕ) → r ≡ Some i → find_in w t.at.rows k t.count ≡ Some i
