-- The table of counts in work: under 64 * link the sessions of a link, under 64 * link + DLCI its links on that DLCI.
use Rattle.std.specs.Prelude.{ℕ, ◌+◌, ◌*◌, ◌/◌, ◌<◌, ◌≤◌, ◌≡◌, List, [], ◌∷◌}
use Rattle.laws.specs.Keys.{Key}
use Rattle.table.specs.Table.{Slot, none, some, lookup}
use Rattle.tree.specs.Tree.{EnterPre, Entered}
use Rattle.tree.specs.declared.Tree.{Tree}
use Rattle.tree.specs.declared.Table.{Table}
use Rattle.tree.specs.declared.Seating.{Seating}
use Rattle.rfcomm.specs.Pieces.{Counts}

unfoldable pub value_of : Slot → ℕ
value_of none = 0
value_of (some v z) = v

-- where n rows from word b on and their index stand: b is 6 areas
unfoldable pub count_index : ℕ → Tree
count_index b = record { rows = b; links = b + 4 * (b / 42); roots = b / 1536 + 1 }

pub record UpPre (w : List ℕ) (t : Table) (k : ℕ) : Type 0 where
  pub enter : EnterPre w t
  pub small : value_of (lookup w t.at.rows t.count k) < 65536

-- a key is counted once more; the second value of a row says nothing
pub record CountedUp (w : List ℕ) (t : Table) (k : ℕ) (u : List ℕ) (r : Seating) : Type 0 where
  pub other : ℕ
  pub entered : Entered w t (record { key = k; a = value_of (lookup w t.at.rows t.count k) + 1; b = other }) u r.rows

-- the counts that n rows at word b hold, after at most so many steps
pub record Counted (m : Key → Counts) (w : List ℕ) (b n most : ℕ) : Type 0 where
  pub sessions : (l : ℕ) → (m (l ∷ [])).sessions ≡ value_of (lookup w b n (64 * l))
  pub links : (l e : ℕ) → 0 < e → e < 64 → (m (l ∷ [])).links e ≡ value_of (lookup w b n (64 * l + e))
  pub few : (k : ℕ) → value_of (lookup w b n k) ≤ most
