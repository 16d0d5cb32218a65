-- What the functions inside promise to each other.
use Rattle.std.specs.Prelude.{Result, Ok, Err, ◌≡◌, Bool, true, List, ◌∷◌, map, ℕ, ◌*◌, ◌≤◌, length}
use Rattle.std.specs.Borrow.{Bor}
use Rattle.items.specs.Items.{name_test, name_list, ill_formed, names_in}
use Rattle.items.specs.Walks.{items_from, names_from, Walks, Good}
use Rattle.items.specs.Checked.{names_left, CheckedWell}
use Rattle.items.specs.Entries.{Over}
use Rattle.items.specs.declared.Listing.TheVariants as listing
use Rattle.items.specs.declared.lists.Names.{Names}
use Rattle.items.specs.declared.walking.Walk.{Walk}
use Rattle.sorting.specs.Names.{le_name}
use Rattle.sorting.specs.Chains.{Chain, back}
use Rattle.sorting.specs.Sort.{isort}
use Rattle.sorting.specs.Steps.{name_at, HeadOf, words}
use Rattle.sorting.specs.declared.Head.{Head}
use Rattle.order.specs.declared.Way.{Way}
use Rattle.order.specs.declared.Way.TheVariants.{Up, Down, Mixed}
use Rattle.order.specs.declared.OrderError.{OrderError}
use Rattle.order.specs.declared.OrderError.TheVariants.{IllFormed, OutShort}

-- all of a list that was checked, and an output of its length
pub record Lent (ns : Names) (w : List ℕ) : Type 0 where
  pub start : ns.at ≡ 0
  pub small : length ns.list.now ≤ 16777216
  pub long : length w ≡ length ns.list.now

-- the names at the places in the first n words
unfoldable pub names_at : List ℕ → ℕ → List ℕ → List (List ℕ)
names_at l n w = map (name_at l) (words w 0 n)

-- the places of all names of a list stand in the first n words, and take less room than the names
pub record Placed (ns : Names) (n : ℕ) (w : List ℕ) : Type 0 where
  pub places : names_at ns.list.now n w ≡ names_left ns
  pub few : 6 * n ≤ length w

-- the names at the places in the first n words fill the output
pub record Fills (l : List ℕ) (n : ℕ) (w : List ℕ) : Type 0 where
  pub fills : length (name_list (names_at l n w)) ≡ length w

-- ---- lists that run one way

-- a walk over names, and one of the list
pub record RunPre (w : Walk) (a : Head) : Type 0 where
  pub over : Over w.list.now listing.Names w
  pub within : w.at ≤ length w.list.now
  pub small : length w.list.now ≤ 16777216
  pub head : HeadOf w.list.now a.place a

-- well-formed from a place on, and the names from a on are a chain
pub record RunFrom (l : List ℕ) (start : ℕ) (a : Head) (up : Bool) : Type 0 where
  pub walks : Walks name_test l start
  pub chain : Chain le_name up (name_at l a.place ∷ names_from l start)

pub record RunsOn (l : List ℕ) (start : ℕ) (a : Head) (up r : Bool) : Type 0 where
  pub told : r ≡ true → RunFrom l start a up

-- well-formed, and the names are a chain
pub record Run (l : List ℕ) (up : Bool) : Type 0 where
  pub good : Good name_test l (length (items_from name_test l 0))
  pub chain : Chain le_name up (names_from l 0)

pub record Runs (l : List ℕ) (up r : Bool) : Type 0 where
  pub told : r ≡ true → Run l up

-- a list that was checked, without how its names stand
abbrev pub names_of : Way → Names
names_of (Up ns) = ns
names_of (Down ns) = ns
names_of (Mixed ns) = ns

-- the list in order is the list itself, or its names from the last to the first
abbrev pub Stands : Way → Type 0
Stands (Up ns) = name_list (isort le_name (names_left ns)) ≡ ns.list.now
Stands (Down ns) = isort le_name (names_left ns) ≡ back (names_left ns)
Stands (Mixed ns) = Unit {0}

-- all of a list, and how its names stand
pub record ReadWell (l : Bor (List ℕ)) (way : Way) : Type 0 where
  pub whole : CheckedWell l (names_of way)
  pub stands : Stands way

abbrev pub ReadIs : Bor (List ℕ) → Result Way OrderError → Type 0
ReadIs l (Ok way) = ReadWell l way
ReadIs l (Err (IllFormed at)) = names_in l.now ≡ ill_formed at
ReadIs l (Err (OutShort n)) = ⊥

-- how the names of a list stand, and an output of the list's length
pub record WayPre (way : Way) (w : List ℕ) : Type 0 where
  pub lent : Lent (names_of way) w
  pub stands : Stands way
