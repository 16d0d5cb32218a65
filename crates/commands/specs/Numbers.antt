-- All names by number: those of both tables, of the types, UNKNOWN and NO_COMMAND; and the number of a byte's name.
use Rattle.std.specs.Prelude.{Option, Some, None, unwrap_or, ◌≡◌, Bool, true, false, cond, List, [], ◌∷◌, ◌++◌, map, ℕ, suc, ◌+◌, ◌<◌, ltb, eqb, length, get_or, take, drop}
use Rattle.mdr.specs.Types.{kinds}
use Rattle.commands.specs.Text.{ascii}
use Rattle.commands.specs.Commands.{Entry, t1, t2}
use Rattle.commands.specs.Labels.{type_name}
use Rattle.commands.specs.declared.Table.{Table}
use Rattle.commands.specs.declared.Table.TheVariants.{One, Two}

abbrev pub codes_of : List Entry → List ℕ
codes_of es = map (λ (e : Entry). e.code) es

abbrev pub names_of : List Entry → List (List ℕ)
names_of es = map (λ (e : Entry). e.name) es

-- the codes of table 1, then those of table 2
unfoldable pub all_codes : List ℕ
all_codes = codes_of t1 ++ codes_of t2

-- the names of both tables
unfoldable pub commands : List (List ℕ)
commands = names_of t1 ++ names_of t2

unfoldable pub others : List (List ℕ)
others = map type_name kinds ++ (ascii "UNKNOWN" ∷ ascii "NO_COMMAND" ∷ [])

unfoldable pub all_names : List (List ℕ)
all_names = commands ++ others

-- the name with a number
unfoldable pub name_at : ℕ → List ℕ
name_at i = get_or all_names i []

-- the name with this number is this one
pub record Spot (i : ℕ) (name : List ℕ) : Type 0 where
  pub within : i < 246
  pub is : name_at i ≡ name

-- ---- tests that are computed over a whole table

-- each number is below the next
abbrev pub rising : List ℕ → Bool
rising [] = true
rising (x ∷ []) = true
rising (x ∷ y ∷ l) = cond (ltb x y) (rising (y ∷ l)) false

-- the first place of a number in a list, or the list's length
unfoldable pub index_in : ℕ → List ℕ → ℕ
index_in b [] = 0
index_in b (x ∷ l) = cond (eqb x b) 0 (suc (index_in b l))

-- the number of a byte's name, where a table's codes and names stand from a place on; of UNKNOWN where the table lacks it
unfoldable pub spot_in : ℕ → ℕ → ℕ → ℕ
spot_in first count b = let i = index_in b (take count (drop first all_codes)) in cond (ltb i count) (first + i) 244

-- as the code has it
pub record SpotIn (first count b : ℕ) (r : Option ℕ) : Type 0 where
  pub is : unwrap_or r 244 ≡ spot_in first count b

abbrev pub entries_of : Option Table → List Entry
entries_of (Some One) = t1
entries_of (Some Two) = t2
entries_of None = []
