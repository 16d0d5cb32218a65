-- What the sums, counts and tests of some bytes promise.
use Rattle.std.specs.Prelude.{◌≡◌, ℕ, ◌%◌, ◌≤◌, Bool, true, cond, List, length}
use Rattle.mdr.specs.Sum.{total}
use Rattle.mdr.specs.Escaping.{count_in}
use Rattle.blocks.specs.declared.Totals.{Totals}

-- the sum of the bytes, and how many lie between two values
pub record Tallied (l : List ℕ) (lo hi : ℕ) (t : Totals) : Type 0 where
  pub sum : t.sum ≡ total l % 256
  pub hits : t.hits ≡ count_in lo hi l
  pub most : t.hits ≤ length l

-- all: every byte lies between the two values, or, where outside is asked, none does
pub record AllAre (inside : Bool) (lo hi : ℕ) (s : List ℕ) (all : Bool) : Type 0 where
  pub are : all ≡ true → count_in lo hi s ≡ cond inside (length s) 0

-- bare: no byte lies between the two values
pub record Bare (lo hi : ℕ) (s : List ℕ) (bare : Bool) : Type 0 where
  pub none : bare ≡ true → count_in lo hi s ≡ 0

-- full: every byte does
pub record Full (lo hi : ℕ) (s : List ℕ) (full : Bool) : Type 0 where
  pub all : full ≡ true → count_in lo hi s ≡ length s
