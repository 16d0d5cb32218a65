-- What the functions of the search promise.
use Rattle.std.specs.Prelude.{ℕ, ◌+◌, ◌<◌, ◌≤◌, ◌≡◌, Bool, true, false, List, length, take, drop}
use Rattle.search.specs.Seek.{seek}

-- no byte of l is x; or one is
pub record Without (l : List ℕ) (x : ℕ) (r : Bool) : Type 0 where
  pub none : r ≡ true → seek x l ≡ length l
  pub some : r ≡ false → seek x l < length l

-- no x before a place, and if there is none in the 32 bytes from it on, these are the last; there may be fewer
pub record Passed (s : List ℕ) (x r : ℕ) : Type 0 where
  pub high : r ≤ length s
  pub same : seek x s ≡ r + seek x (take 32 (drop r s))

-- the place of the first x; the length, if there is none
pub record Sought (s : List ℕ) (x r : ℕ) : Type 0 where
  pub at : r ≡ seek x s
  pub most : r ≤ length s
