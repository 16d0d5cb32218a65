-- Looking for a name: its stem, the ending that is left, and whether a command has both.
use Rattle.std.specs.Prelude.{Option, Some, None, ◌≡◌, Bool, true, false, cond, List, [], ◌∷◌, ℕ, ◌+◌, ◌*◌, ◌<◌, eqb, length, take, drop}
use denote.Bor.{Bor}
use Rattle.letters.specs.Run.{part_at, begins, ending_in, all_pairs}

-- what follows a part, where some letters begin with it
abbrev pub rest_is : ℕ → List ℕ → Option (Bor (List ℕ)) → Type 0
rest_is p n (Some r) = (begins (part_at p) n ≡ true) × (r.now ≡ drop (length (part_at p)) n)
rest_is p n None = begins (part_at p) n ≡ false

pub record RestIs (p : ℕ) (n : List ℕ) (r : Option (Bor (List ℕ))) : Type 0 where
  pub is : rest_is p n r

-- the number of the ending that some letters are
abbrev pub ending_is : List ℕ → Option ℕ → Type 0
ending_is l (Some e) = (e ≡ ending_in l) × (e < 36)
ending_is l None = ending_in l ≡ 36

pub record EndingIs (l : List ℕ) (r : Option ℕ) : Type 0 where
  pub is : ending_is l r

-- whether a number stands in a list
unfoldable pub is_in : ℕ → List ℕ → Bool
is_in x [] = false
is_in x (y ∷ l) = cond (eqb y x) true (is_in x l)

-- whether a command has this stem and this ending, both in one number
unfoldable pub is_pair : ℕ → Bool
is_pair w = is_in w (take 229 all_pairs)

-- whether a command with this stem has this name
unfoldable pub named_from : ℕ → List ℕ → Bool
named_from s n = cond (begins (part_at s) n) (is_pair (256 * s + ending_in (drop (length (part_at s)) n))) false
