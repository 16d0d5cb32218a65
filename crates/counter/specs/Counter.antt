-- The counter that a fixture name carries, and its rank.
use Rattle.std.specs.Prelude.{Option, Some, None, Bool, false, cond, List, [], ◌∷◌, ℕ, suc, ◌+◌, ◌-◌, ◌*◌, leb, eqb, take, drop}
use Rattle.laws.specs.Keys.{eq_k}

-- mdr-packet-
unfoldable pub mark : List ℕ
mark = 109 ∷ 100 ∷ 114 ∷ 45 ∷ 112 ∷ 97 ∷ 99 ∷ 107 ∷ 101 ∷ 116 ∷ 45 ∷ []

-- what follows the first hyphen, nothing if there is none
unfoldable pub after_hyphen : List ℕ → List ℕ
after_hyphen [] = []
after_hyphen (x ∷ xs) = cond (eqb x 45) xs (after_hyphen xs)

-- what stands before the first hyphen, all if there is none
unfoldable pub to_hyphen : List ℕ → List ℕ
to_hyphen [] = []
to_hyphen (x ∷ xs) = cond (eqb x 45) [] (x ∷ to_hyphen xs)

unfoldable pub is_digit : ℕ → Bool
is_digit x = cond (leb 48 x) (leb x 57) false

-- the decimal number of which v is read and the digits xs are left; none if one of them is no digit
unfoldable pub digits : ℕ → List ℕ → Option ℕ
digits v [] = Some v
digits v (x ∷ xs) = cond (is_digit x) (digits (10 * v + (x - 48)) xs) None

-- at least one digit
unfoldable pub number : List ℕ → Option ℕ
number [] = None
number (x ∷ xs) = digits 0 (x ∷ xs)

-- a plus sign may stand before it
unfoldable pub signed : List ℕ → Option ℕ
signed [] = None
signed (x ∷ xs) = cond (eqb x 43) (number xs) (number (x ∷ xs))

-- at most 4,294,967,295
unfoldable pub within : Option ℕ → Option ℕ
within None = None
within (Some v) = cond (leb v 4294967295) (Some v) None

-- the second part between hyphens after the mark; a part that is not there reads as empty, which is no number
unfoldable pub counter : List ℕ → Option ℕ
counter name = cond (eq_k (take 11 name) mark) (within (signed (to_hyphen (after_hyphen (drop 11 name))))) None

-- no counter comes before the counter 0
unfoldable pub rank : Option ℕ → ℕ
rank None = 0
rank (Some v) = suc v
