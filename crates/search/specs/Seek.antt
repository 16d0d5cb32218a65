-- Where the first of a byte stands.
use Rattle.std.specs.Prelude.{ℕ, suc, cond, List, [], ◌∷◌, eqb}

-- how many bytes stand before the first x
unfoldable pub seek : ℕ → List ℕ → ℕ
seek x [] = 0
seek x (y ∷ l) = cond (eqb y x) 0 (suc (seek x l))
