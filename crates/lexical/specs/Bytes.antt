-- The order of byte strings.
use Rattle.std.specs.Prelude.{Bool, true, false, cond, List, [], ◌∷◌, ℕ, ltb, eqb}

-- by bytes, a proper beginning first
unfoldable pub le_bytes : List ℕ → List ℕ → Bool
le_bytes [] b = true
le_bytes (x ∷ a) [] = false
le_bytes (x ∷ a) (y ∷ b) = cond (eqb x y) (le_bytes a b) (ltb x y)
