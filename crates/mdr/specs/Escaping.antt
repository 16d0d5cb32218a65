-- Laws of escaping: back again, how long, and that no mark of a frame is left inside.
use Rattle.std.specs.Prelude.{ℕ, ◌+◌, ◌≡◌, List, [], ◌∷◌, cond}
use Rattle.mdr.specs.Escape.{within}

-- a byte that is neither mark
abbrev pub Quiet : ℕ → Type 0
Quiet b = (b ≡ 0x3C → ⊥) × (b ≡ 0x3E → ⊥)

-- how many bytes lie between two values
abbrev pub count_in : ℕ → ℕ → List ℕ → ℕ
count_in lo hi [] = 0
count_in lo hi (b ∷ bs) = cond (within lo hi b) 1 0 + count_in lo hi bs

-- how many bytes are escaped
abbrev pub specials : List ℕ → ℕ
specials l = count_in 0x3C 0x3E l
