-- Escaping: 3C, 3D, 3E become 3D 2C, 3D 2D, 3D 2E; and back, with the refusals 13 and 14.
use Rattle.std.specs.Prelude.{ℕ, ◌+◌, ◌-◌, List, [], ◌∷◌, ◌++◌, Bool, true, false, cond, leb, eqb}
use Rattle.laws.specs.Answers.{Outcome, gives, refuses}

-- a byte between two values
unfoldable pub within : ℕ → ℕ → ℕ → Bool
within lo hi b = cond (leb lo b) (leb b hi) false

-- 3C, 3D, 3E
abbrev pub special : ℕ → Bool
special b = within 0x3C 0x3E b

-- 2C, 2D, 2E
abbrev pub escapee : ℕ → Bool
escapee b = within 0x2C 0x2E b

abbrev pub escape_byte : ℕ → List ℕ
escape_byte b = cond (special b) (0x3D ∷ (b - 0x10) ∷ []) (b ∷ [])

abbrev pub escape : List ℕ → List ℕ
escape [] = []
escape (b ∷ bs) = escape_byte b ++ escape bs

-- a byte in front of what follows, unless that is refused
abbrev pub push : ℕ → Outcome → Outcome
push b (gives vs bs) = gives vs (b ∷ bs)
push b (refuses n vs) = refuses n vs

-- `true`: the byte before was a 3D
abbrev pub unescape_from : Bool → List ℕ → Outcome
unescape_from false [] = gives [] []
unescape_from true [] = refuses 13 []
unescape_from false (b ∷ bs) = cond (eqb b 0x3D) (unescape_from true bs) (push b (unescape_from false bs))
unescape_from true (b ∷ bs) = cond (escapee b) (push (b + 0x10) (unescape_from false bs)) (refuses 14 (b ∷ []))

abbrev pub unescape : List ℕ → Outcome
unescape bs = unescape_from false bs
