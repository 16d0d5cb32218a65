-- The file header: 8 bytes, the version (4), the datalink (4).
use Rattle.std.specs.Prelude.{ℕ, Bool, ◌&&◌, ◌||◌, List, [], ◌∷◌, length, take, leb, eqb}
use Rattle.laws.specs.Keys.{eq_k}
use Rattle.laws.specs.Numbers.{be32}

-- `btsnoop` and a zero byte
abbrev pub magic : List ℕ
magic = 0x62 ∷ 0x74 ∷ 0x73 ∷ 0x6E ∷ 0x6F ∷ 0x6F ∷ 0x70 ∷ 0 ∷ []

-- else refusal 3
unfoldable pub is_btsnoop : List ℕ → Bool
is_btsnoop f = leb 16 (length f) && (eq_k (take 8 f) magic && eqb (be32 f 8) 1)

unfoldable pub datalink : List ℕ → ℕ
datalink f = be32 f 12

-- else refusal 4, with the number
unfoldable pub is_datalink : ℕ → Bool
is_datalink n = eqb n 1001 || (eqb n 1002 || eqb n 2001)
