-- Text as bytes.
use Rattle.std.specs.Prelude.{List, [] as []ᴸ, ◌∷◌ as ◌∷ᴸ◌, ℕ}
use Prim.Native.Char.{code}
use Prim.Native.String.{String, [], ◌∷◌}

abbrev pub ascii : String → List ℕ
ascii [] = []ᴸ
ascii (c ∷ s) = code c ∷ᴸ ascii s
