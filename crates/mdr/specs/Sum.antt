-- The frame's sum: of all bytes, wrapping in eight bits.
use Rattle.std.specs.Prelude.{ℕ, ◌+◌, ◌%◌, List, [], ◌∷◌}

abbrev pub total : List ℕ → ℕ
total [] = 0
total (b ∷ bs) = b + total bs

unfoldable pub checksum_of : List ℕ → ℕ
checksum_of bs = total bs % 256
