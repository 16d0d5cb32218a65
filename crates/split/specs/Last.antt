-- The last n elements of a list.
use Rattle.std.specs.Prelude.{ℕ, ◌-◌, List, length, drop}

unfoldable pub lastn : ℕ → List ℕ → List ℕ
lastn n l = drop (length l - n) l
