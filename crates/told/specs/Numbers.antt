-- Directions and tests by number.
use Rattle.std.specs.Prelude.{ℕ, Bool, true, false, cond, eqb}

abbrev pub bit : Bool → ℕ
bit true = 1
bit false = 0

-- 1 is Rx, any other Tx
unfoldable pub way_of : ℕ → ℕ
way_of way = cond (eqb way 1) 1 0
