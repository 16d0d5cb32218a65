-- The order of names.
use Rattle.std.specs.Prelude.{Bool, cond, List, ℕ, ltb, eqb}
use Rattle.lexical.specs.Bytes.{le_bytes}
use Rattle.counter.specs.Counter.{counter, rank}

-- names without a counter first, then by counter, then by bytes
unfoldable pub le_name : List ℕ → List ℕ → Bool
le_name a b = cond (eqb (rank (counter a)) (rank (counter b))) (le_bytes a b) (ltb (rank (counter a)) (rank (counter b)))
