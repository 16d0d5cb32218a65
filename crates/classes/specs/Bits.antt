-- The bits by which a key is sought, in the order in which they are taken.
use Rattle.std.specs.Prelude.{cond, ◌≡◌, ℕ, zero, suc, ◌+◌, ◌*◌, ◌/◌, ◌%◌, ◌<◌, get_or, eqb, ltb}
use Rattle.laws.specs.Keys.{Key}

-- 24 bits of the four words, under a mark
unfoldable pub mix_of : ℕ → ℕ → ℕ → ℕ → ℕ
mix_of dlci side cid counts = 16777216 + ((1640531527 * side + 1779033703 * counts) / 65536 + cid + 106039 * dlci) % 16777216

-- 63 bits of two of them, under a mark
unfoldable pub pair_of : ℕ → ℕ → ℕ
pair_of side counts = 9223372036854775808 + counts + 4294967297 * (side % 1073741824)

unfoldable pub first_of : Key → ℕ
first_of k = mix_of (get_or k 0 0) (get_or k 1 0) (get_or k 2 0) (get_or k 3 0)

unfoldable pub second_of : Key → ℕ
second_of k = pair_of (get_or k 1 0) (get_or k 3 0)

-- how many trees there are, of n rows: what is left of a key's first number by it says which is the key's
unfoldable pub roots_of : ℕ → ℕ
roots_of n = cond (ltb n 256) 1 (cond (ltb n 4096) 256 (cond (ltb n 65536) 4096 65536))

-- what is left after the lowest bit: where it is the mark, the second number of the key
unfoldable pub turn_of : Key → ℕ → ℕ
turn_of k r = cond (eqb (r / 2) 1) (second_of k) (r / 2)

-- the number whose lowest bit is taken at depth d, of m trees
unfoldable pub bits_of : ℕ → Key → ℕ → ℕ
bits_of m k zero = first_of k / m
bits_of m k (suc d) = turn_of k (bits_of m k d)

-- ---- what the functions promise

pub record Roots (n r : ℕ) : Type 0 where
  pub is : r ≡ roots_of n
  pub some : 0 < r

-- the tree of a first number, of m
pub record TreeIs (first m r : ℕ) : Type 0 where
  pub is : r ≡ first % m
  pub few : r < m
