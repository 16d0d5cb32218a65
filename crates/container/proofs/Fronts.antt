-- Numbers in the front of a list do not see what follows.
use Prim.Native.Nat.{ℕ, ◌+◌, ◌≤◌}
use mathlib.Core.Path.{◌≡◌}
use mathlib.Core.List.{List, ◌++◌}
use native.Mathlib.Omega.{arith}
use lib.ListN.{length, get_or-append}
use Rattle.laws.specs.Numbers.{le32, be32}

module _ (h x : List ℕ) (i : ℕ) (g : i + 4 ≤ length h) where
  pub be32_front : be32 (h ++ x) i ≡ be32 h i
  unfolding be32
  be32_front = rw (get_or-append h x 0 i (omega arith), get_or-append h x 0 (i + 1) (omega arith), get_or-append h x 0 (i + 2) (omega arith), get_or-append h x 0 (i + 3) (omega arith))

  pub le32_front : le32 (h ++ x) i ≡ le32 h i
  unfolding le32
  le32_front = rw (get_or-append h x 0 i (omega arith), get_or-append h x 0 (i + 1) (omega arith), get_or-append h x 0 (i + 2) (omega arith), get_or-append h x 0 (i + 3) (omega arith))
