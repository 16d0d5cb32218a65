-- Laws of specs/Numbers.
use Prim.Native.Nat.{ℕ, zero, suc, ◌/◌}
use mathlib.Core.Path.{◌≡◌, refl, ap}
use lib.ListN.{length}
use Rattle.laws.specs.Numbers.{le}

pub length_le : (k v : ℕ) → length (le k v) ≡ k
length_le zero v = refl
length_le (suc k) v = ap suc (length_le k (v / 256))
