-- The size and the time of a record that stands at a place of a file.
use Prim.Native.Nat.{ℕ, ◌+◌, ◌-◌, ◌/◌, ◌≤◌}
use mathlib.Core.Path.{◌≡◌}
use mathlib.Core.List.{List, ◌++◌}
use native.Mathlib.Omega.{arith}
use lib.ListN.{length, drop}
use Rattle.laws.specs.Numbers.{be32, be64}
use Rattle.container.proofs.Fronts.{be32_front}
use Rattle.acl.proofs.Parts.{be32_drop, be64_drop}
use Rattle.btsnoop.specs.Records.{record_size}
use Rattle.btsnoop.specs.Packets.{milliseconds}

module _ (f : List ℕ) (at : ℕ) where
  pub size_at : (m n : ℕ) → m ≡ be32 f (at + 4) → n ≡ m → 24 + n ≡ record_size (drop at f)
  unfolding record_size
  size_at m n e q = rw (be32_drop f at 4, q, e)

  pub time_at : (stamp ms : ℕ) → stamp ≡ be64 f (at + 16) → ms ≡ (stamp - 0x00dcddb30f2f8000) / 1000 → ms ≡ milliseconds (drop at f)
  unfolding milliseconds
  time_at stamp ms e q = rw (be64_drop f at 16, q, e)

-- what follows a record's head does not move its time
pub time_front : (r x : List ℕ) → 24 ≤ length r → milliseconds (r ++ x) ≡ milliseconds r
unfolding milliseconds be64
time_front r x h = rw (be32_front r x 16 (omega arith), be32_front r x 20 (omega arith))
