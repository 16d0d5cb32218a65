use Rattle.names.proofs.Counting.{counter_written}
use Rattle.names.proofs.Digits.{length_six}
use lib.ListN.{length-replicate}
use Prim.Native.Nat.{ℕ}
use native.Mathlib.Omega.{arith}
use Rattle.names.proofs.put_counter.Goals as goal

pub put_zeros-to-requires : goal.put_zeros-to-requires
put_zeros-to-requires c = record { k_bound = omega arith; k_in_bounds = omega (arith, length_six c.args.n) }

pub put_decimal-requires : goal.put_decimal-requires
put_decimal-requires c = omega (arith, length_six c.args.n, length-replicate {A = ℕ} c.saturating_sub-z.result 48)

pub returns : goal.returns
returns c = search counter_written
