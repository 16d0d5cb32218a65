use mathlib.Core.Path.{◌≡◌}
use Prim.Native.Nat.{◌+◌, ◌-◌}
use native.Mathlib.Omega.{arith}
use Rattle.words.proofs.part.Goals as goal

pub returns : goal.returns
returns c = let z : c.args.a + c.args.n - c.args.a ≡ c.args.n = omega arith in rw z
