use Prim.Native.Nat.{◌*◌}
use Rattle.lexical.proofs.Comparing.{Comparing}
use Rattle.lexical.proofs.bytes_le.Given as goal

abbrev pub invariant-loop-i : goal.invariant-loop-i
invariant-loop-i l = Comparing l.a l.b (8 * l.i)
