use Prim.Native.Nat.{◌*◌}
use Rattle.words.proofs.Fields.{Alike}
use Rattle.words.proofs.same.Given as goal

abbrev pub invariant-loop-k : goal.invariant-loop-k
invariant-loop-k l = Alike l.a l.b (8 * l.k)
