use Prim.Native.Nat.{◌+◌}
use lib.ListN.{drop}
use Rattle.laws.specs.Stores.{Emitting}
use Rattle.words.proofs.copy_bytes.Given as goal

abbrev pub invariant-loop-i : goal.invariant-loop-i
invariant-loop-i l = Emitting l.initial.out l.at l.src l.out (l.at + l.i) (drop l.i l.src)
