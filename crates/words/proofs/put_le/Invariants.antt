use Prim.Native.Nat.{◌+◌}
use Rattle.words.specs.Copies.{Numbering}
use Rattle.words.proofs.put_le.Given as goal

abbrev pub invariant-loop-i : goal.invariant-loop-i
invariant-loop-i l = Numbering l.v l.width l.initial.out l.at l.out (l.at + l.i) l.rest
