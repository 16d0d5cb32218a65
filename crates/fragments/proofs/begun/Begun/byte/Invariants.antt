use Prim.Native.Nat.{◌-◌}
use Rattle.fragments.proofs.Walking.{Seeking}
use Rattle.fragments.proofs.begun.Begun.byte.Given as goal

abbrev pub invariant-loop-i : goal.invariant-loop-i
invariant-loop-i l = Seeking l.self.file.now l.self.rows.now l.self.first l.self.upto l.at l.i l.j

abbrev pub decreases-loop-i : goal.decreases-loop-i
decreases-loop-i l = l.self.upto - l.i
