use Prim.Native.Nat.{◌-◌, ◌+◌, ◌*◌}
use Rattle.tree.specs.Tree.{Seeking}
use Rattle.tree.proofs.Forest.place.Given as goal

abbrev pub invariant-loop-i : goal.invariant-loop-i
invariant-loop-i l = Seeking l.self.w.now l.self.table l.key l.at l.rest

abbrev pub decreases-loop-i : goal.decreases-loop-i
decreases-loop-i l = l.links + 2 * l.self.table.count - l.at
