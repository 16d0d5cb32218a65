use Prim.Native.Nat.{◌-◌, ◌+◌, ◌*◌}
use Rattle.classes.proofs.Walking.{Seeking}
use Rattle.classes.proofs.View.place.Given as goal

abbrev pub invariant-loop-j : goal.invariant-loop-j
invariant-loop-j l = Seeking l.self.w.now l.self.rows l.i l.at l.bits

abbrev pub decreases-loop-j : goal.decreases-loop-j
decreases-loop-j l = l.links + 2 * l.i - l.at
