use Prim.Native.Nat.{◌-◌}
use Rattle.fragments.proofs.Walking.{Gathering}
use Rattle.fragments.proofs.begun.Begun.gather.Given as goal

abbrev pub invariant-loop-i : goal.invariant-loop-i
invariant-loop-i l = Gathering l.self.file.now l.self.rows.now l.self.first l.self.upto l.need l.initial.out l.out l.i l.at

abbrev pub decreases-loop-i : goal.decreases-loop-i
decreases-loop-i l = l.self.upto - l.i
