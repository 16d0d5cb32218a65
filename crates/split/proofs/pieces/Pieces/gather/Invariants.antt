use Rattle.split.proofs.Gathers.{Gathering}
use Rattle.split.proofs.pieces.Pieces.gather.Given as goal

abbrev pub invariant-loop-left : goal.invariant-loop-left
invariant-loop-left l = Gathering l.self.file.now l.self.w.now l.self.plan l.i l.h l.initial.out l.at l.out l.j l.left

abbrev pub decreases-loop-left : goal.decreases-loop-left
decreases-loop-left l = l.j
