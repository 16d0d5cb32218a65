use Rattle.leftover.proofs.Meeting.{Leaving}
use Rattle.leftover.proofs.left_open.Given as goal

abbrev pub invariant-loop-r : goal.invariant-loop-r
invariant-loop-r l = Leaving l.fn.trace l.r-iterator l.m
