use Rattle.recorded.proofs.Looking.{Looking}
use Rattle.recorded.proofs.record_signs.Given as goal

abbrev pub invariant-loop-r : goal.invariant-loop-r
invariant-loop-r l = Looking l.fn.trace l.s l.r-iterator
