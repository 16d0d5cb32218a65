use Rattle.words.proofs.Parts.{Parts}
use Rattle.words.proofs.copy_long.Given as goal

abbrev pub invariant-loop-i : goal.invariant-loop-i
invariant-loop-i l = Parts l.src l.initial.out l.at l.out l.i
