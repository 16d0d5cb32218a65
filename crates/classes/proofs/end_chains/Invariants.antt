use Rattle.classes.proofs.Chains.{Ending}
use Rattle.classes.proofs.end_chains.Given as goal

abbrev pub invariant-loop-i : goal.invariant-loop-i
invariant-loop-i l = Ending l.initial.w l.chain l.n l.w l.i
