use Rattle.letters.proofs.Stems.{Ending}
use Rattle.letters.proofs.find_ending.Given as goal

abbrev pub invariant-loop-p : goal.invariant-loop-p
invariant-loop-p l = Ending l.rest l.p
