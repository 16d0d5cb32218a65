use Rattle.unescaping.proofs.Flaws.{Breaking}
use Rattle.unescaping.proofs.count_breaks.Given as goal

abbrev pub invariant-loop-i : goal.invariant-loop-i
invariant-loop-i l = Breaking l.part l.found l.i
