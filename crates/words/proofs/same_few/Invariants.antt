use Rattle.words.proofs.Fields.{Alike}
use Rattle.words.proofs.same_few.Given as goal

abbrev pub invariant-loop-i : goal.invariant-loop-i
invariant-loop-i l = Alike l.a l.b l.i
