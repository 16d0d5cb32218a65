use Rattle.unescaping.proofs.Filling.{Filling}
use Rattle.unescaping.proofs.fill_few.Given as goal

abbrev pub invariant-loop-k : goal.invariant-loop-k
invariant-loop-k l = Filling l.s l.initial.out l.at l.count l.used l.out l.k
