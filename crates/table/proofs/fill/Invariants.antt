use Rattle.table.specs.Chain.{Filling}
use Rattle.table.proofs.fill.Given as goal

abbrev pub invariant-loop-i : goal.invariant-loop-i
invariant-loop-i l = Filling l.initial.w l.at l.m l.x l.w l.i
