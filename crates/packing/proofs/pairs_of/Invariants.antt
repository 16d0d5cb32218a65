use Rattle.packing.proofs.Twins.{Twinning}
use Rattle.packing.proofs.pairs_of.Given as goal

abbrev pub invariant-loop-i : goal.invariant-loop-i
invariant-loop-i l = Twinning l.part l.initial.pairs l.pairs l.i
