use Rattle.packing.proofs.Twins.{Parting}
use Rattle.packing.proofs.put_pairs.Given as goal

abbrev pub invariant-loop-w : goal.invariant-loop-w
invariant-loop-w l = Parting l.pairs l.initial.out l.from l.out l.at l.w-index
