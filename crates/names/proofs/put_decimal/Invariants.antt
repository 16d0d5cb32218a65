use Rattle.names.proofs.Counting.{Backward}
use Rattle.names.proofs.put_decimal.Given as goal

abbrev pub invariant-loop-to : goal.invariant-loop-to
invariant-loop-to l = Backward l.n l.initial.out l.at l.out l.to l.rest
