use Rattle.order.proofs.Arranging.{Writing}
use Rattle.order.proofs.write_names.Given as goal

abbrev pub invariant-loop-i : goal.invariant-loop-i
invariant-loop-i l = Writing l.names l.n l.initial.out l.out l.i l.to
