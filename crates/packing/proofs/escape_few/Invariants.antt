use Rattle.packing.proofs.Escapes.{Escaping}
use Rattle.std.proofs.Common.{drop}
use Rattle.packing.proofs.escape_few.Given as goal

abbrev pub invariant-loop-b : goal.invariant-loop-b
invariant-loop-b l = Escaping l.initial.out l.from l.part l.out l.at (drop l.b-index l.part)
