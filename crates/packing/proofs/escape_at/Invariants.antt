use Rattle.packing.proofs.Escapes.{Escaping}
use Rattle.std.proofs.Common.{length}
use Rattle.packing.proofs.escape_at.Given as goal

abbrev pub invariant-loop-rest : goal.invariant-loop-rest
invariant-loop-rest l = Escaping l.initial.out l.from l.src l.out l.at l.rest

abbrev pub decreases-loop-rest : goal.decreases-loop-rest
decreases-loop-rest l = length l.rest
