use Rattle.unescaping.proofs.Flaws.{Scanning}
use Rattle.std.proofs.Common.{length}
use Rattle.unescaping.proofs.scan.Given as goal

abbrev pub invariant-loop-rest : goal.invariant-loop-rest
invariant-loop-rest l = Scanning l.s l.sum l.hits l.rest

abbrev pub decreases-loop-rest : goal.decreases-loop-rest
decreases-loop-rest l = length l.rest
