use Rattle.std.proofs.Common.{◌*◌}
use Rattle.unescaping.proofs.Filling.{Filling}
use Rattle.unescaping.proofs.fill.Given as goal

abbrev pub invariant-loop-b : goal.invariant-loop-b
invariant-loop-b l = Filling l.s l.initial.out 0 l.count l.used l.out (16 * l.b)
