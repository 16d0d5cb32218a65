use Rattle.stretches.proofs.Spreading.{Spreading}
use Rattle.stretches.proofs.spread_back.Given as goal

abbrev pub invariant-loop-i : goal.invariant-loop-i
invariant-loop-i l = Spreading l.initial.w l.p l.w l.i
