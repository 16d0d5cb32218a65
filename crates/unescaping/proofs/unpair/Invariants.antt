use Rattle.unescaping.proofs.Pairs.{Unpairing}
use Rattle.unescaping.proofs.unpair.Given as goal

abbrev pub invariant-loop-i : goal.invariant-loop-i
invariant-loop-i l = Unpairing l.part l.initial.block l.block l.i
