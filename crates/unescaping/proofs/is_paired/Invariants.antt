use Rattle.unescaping.proofs.Pairs.{Pairing}
use Rattle.unescaping.proofs.is_paired.Given as goal

abbrev pub invariant-loop-i : goal.invariant-loop-i
invariant-loop-i l = Pairing l.part l.all l.i
