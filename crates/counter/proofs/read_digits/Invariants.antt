use Rattle.counter.proofs.Reading.{Reading}
use Rattle.counter.proofs.read_digits.Given as goal

abbrev pub invariant-loop-b : goal.invariant-loop-b
invariant-loop-b l = Reading l.s l.v l.b-index
