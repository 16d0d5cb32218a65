use Rattle.measuring.proofs.Counting.{CountingTo}
use Rattle.measuring.proofs.count_spans.Given as goal

abbrev pub invariant-loop-i : goal.invariant-loop-i
invariant-loop-i l = CountingTo l.file l.initial.w l.p l.w l.i l.s
