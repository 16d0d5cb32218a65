use Rattle.writing.proofs.Writing.{WritingTo}
use Rattle.writing.proofs.write_spans.Given as goal

abbrev pub invariant-loop-i : goal.invariant-loop-i
invariant-loop-i l = WritingTo l.s.file.now l.s.w.now l.s.plan l.initial.out l.out l.i l.at
