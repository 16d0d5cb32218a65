use Rattle.blocks.proofs.Counting.{Summing}
use Rattle.blocks.proofs.checksum.Given as goal

abbrev pub invariant-loop-b : goal.invariant-loop-b
invariant-loop-b l = Summing l.bytes l.sum l.b-index
