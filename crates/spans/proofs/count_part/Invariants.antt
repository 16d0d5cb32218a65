use lib.ListN.{length}
use Rattle.spans.proofs.Buffers.{Counting}
use Rattle.spans.proofs.count_part.Given as goal

abbrev pub invariant-loop-wire : goal.invariant-loop-wire
invariant-loop-wire l = Counting l.buffer l.initial.sum l.sum l.spans.rest.now

abbrev pub decreases-loop-wire : goal.decreases-loop-wire
decreases-loop-wire l = length l.spans.rest.now
