use lib.ListN.{length}
use Rattle.items.specs.Items.{rx_of}
use Rattle.spans.proofs.Buffers.{Writing}
use Rattle.spans.proofs.write_part.Given as goal

abbrev pub invariant-loop-wire : goal.invariant-loop-wire
invariant-loop-wire l = Writing l.buffer (rx_of l.direction) l.ms l.initial.out l.initial.to l.out l.spans.rest.now l.to

abbrev pub decreases-loop-wire : goal.decreases-loop-wire
decreases-loop-wire l = length l.spans.rest.now
