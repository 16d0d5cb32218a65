use Rattle.std.proofs.Common.{◌≡◌}
use Rattle.blocks.proofs.Counting.{Tallying}
use Rattle.blocks.proofs.tally.Given as goal

abbrev pub invariant-loop-part : goal.invariant-loop-part
invariant-loop-part g l = record {
  size : l.part-iterator.size ≡ 192;
  tallies : Tallying l.s g.row.LO g.row.HI l.sum l.hits l.part-iterator.rest.now;
}
