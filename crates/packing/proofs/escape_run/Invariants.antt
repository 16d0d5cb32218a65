use Rattle.std.proofs.Common.{◌≡◌}
use Rattle.packing.proofs.Escapes.{Chunking}
use Rattle.packing.proofs.escape_run.Given as goal

abbrev pub invariant-loop-part : goal.invariant-loop-part
invariant-loop-part l = record {
  size : l.part-iterator.size ≡ 16;
  chunks : Chunking l.src l.initial.out l.from l.out l.at l.used l.part-iterator.rest.now;
}
