use Rattle.std.proofs.Common.{drop}
use Rattle.blocks.proofs.Counting.{Tallying}
use Rattle.blocks.proofs.tally_few.Given as goal

abbrev pub invariant-loop-b : goal.invariant-loop-b
invariant-loop-b g l = Tallying l.part g.row.LO g.row.HI l.sum l.hits (drop l.b-index l.part)
