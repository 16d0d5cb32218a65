use Rattle.blocks.proofs.Counting.{Asking}
use Rattle.blocks.proofs.all_are.Given as goal

abbrev pub invariant-loop-b : goal.invariant-loop-b
invariant-loop-b g l = Asking l.inside l.part g.row.LO g.row.HI l.all l.b-index
