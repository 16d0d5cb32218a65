use Rattle.search.proofs.Searching.{Placing}
use Rattle.search.proofs.place_of.Given as goal

abbrev pub invariant-loop-i : goal.invariant-loop-i
invariant-loop-i l = Placing l.s l.x l.best l.i
