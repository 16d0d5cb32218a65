use Rattle.search.proofs.Searching.{Lacking}
use Rattle.search.proofs.is_without.Given as goal

abbrev pub invariant-loop-b : goal.invariant-loop-b
invariant-loop-b l = Lacking l.s l.x l.found l.b-index
