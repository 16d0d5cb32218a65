use Rattle.stretches.proofs.Listing.{Listing}
use Rattle.stretches.proofs.list_spread.Given as goal

abbrev pub invariant-loop-i : goal.invariant-loop-i
invariant-loop-i l = Listing l.initial.w l.p l.w l.i l.k
