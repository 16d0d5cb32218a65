use Rattle.classes.proofs.Chains.{Linking}
use Rattle.classes.proofs.link_rows.Given as goal

abbrev pub invariant-loop-i : goal.invariant-loop-i
invariant-loop-i l = Linking l.initial.w l.x l.chain l.w l.last l.i
