use Rattle.fragments.proofs.Linking.{Linking}
use Rattle.fragments.proofs.link_rows.Given as goal

abbrev pub invariant-loop-i : goal.invariant-loop-i
invariant-loop-i l = Linking l.initial.w l.q l.count l.w l.s l.i
