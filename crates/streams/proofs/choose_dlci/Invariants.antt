use Rattle.streams.proofs.Choosing.{Choosing}
use Rattle.streams.proofs.choose_dlci.Given as goal

abbrev pub invariant-loop-i : goal.invariant-loop-i
invariant-loop-i l = Choosing l.file l.initial.w l.n l.channel l.w l.tried l.i
