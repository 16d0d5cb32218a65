use Rattle.channels.proofs.Walk.{RunningIn}
use Rattle.channels.proofs.note_pdus.Given as goal

abbrev pub invariant-loop-i : goal.invariant-loop-i
invariant-loop-i l = RunningIn l.file l.initial.w l.made l.w l.t l.i
