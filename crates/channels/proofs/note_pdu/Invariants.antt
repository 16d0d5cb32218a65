use Prim.Native.Nat.{◌-◌}
use Rattle.channels.proofs.Walk.{NotingIn}
use Rattle.channels.proofs.note_pdu.Given as goal

abbrev pub invariant-loop-at : goal.invariant-loop-at
invariant-loop-at l = NotingIn l.file l.initial.w l.row l.initial.t l.w l.t l.at

abbrev pub decreases-loop-at : goal.decreases-loop-at
decreases-loop-at l = l.size - l.at
