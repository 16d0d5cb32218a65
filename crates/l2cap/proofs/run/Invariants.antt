use Prim.Native.Nat.{◌/◌}
use lib.ListN.{length}
use Rattle.l2cap.proofs.Ranges.{Ranging}
use Rattle.l2cap.proofs.run.Given as goal

abbrev pub invariant-loop-i : goal.invariant-loop-i
invariant-loop-i l = Ranging l.file l.initial.w (length l.file / 4) l.initial.s l.from l.upto l.w l.s l.i
