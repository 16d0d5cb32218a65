use Rattle.gathering.specs.Gathering.{Gathering}
use Rattle.l2cap.specs.PduTable.{pdus_from}
use Prim.Native.Nat.{◌*◌, ◌/◌}
use lib.ListN.{length}
use Rattle.gathering.proofs.take_pdus.Given as goal

abbrev pub invariant-loop-j : goal.invariant-loop-j
invariant-loop-j l = Gathering l.fcs l.file (pdus_from l.file l.initial.w (2 * (length l.file / 4)) 0 l.made) l.initial.w l.w l.made l.rows l.t l.j l.wrong
