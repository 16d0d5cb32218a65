use Prim.Native.Nat.{◌/◌}
use lib.ListN.{length}
use Rattle.following.proofs.Walking.{Walking}
use Rattle.following.proofs.follow_packets.Given as goal

abbrev pub invariant-loop-r : goal.invariant-loop-r
invariant-loop-r l = Walking l.fn.trace l.initial.w (length l.fn.trace.file.now / 4) l.count l.w l.s l.r-iterator
