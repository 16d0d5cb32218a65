use Prim.Native.Nat.{◌-◌}
use lib.ListN.{length}
use Rattle.packets.specs.Adding.{Passed}
use Rattle.packets.proofs.pass_empty.Given as goal

abbrev pub invariant-loop-i : goal.invariant-loop-i
invariant-loop-i l = Passed l.trace.format l.trace.file.now l.at (record { end = l.i; count = l.count })

abbrev pub decreases-loop-i : goal.decreases-loop-i
decreases-loop-i l = length l.trace.file.now - l.i
