use Prim.Native.Nat.{◌-◌}
use lib.ListN.{length}
use Rattle.packets.specs.Adding.{Walking}
use Rattle.packets.proofs.read_packets.Given as goal

abbrev pub invariant-loop-r : goal.invariant-loop-r
invariant-loop-r l = Walking l.trace l.only l.initial.w l.w l.records l.count l.whole

abbrev pub decreases-loop-r : goal.decreases-loop-r
decreases-loop-r l = length l.records.trace.file.now - l.records.at
