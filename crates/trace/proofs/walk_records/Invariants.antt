use Rattle.trace.specs.Listings.{Listing}
use Prim.Native.Nat.{◌-◌}
use lib.ListN.{length}
use Rattle.trace.proofs.walk_records.Given as goal

abbrev pub invariant-loop-r : goal.invariant-loop-r
invariant-loop-r l = Listing l.trace l.initial.starts l.starts l.records l.count

abbrev pub decreases-loop-r : goal.decreases-loop-r
decreases-loop-r l = length l.records.trace.file.now - l.records.at
