use Rattle.std.proofs.Common.{◌≡◌, length}
use Rattle.std.specs.Slice.Iter.{iter_rest}
use Rattle.unescaping.specs.Flaws.{flaw_of}
use Rattle.unescaping.proofs.first_flaw.Given as goal

abbrev pub invariant-loop-b : goal.invariant-loop-b
invariant-loop-b l = flaw_of (iter_rest l.bytes) ≡ flaw_of l.s

abbrev pub decreases-loop-b : goal.decreases-loop-b
decreases-loop-b l = length (iter_rest l.bytes)
