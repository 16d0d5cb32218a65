use Rattle.std.proofs.Common.{◌≡◌}
use Rattle.stretches.specs.Filled.{filled}
use Rattle.stretches.proofs.fill.Given as goal

abbrev pub invariant-loop-i : goal.invariant-loop-i
invariant-loop-i l = l.stretch-items ≡ filled l.work l.i l.initial.stretch-items
