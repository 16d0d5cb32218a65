-- The bytes below the index are filled.
use Rattle.std.proofs.Common.{◌≡◌, ℕ, ◌<◌, get_or}
use Rattle.samples.specs.Samples.{untouched_of}
use Rattle.samples.proofs.fill.Given as goal

abbrev pub invariant-loop-i : goal.invariant-loop-i
invariant-loop-i l = (j : ℕ) → j < l.i → get_or l.out j 0 ≡ untouched_of j
