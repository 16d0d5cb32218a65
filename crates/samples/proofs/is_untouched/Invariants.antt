-- The bytes from the place on and below the index are untouched.
use Rattle.std.proofs.Common.{◌≡◌, ℕ, ◌<◌, ◌≤◌, get_or}
use Rattle.samples.specs.Samples.{untouched_of}
use Rattle.samples.proofs.is_untouched.Given as goal

abbrev pub invariant-loop-i : goal.invariant-loop-i
invariant-loop-i l = (j : ℕ) → j < l.i → l.from ≤ j → get_or l.out j 0 ≡ untouched_of j
