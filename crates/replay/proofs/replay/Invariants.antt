-- Each turn takes a case, and a case is a byte at least.
use Rattle.std.proofs.Common.{◌≡◌, ◌≤◌, length}
use Rattle.replay.proofs.replay.Given as goal

abbrev pub invariant-loop-case : goal.invariant-loop-case
invariant-loop-case l = (l.case-iterator.sample.now ≡ l.s) × (l.cases ≤ l.case-iterator.at) × (l.cases ≤ length l.s) × (l.differences ≤ l.cases)
