use mathlib.Core.Path.{◌∙◌}
use Rattle.counter.specs.Counter.{mark}
use Rattle.counter.proofs.Reading.{counter_empty, counter_other, unmarked, marked}
use native.Mathlib.Omega.{arith}
use Rattle.counter.proofs.counter_of.Goals as goal

pub returns-in_default : goal.returns-in_default
returns-in_default c = counter_empty _ c.in_default.len_below

pub returns-in_default-2 : goal.returns-in_default-2
returns-in_default-2 c = counter_other _ (λ e. omega arith)

pub returns-in_err-rest : goal.returns-in_err-rest
unfolding mark
returns-in_err-rest c = rw c.from_residual.ensures (unmarked _ _ c.strip_prefix.ensures.cases c.in_err-rest.was)

pub returns : goal.returns
unfolding mark
returns c = c.read_signed.ensures ∙ rw c.after_hyphen.ensures (marked _ _ c.strip_prefix.ensures.cases _ c.in_ok-rest.was)
