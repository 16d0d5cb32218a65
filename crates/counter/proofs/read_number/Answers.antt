use Rattle.counter.proofs.Reading.{number_none, number_empty, number_some}
use mathlib.Core.Path.{◌∙◌}
use native.Mathlib.Omega.{arith}
use Rattle.counter.proofs.read_number.Goals as goal

pub returns-in_default : goal.returns-in_default
returns-in_default c = c.read_digits.ensures ∙ number_some _ c.in_default.len_at_least (λ e. omega arith)

pub returns-in-empty : goal.returns-in-empty
returns-in-empty c = number_none _ (omega arith)

pub returns-in-empty-2 : goal.returns-in-empty-2
returns-in-empty-2 c = number_empty _ (omega arith)
