use Rattle.counter.proofs.Reading.{signed_none, signed_plus, signed_bare}
use Rattle.std.proofs.lemmas.List.{take_rest}
use mathlib.Core.Path.{◌∙◌}
use native.Mathlib.Omega.{arith}
use Rattle.counter.proofs.read_signed.Goals as goal

pub returns-in-empty : goal.returns-in-empty
returns-in-empty c = signed_none _ (omega arith)

pub returns-in-43 : goal.returns-in-43
returns-in-43 c = rw take_rest at c.read_number.ensures ∙ signed_plus _ (omega arith)

pub returns-in_default : goal.returns-in_default
returns-in_default c = c.read_number-in_default.ensures ∙ signed_bare _ (λ e. omega arith)
