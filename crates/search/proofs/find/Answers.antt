use Rattle.search.proofs.Searching.{passed_found}
use native.Mathlib.Omega.{arith}
use Rattle.search.proofs.find.Goals as goal

pub overflow_add-result : goal.overflow_add-result
overflow_add-result c =
    omega (arith, (passed_found _ _ _ _ c.pass_blocks-at.ensures (λ h. omega (arith, c.min-end.ensures)) (λ h. omega (arith, c.min-end.ensures)) _ c.find_short.ensures).most)

pub returns : goal.returns
returns c = passed_found _ _ _ _ c.pass_blocks-at.ensures (λ h. omega (arith, c.min-end.ensures)) (λ h. omega (arith, c.min-end.ensures)) _ c.find_short.ensures
