use Rattle.letters.proofs.Joining.{rest_short, rest_by}
use Rattle.letters.proofs.rest_after.Goals as goal

pub returns-in_err-front : goal.returns-in_err-front
returns-in_err-front c = rw c.from_residual.ensures (rest_short _ _ c.part-part.ensures _ c.in_err-front.ensures.cases)

pub returns : goal.returns
returns c =
    rw c.then_some.ensures
    (rest_by _ _ c.part-part.ensures _ _ c.in_ok-front.front _ c.same.ensures c.in_ok-front.ensures.cases.1 c.in_ok-front.ensures.cases.2)
