use Rattle.laws.proofs.Exits.{handed_up}
use Rattle.unpacking.proofs.Answers.{glance_refused, glance_whole}
use Rattle.unpacking.proofs.inspect.Goals as goal

pub returns-in_err-h : goal.returns-in_err-h
returns-in_err-h c =
    rw (handed_up _ c.from_residual.ensures.1) (glance_refused _ _ c.in_err-h.ensures)

pub returns : goal.returns
returns c = glance_whole _ _ c.in_ok-h.ensures _ c.first_byte.ensures
