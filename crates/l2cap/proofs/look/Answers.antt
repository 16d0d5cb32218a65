use Rattle.l2cap.proofs.Opens.{look_none, look_some}
use mathlib.Core.Path.{◌∙◌}
use Rattle.l2cap.proofs.look.Goals as goal

pub returns-in_err-first : goal.returns-in_err-first
returns-in_err-first c = c.from_residual.ensures ∙ look_none _ _ _ c.get32.ensures _ c.checked_sub.ensures c.in_err-first.was

pub returns : goal.returns
returns c = look_some _ _ _ c.get32.ensures _ c.checked_sub.ensures _ c.in_ok-first.was _ c.get32-got.ensures
