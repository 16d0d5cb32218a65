use Rattle.order.proofs.Arranging.{placing_start, placing_turn}
use Rattle.order.proofs.place_names.Goals as goal

pub loop-name-init : goal.loop-name-init
loop-name-init c = (tt, tt, rw c.into_iter-name-iterator.ensures.into_iter_gives (placing_start _ _ c.requires))

pub loop-name-preserved : goal.loop-name-preserved
loop-name-preserved c = (tt, tt, placing_turn _ _ _ _ _ _ c.loop-name.invariant.2 c.requires _ _ c.in-Some.ensures.steps _ c.put32.ensures)
