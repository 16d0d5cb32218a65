use Rattle.order.proofs.Calls.{laid_up}
use Rattle.order.proofs.write_in_order.Goals as goal

pub returns-in-Up : goal.returns-in-Up
returns-in-Up c = laid_up _ _ c.requires _ c.in-Up.is _ _ c.copy_to.ensures
