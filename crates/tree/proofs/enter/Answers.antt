use Rattle.tree.proofs.Seats.{seat_both}
use Rattle.tree.proofs.enter.Goals as goal

pub returns : goal.returns
returns c = seat_both _ _ c.args.row _ _ c.row_of-s.ensures c.requires _ _ _ _ c.put32.ensures c.put32-2.ensures
