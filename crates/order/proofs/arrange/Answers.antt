use Rattle.order.proofs.Arranging.{arranged_fills, arranged}
use native.Mathlib.Omega.{arith}
use Rattle.order.proofs.arrange.Goals as goal

pub write_names-requires : goal.write_names-requires
write_names-requires c = arranged_fills _ _ _ _ _ c.requires c.place_names-n.ensures c.sort.ensures (omega arith)

pub returns : goal.returns
returns c = arranged _ _ _ _ _ c.requires c.place_names-n.ensures c.sort.ensures _ c.write_names.ensures
