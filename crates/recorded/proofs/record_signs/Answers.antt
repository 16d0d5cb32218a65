use Rattle.recorded.proofs.Looking.{looking_start, looking_turn, looking_end}
use Rattle.signs.proofs.Counting.{default_none}
use Rattle.recorded.proofs.record_signs.Goals as goal

pub loop-r-init : goal.loop-r-init
loop-r-init c =
    let z = c.default-s.ensures in
    rw c.into_iter-r-iterator.ensures.into_iter_gives
    (looking_start _ _ c.records-r-items.ensures _ _ _ _ _ (default_none _ z.0.0) (default_none _ z.0.1.0) (default_none _ z.0.1.1.0) (default_none _ z.0.1.1.1) z.1)

pub loop-r-preserved : goal.loop-r-preserved
loop-r-preserved c = search looking_turn

pub returns : goal.returns
returns c = search looking_end
