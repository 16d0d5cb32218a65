use Rattle.signs.proofs.Counting.{default_none}
use Rattle.following.proofs.Walking.{first_is}
use Rattle.following.proofs.first_pass.Goals as goal

pub returns : goal.returns
returns c = let z = c.default-signs.ensures in first_is _ _ _ c.begun-tables.ensures _ _ (default_none _ z.0) (default_none _ z.1)
