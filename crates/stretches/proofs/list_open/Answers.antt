use Rattle.stretches.proofs.Listing.{open_listed}
use Rattle.stretches.proofs.Spreading.{front_pre}
use native.Mathlib.Omega.{arith}
use Rattle.stretches.proofs.list_open.Goals as goal

pub returns : goal.returns
returns c = search open_listed

pub list_spread-requires : goal.list_spread-requires
list_spread-requires c = front_pre _ _ _ c.requires c.spread_back.ensures.front (omega arith)
