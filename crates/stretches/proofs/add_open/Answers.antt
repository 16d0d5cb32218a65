use Rattle.stretches.proofs.Listing.{adds, adds_none}
use Rattle.stretches.proofs.add_open.Goals as goal

pub returns-then-is_open : goal.returns-then-is_open
returns-then-is_open c = search adds

pub returns : goal.returns
returns c = search adds_none
