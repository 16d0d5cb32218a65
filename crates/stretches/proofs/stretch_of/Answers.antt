use Rattle.stretches.proofs.Listing.{stretch_is}
use Rattle.stretches.proofs.stretch_of.Goals as goal

pub returns : goal.returns
returns c = search stretch_is
