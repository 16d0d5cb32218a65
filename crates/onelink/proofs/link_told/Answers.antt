use Rattle.onelink.proofs.Listing.{link_calls}
use Rattle.onelink.proofs.link_told.Goals as goal

pub returns : goal.returns
returns c = search link_calls
