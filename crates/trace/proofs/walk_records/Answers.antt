use Rattle.trace.proofs.Listings.{listing_start, listing_turn, ended}
use Rattle.trace.proofs.walk_records.Goals as goal

pub loop-r-init : goal.loop-r-init
loop-r-init c = search listing_start

pub loop-r-preserved : goal.loop-r-preserved
loop-r-preserved c = search listing_turn

pub returns : goal.returns
returns c = search ended
