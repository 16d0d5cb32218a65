use Rattle.stretches.proofs.Listing.{listing_start, listing_pre, listing_turn}
use Rattle.stretches.proofs.list_spread.Goals as goal

pub loop-i-init : goal.loop-i-init
loop-i-init c = search listing_start

pub add_open-k-requires : goal.add_open-k-requires
add_open-k-requires c = search listing_pre

pub loop-i-preserved : goal.loop-i-preserved
loop-i-preserved c = search listing_turn
