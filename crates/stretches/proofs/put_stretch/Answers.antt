use Rattle.stretches.proofs.Listing.{put_is}
use Rattle.stretches.proofs.put_stretch.Goals as goal

pub returns : goal.returns
returns c = put_is _ _ _ _ _ _ _ _ _ c.put32.ensures c.put32-2.ensures c.put32-3.ensures c.put32-4.ensures c.put32-5.ensures c.put32-6.ensures
