use Rattle.streams.proofs.Listing.{link_room, link_ready, link_chooses}
use native.Mathlib.Omega.{arith}
use Rattle.streams.proofs.choose_stream.Goals as goal

pub link_pieces-requires : goal.link_pieces-requires
link_pieces-requires c = link_room _ _ _ c.requires _ c.plan-all.ensures

pub choose_dlci-requires : goal.choose_dlci-requires
choose_dlci-requires c = link_ready _ _ _ c.requires _ c.plan-all.ensures _ c.link_pieces.ensures (omega arith)

pub returns : goal.returns
returns c = link_chooses _ _ _ c.requires _ c.plan-all.ensures _ c.link_pieces.ensures (omega arith) _ _ _ c.choose_dlci.ensures (omega arith)
