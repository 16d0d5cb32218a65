use Rattle.streams.proofs.Listing.{link_room, link_ready, link_counts, count_laid, count_account, counts_stream}
use native.Mathlib.Omega.{arith}
use Rattle.streams.proofs.count_stream.Goals as goal

pub link_pieces-requires : goal.link_pieces-requires
link_pieces-requires c = link_room _ _ _ c.requires _ c.plan-all.ensures

pub count_spans-s-requires : goal.count_spans-s-requires
count_spans-s-requires c = count_laid _ _ _ (link_ready _ _ _ c.requires _ c.plan-all.ensures _ c.link_pieces.ensures (omega arith)) _ (omega arith) _ c.plan-p.ensures

pub stream_of-requires : goal.stream_of-requires
stream_of-requires c = count_account _ _ _ (link_ready _ _ _ c.requires _ c.plan-all.ensures _ c.link_pieces.ensures (omega arith)) _ (omega arith) _ c.plan-p.ensures _ _ c.count_spans-s.ensures

pub returns : goal.returns
returns c =
    link_counts _ _ _ c.requires _ c.plan-all.ensures _ c.link_pieces.ensures _ _ _
    (counts_stream _ _ _ (link_ready _ _ _ c.requires _ c.plan-all.ensures _ c.link_pieces.ensures (omega arith)) _ (omega arith) _ c.plan-p.ensures _ _ c.count_spans-s.ensures (omega arith) _ c.stream_of.ensures)
