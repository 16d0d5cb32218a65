use Rattle.rfcomm.proofs.PieceRows.{put_row_law}
use Rattle.rfcomm.proofs.put_piece.Goals as goal

pub returns : goal.returns
returns c = put_row_law _ _ _ _ _ _ _ _ c.from.ensures c.pair-size.ensures c.put_stretch.ensures c.put_bytes.ensures
