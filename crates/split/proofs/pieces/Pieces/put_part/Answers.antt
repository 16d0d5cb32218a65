use Rattle.split.proofs.Gathers.{put_within}
use Rattle.split.proofs.pieces.Pieces.put_part.Goals as goal

pub part-requires : goal.part-requires
part-requires c = put_within _ _ _ _ _ _ _ _ c.args.self.lying c.requires _ c.piece.ensures
