use Rattle.split.proofs.pieces.Pieces.length_of.Goals as goal

pub length_of-requires : goal.length_of-requires
length_of-requires c = let l = c.args.self.lying.chained in record { rows = l.rows; ends = l.ends; words = l.words; row = c.requires }
