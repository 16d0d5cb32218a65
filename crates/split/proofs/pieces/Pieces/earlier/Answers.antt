use Rattle.split.proofs.pieces.Pieces.earlier.Goals as goal

pub returns : goal.returns
returns c = rw (c.table.ensures.words, c.table.ensures.plan) at c.earlier.ensures
