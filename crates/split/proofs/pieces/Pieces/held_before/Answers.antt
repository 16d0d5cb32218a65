use Rattle.split.proofs.pieces.Pieces.held_before.Goals as goal

pub returns : goal.returns
returns c = rw (c.table.ensures.words, c.table.ensures.plan) at c.held_before.ensures
