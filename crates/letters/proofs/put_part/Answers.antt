use Rattle.letters.proofs.put_part.Goals as goal

pub returns : goal.returns
returns c = rw c.part.ensures.is at c.copy_to.ensures
