use Rattle.words.proofs.Parts.{part_copied}
use Rattle.words.proofs.copy_part.Goals as goal

pub returns : goal.returns
returns c c' = part_copied _ _ _ _ _ c'.requires _ c'.copy_from_slice.ensures.after
