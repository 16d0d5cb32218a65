use Rattle.fragments.proofs.Walking.{paste_is}
use Rattle.fragments.proofs.begun.Begun.paste.Goals as goal

pub returns : goal.returns
returns c = paste_is _ _ _ _ _ _ _ _ _ c.len_of.ensures c.min-n.ensures c.place_of.ensures _ c.part.ensures _ _ c.copy_to.ensures
