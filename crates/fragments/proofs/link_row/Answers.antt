use Rattle.fragments.proofs.Linking.{link_stepped}
use Rattle.fragments.proofs.link_row.Goals as goal

pub returns : goal.returns
returns c = link_stepped _ _ _ _ _ c.requires _ c.get32-key.ensures _ _ c.seat_key-t.ensures _ c.head_of-next.ensures _ c.len_of-n.ensures _ c.head_with.ensures _ c.note.ensures
