use Rattle.fragments.proofs.Linking.{note_is}
use Rattle.fragments.proofs.note.Goals as goal

pub returns : goal.returns
returns c = search note_is
