use Rattle.signs.proofs.Counting.{note_first, note_more}
use Rattle.signs.proofs.note.Goals as goal

pub returns-then-g-eq0 : goal.returns-then-g-eq0
returns-then-g-eq0 c = search note_first

pub returns : goal.returns
returns c = search note_more
