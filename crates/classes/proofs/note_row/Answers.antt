use Rattle.classes.proofs.Walking.{note_same, note_met, note_put, note_free}
use Rattle.classes.proofs.note_row.Goals as goal

pub returns-then-has_key : goal.returns-then-has_key
returns-then-has_key c = search note_same

pub put32-requires : goal.put32-requires
put32-requires c = search note_put

pub returns-in-Taken : goal.returns-in-Taken
returns-in-Taken c = search note_met

pub returns-in-Free : goal.returns-in-Free
returns-in-Free c = search note_free
